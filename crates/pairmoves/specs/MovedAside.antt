-- A PAIR OF PERMUTATIONS FROM ONE BLOCK TO ANOTHER, row by row: from the lent numbers, and into the output.
use Rattle.std.specs.Prelude.{Bool, List, ◌≡◌, refl, ℤ, pos, length}
use Rattle.std.proofs.Common.{sym, ap, ◌∙◌, arith, ext_get_or}
use Prim.Native.Nat.{ℕ, ◌+◌, ◌*◌, ◌/◌, ◌%◌, ◌≤◌, ◌<◌}
use Rattle.std.proofs.Math.Decide.{ℕ_discrete}
use Rattle.rules.specs.declared.Kind.TheVariants.{Permutation}
use Rattle.rules.specs.Numbers.{at, count}
use Rattle.rules.specs.Sheets.{kind_of}
use Rattle.rules.specs.Stages.{fill}
use Rattle.rules.specs.GoodStages.{Permutes}
use Rattle.rules.proofs.Laws.Lists.{length-fill, fill-at, fill-past}
use Rattle.rules.proofs.Laws.Rectangles.{row_below, col-below, element-below, row-of}
use Rattle.laws.specs.Accepted.{FactorRead, Counts, place-counts}
use Rattle.laws.specs.Sound.{places-permute}
use Rattle.factor.specs.InPlace.{apart}
use Rattle.factor.specs.MovedInPlace.{to_of, from_of, scattered, moved_by, length-scattered, scattered-other, scattered-at}
use Rattle.factor.specs.MovedInPlace.{to-permutes, from-permutes}
use Rattle.pairmoves.specs.Moves.{to_is, from_is, all-went}

-- a permutation of order n whose places stand in a sheet from place i on
abbrev pub place_at : List ℤ → ℕ → ℕ → ℕ
place_at s i m = count s (i + m)

pub record Places (s : List ℤ) (i n : ℕ) : Type 0 where
  pub counts : (m : ℕ) → m < n → Counts s (i + m)
  pub permutes : Permutes n (place_at s i)

-- they follow the kind number of a checked factor
pub places-after : {s : List ℤ} {n i : ℕ} → FactorRead s n i → kind_of (count s i) ≡ Permutation → Places s (i + 1) n
places-after h q = record {
  counts = λ m b. place-counts ((h.body.places q).each m b);
  permutes = places-permute (h.body.places q);
}

-- a row of n numbers, which starts at o in x, moved to the row that starts at k in y
unfoldable pub moved_row : Bool → ℕ → (ℕ → ℕ) → List ℤ → ℕ → ℕ → List ℤ → List ℤ
moved_row back n q x o k y = scattered n (λ j. k + to_of back q j) (λ j. at x (o + from_of back q j)) y

-- y before, z after: the first rows that were taken went from x their way, and no place behind the block changed
pub record MovedRows (rows : ℕ) (back : Bool) (n1 n2 : ℕ) (p q : ℕ → ℕ) (x y z : List ℤ) : Type 0 where
  pub long : length z ≡ length y
  pub there : (i j : ℕ) → i < rows → j < n2 →
      at z (to_of back p i * n2 + to_of back q j) ≡ at x (from_of back p i * n2 + from_of back q j)
  pub other : (k : ℕ) → n1 * n2 ≤ k → at z k ≡ at y k

-- all of them, by the permutations of two sheets, whose places stand from p and from q on
abbrev pub MovedInto : Bool → List ℤ → ℕ → ℕ → List ℤ → ℕ → ℕ → List ℤ → List ℤ → List ℤ → Type 0
MovedInto back c p n1 r q n2 x y z = MovedRows n1 back n1 n2 (place_at c p) (place_at r q) x y z

pub no_row : {back : Bool} {n1 n2 : ℕ} {p q : ℕ → ℕ} {x y : List ℤ} → MovedRows 0 back n1 n2 p q x y y
no_row = record { long = refl; there = λ i j a b. absurd (omega arith); other = λ k l. refl }

-- what was moved over the front of y, over another list that is the same behind the block
pub moved-over :
    {rows : ℕ} {back : Bool} {n1 n2 : ℕ} {p q : ℕ → ℕ} {x y z w : List ℤ} → MovedRows rows back n1 n2 p q x y z →
    length w ≡ length y → ((k : ℕ) → n1 * n2 ≤ k → at w k ≡ at y k) →
    MovedRows rows back n1 n2 p q x w z
moved-over m long same = record { long = m.long ∙ sym long; there = m.there; other = λ k l. m.other k l ∙ sym (same k l) }

module _ (back : Bool) {n1 n2 : ℕ} {p q : ℕ → ℕ} (hp : Permutes n1 p) (hq : Permutes n2 q) where
  tp : Permutes n1 (to_of back p)
  tp = to-permutes back hp

  tq : Permutes n2 (to_of back q)
  tq = to-permutes back hq

  -- one row more
  pub next_row : {l : ℕ} {x y z w : List ℤ} → l < n1 → n1 * n2 ≤ length y → MovedRows l back n1 n2 p q x y z →
      w ≡ moved_row back n2 q x (from_of back p l * n2) (to_of back p l * n2) z →
      MovedRows (l + 1) back n1 n2 p q x y w
  unfolding moved_row
  next_row {l} {x} {y} {z} below room m e = rw e (record {
    long = length-scattered n2 _ _ z ∙ m.long;
    there = λ i j a b. go i j a b (ℕ_discrete i l);
    other = λ k a. scattered-other n2 _ _ z k (λ j b f. omega (arith, inside j b)) ∙ m.other k a;
  })
    where
      k : ℕ
      k = to_of back p l * n2

      inside : (j : ℕ) → j < n2 → to_of back p l * n2 + to_of back q j < n1 * n2
      inside j b = element-below n1 n2 _ _ (tp.below l below) (tq.below j b)

      g : ℕ → ℤ
      g j = at x (from_of back p l * n2 + from_of back q j)

      go : (i j : ℕ) → i < l + 1 → j < n2 → Dec (i ≡ l) →
          at (scattered n2 (λ j. k + to_of back q j) g z) (to_of back p i * n2 + to_of back q j)
          ≡ at x (from_of back p i * n2 + from_of back q j)
      go i j a b (yes f) =
          rw f
          (scattered-at n2 (λ j. k + to_of back q j) g z
          (λ v d. omega (arith, m.long, inside v d))
          (λ u v d d' f' h. apart tq u v d d' f' (omega arith))
          j b)
      go i j a b (no f) =
          scattered-other n2 _ _ z _
          (λ v d h.
          let same = sym (row-of n1 n2 _ _ (tq.below j b)) ∙ ap (λ (e : ℕ). e / n2) h ∙ row-of n1 n2 _ _ (tq.below v d) in
          apart tp i l (omega arith) below f same)
          ∙ m.there i j (omega arith) b

  -- the whole block over itself: the numbers that were moved from are those of y
  pub into-moved : {x z : List ℤ} (y : List ℤ) → n1 * n2 ≤ length y → ((k : ℕ) → k < n1 * n2 → at x k ≡ at y k) →
      MovedRows n1 back n1 n2 p q x y z →
      z ≡ moved_by back (n1 * n2) (λ e. p (e / n2) * n2 + q (e % n2)) y
  into-moved {x} {z} y room same m =
      all-went back n1 n2 hp hq y m.long room
      (λ e l.
      let i = row_below n1 n2 e l in
      let j = col-below n1 n2 e l in
      ap (at z) (to_is back n1 n2 hp hq back e)
      ∙ m.there _ _ i j
      ∙ same _ (element-below n1 n2 _ _ ((from-permutes back hp).below _ i) ((from-permutes back hq).below _ j))
      ∙ ap (at y) (sym (from_is back n1 n2 hp hq back e)))
      m.other

  -- into an output of the block's length: the front of the block, moved
  pub moved_out : {x y z : List ℤ} → length y ≡ n1 * n2 → n1 * n2 ≤ length x → MovedRows n1 back n1 n2 p q x y z →
      z ≡ fill (length y) (at (moved_by back (n1 * n2) (λ e. p (e / n2) * n2 + q (e % n2)) x)) y
  moved_out {x} {y} {z} long room m =
      ext_get_or (pos 0) _ _ (m.long ∙ sym (length-fill _ _ y))
      (λ k l.
      let b : k < n1 * n2 = omega (arith, m.long) in
      sym (fill-at (n1 * n2) (at z) x k b room)
      ∙ ap (λ (v : List ℤ). at v k) over
      ∙ sym (fill-at (length y) _ y k (omega arith) (omega arith)))
    where
      over : fill (n1 * n2) (at z) x ≡ moved_by back (n1 * n2) (λ e. p (e / n2) * n2 + q (e % n2)) x
      over = into-moved {x = x} x room (λ k l. refl) (record {
        long = length-fill _ _ x;
        there = λ i j a b.
            fill-at (n1 * n2) (at z) x _ (element-below n1 n2 _ _ (tp.below i a) (tq.below j b)) room ∙ m.there i j a b;
        other = λ k l. fill-past _ _ x k l;
      })
