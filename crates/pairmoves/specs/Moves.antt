-- A PAIR OF PERMUTATIONS: where an element comes from, and that the rows and then the columns, moved in place, take it there.
use Rattle.std.specs.Prelude.{Bool, true, false, List, ◌≢◌, ◌≡◌, refl, ℕ, ◌+◌, ◌*◌, ◌/◌, ◌%◌, ◌≤◌, ◌<◌, ℤ, length}
use Rattle.std.proofs.Common.{sym, ap, ◌∙◌, mul-le-mul, arith}
use Rattle.std.proofs.Math.Decide.{ℕ_discrete}
use Rattle.std.proofs.Math.Nat as NatL
use Rattle.rules.specs.Numbers.{most_cells, at}
use Rattle.rules.specs.GoodStages.{Permutes}
use Rattle.rules.proofs.Laws.Lists.{same-list}
use Rattle.rules.proofs.Laws.Rectangles.{row_below, col-below, element-below, row-of, col-of, pair-permutes}
use Rattle.factor.specs.declared.Layout.{Layout}
use Rattle.factor.specs.LayoutInSheet.{Moves, permutation_at}
use Rattle.factor.specs.InPlace.{apart}
use Rattle.factor.specs.MovedInPlace.{to_of, from_of, scattered, moved_by, moved_line, length-scattered, scattered-other}
use Rattle.factor.specs.MovedInPlace.{scattered-at, moved-scattered, to-permutes, from-permutes}

-- where element e comes from: "Y(i,j) = X(p(i), q(j))"
unfoldable pub source_of : List ℤ → Layout → List ℤ → Layout → ℕ → ℕ
source_of c fa r fb e = permutation_at c fa (e / fb.order) * fb.order + permutation_at r fb (e % fb.order)

-- a block of two orders
pub few : {c r : List ℤ} {fa fb : Layout} → Moves c fa → Moves r fb → fa.order * fb.order ≤ most_cells
few h k = mul-le-mul h.order k.order

-- lines of n numbers, s apart, each line w places after the one before it: no place stands on two of them, or twice on one
pub record Lines (many n w s room : ℕ) : Type 0 where
  pub starts : many * w ≤ room
  pub inside : (l m : ℕ) → l < many → m < n → l * w + m * s < room
  pub once : (l i m j : ℕ) → l < many → i < many → m < n → j < n → l * w + m * s ≡ i * w + j * s → (l ≡ i) × (m ≡ j)

-- the rows of a block
pub rows : (n1 n2 room : ℕ) → n1 * n2 ≤ room → Lines n1 n2 n2 1 room
rows n1 n2 room h = record {
  starts = h;
  inside = λ l m a b. omega (arith, element-below n1 n2 l m a b);
  once = λ l i m j a b c d e.
      let z : l * n2 + m ≡ i * n2 + j = omega arith in (
        sym (row-of n1 n2 l m c) ∙ ap (λ (k : ℕ). k / n2) z ∙ row-of n1 n2 i j d,
        sym (col-of n1 n2 l m c)
            ∙ ap (λ (k : ℕ). k % n2) z ∙ col-of n1 n2 i j d,
      );
}

-- its columns are the rows, looked at the other way
pub columns : (n1 n2 room : ℕ) → n2 ≤ room → n1 * n2 ≤ room → Lines n2 n1 1 n2 room
columns n1 n2 room b h =
    let r = rows n1 n2 room h in
    record {
      starts = omega arith;
      inside = λ l m a b. omega (arith, r.inside m l b a);
      once = λ l i m j a b c d e. let z = r.once m j l i c d a b (omega arith) in (z.1, z.0);
    }

-- x before, y after: every number of the first lines went its way, and no other place changed
pub record MovedLines (many n w s : ℕ) (to from : ℕ → ℕ) (x y : List ℤ) : Type 0 where
  pub long : length y ≡ length x
  pub there : (l m : ℕ) → l < many → m < n → at y (l * w + to m * s) ≡ at x (l * w + from m * s)
  pub other : (e : ℕ) → ((l m : ℕ) → l < many → m < n → e ≢ l * w + m * s) → at y e ≡ at x e

-- by the permutation of a sheet
abbrev pub MovedBySheet : List ℤ → Layout → Bool → ℕ → ℕ → ℕ → List ℤ → List ℤ → Type 0
MovedBySheet sheet f back many w s x y =
    MovedLines many f.order w s (to_of back (permutation_at sheet f)) (from_of back (permutation_at sheet f)) x y

pub no_line : {n w s : ℕ} {to from : ℕ → ℕ} {x : List ℤ} → MovedLines 0 n w s to from x x
no_line = record { long = refl; there = λ l m a b. absurd (omega arith); other = λ e h. refl }

-- one line more
pub next-line :
    {many n w s : ℕ} {p : ℕ → ℕ} (back : Bool) (l : ℕ) {x y z : List ℤ} → Lines many n w s (length x) → Permutes n p → l < many →
    MovedLines l n w s (to_of back p) (from_of back p) x y → z ≡ moved_line back n p (l * w) s y →
    MovedLines (l + 1) n w s (to_of back p) (from_of back p) x z
unfolding moved_line
next-line {many} {n} {w} {s} {p} back l {x} {y} {z} h q b a e = rw e (record {
  long = length-scattered n _ _ y ∙ a.long;
  there = λ i m g d. go i m g d (ℕ_discrete i l);
  other = λ k f. scattered-other n _ _ y k (λ m d. f l _ (omega arith) (t.below m d))
      ∙ a.other k (λ i m g d. f i m (omega arith) d);
})
  where
    t : Permutes n (to_of back p)
    t = to-permutes back q

    u : Permutes n (from_of back p)
    u = from-permutes back q

    go : (i m : ℕ) → i < l + 1 → m < n → Dec (i ≡ l) →
        at (moved_line back n p (l * w) s y) (i * w + to_of back p m * s) ≡ at x (i * w + from_of back p m * s)
    go i m g d (yes k) =
        rw k
        (scattered-at n (λ m. l * w + to_of back p m * s) _ y
        (λ j v. omega (arith, h.inside l _ b (t.below j v), a.long))
        (λ j f v r d' e'. apart t j f v r d' (h.once l l _ _ b b (t.below j v) (t.below f r) e').1)
        m d
        ∙ a.other _ (λ j f v r e'. omega (arith, (h.once l j _ f b (omega arith) (u.below m d) r e').0)))
    go i m g d (no k) =
        scattered-other n _ _ y _ (λ j v e'. k (h.once i l _ _ (omega arith) b (t.below m d) (t.below j v) e').0)
        ∙ a.there i m (omega arith) d

-- the rows and then the columns
module _ (back : Bool) (n1 n2 : ℕ) {p q : ℕ → ℕ} (hp : Permutes n1 p) (hq : Permutes n2 q) where
  abbrev source : ℕ → ℕ
  source e = p (e / n2) * n2 + q (e % n2)

  -- a place, as its row and as its column has it
  in_row_lem : (i j : ℕ) → i * n2 + j ≡ i * n2 + j * 1
  in_row_lem i j = omega arith

  in-column : (i j : ℕ) → i * n2 + j ≡ j * 1 + i * n2
  in-column i j = omega arith

  -- what goes where, by row and column
  pub to_is : (b : Bool) (e : ℕ) → to_of b source e ≡ to_of b p (e / n2) * n2 + to_of b q (e % n2)
  to_is true e = refl
  to_is false e = sym (NatL.div-add-mod' e n2)

  pub from_is : (b : Bool) (e : ℕ) → from_of b source e ≡ from_of b p (e / n2) * n2 + from_of b q (e % n2)
  from_is true e = sym (NatL.div-add-mod' e n2)
  from_is false e = refl

  -- every number of the block went its way, and no other place changed
  pub all-went : (x : List ℤ) {y : List ℤ} → length y ≡ length x → n1 * n2 ≤ length x →
      ((e : ℕ) → e < n1 * n2 → at y (to_of back source e) ≡ at x (from_of back source e)) →
      ((k : ℕ) → n1 * n2 ≤ k → at y k ≡ at x k) →
      y ≡ moved_by back (n1 * n2) (λ e. p (e / n2) * n2 + q (e % n2)) x
  all-went x {y} long room went other =
      same-list (n1 * n2) y _ (long ∙ sym (length-scattered (n1 * n2) _ _ x)) below
      (λ k l. other k l ∙ sym (scattered-other (n1 * n2) _ _ x k (λ m b e. omega (arith, t.below m b))))
      ∙ sym (moved-scattered back (n1 * n2) source x)
    where
      t : Permutes (n1 * n2) (to_of back source)
      t = to-permutes back (pair-permutes n1 n2 hp hq)

      taken : ℕ → ℤ
      taken m = at x (from_of back source m)

      below : (k : ℕ) → k < n1 * n2 → at y k ≡ at (scattered (n1 * n2) (to_of back source) taken x) k
      below k l =
          let b = t.from-below k l in
          rw (t.to-from k l) at (went _ b
          ∙ sym (scattered-at (n1 * n2) (to_of back source) taken x (λ m d. omega (arith, t.below m d)) (apart t) _ b))

  module _ {x z y : List ℤ} (room : n1 * n2 ≤ length x)
      (r : MovedLines n1 n2 n2 1 (to_of back q) (from_of back q) x z)
      (c : MovedLines n2 n1 1 n2 (to_of back p) (from_of back p) z y) where
    went : (e : ℕ) → e < n1 * n2 → at y (to_of back source e) ≡ at x (from_of back source e)
    went e l =
        let i = row_below n1 n2 e l in
        let j = col-below n1 n2 e l in
        ap (at y) (to_is back e ∙ in-column _ _)
        ∙ c.there _ (e / n2) ((to-permutes back hq).below _ j) i
        ∙ ap (at z) (sym (in-column _ _) ∙ in_row_lem _ _)
        ∙ r.there _ (e % n2) ((from-permutes back hp).below _ i) j
        ∙ ap (at x) (sym (in_row_lem _ _) ∙ sym (from_is back e))

    pub pair-moved : y ≡ moved_by back (n1 * n2) (λ e. p (e / n2) * n2 + q (e % n2)) x
    pair-moved =
        all-went x (c.long ∙ r.long) room went
        (λ k l.
        c.other k (λ i m a b e. omega (arith, (rows n1 n2 (n1 * n2) (omega arith)).inside m i b a))
        ∙ r.other k (λ i m a b e. omega (arith, (rows n1 n2 (n1 * n2) (omega arith)).inside i m a b)))
