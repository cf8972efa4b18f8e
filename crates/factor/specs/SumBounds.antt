-- WHAT A SUM ASKS: its numbers are there, and small enough for 64 bits.
use Rattle.std.specs.Prelude.{List, [], ◌∷◌, ◌++◌, Bool, true, false, cond, ◌≡◌, refl, ℕ, zero, suc, ◌+◌, ◌-◌, ◌*◌, ◌/◌, ◌≤◌, ◌<◌, T, leb, ℤ, pos, negsuc, nat_abs, ◌-ℤ◌, ◌*ℤ◌, length, set, take, drop}
use Rattle.std.proofs.Common.{length-append, get_or-append-add, le_refl, sym, ap, ◌∙◌, le_trans, mul-le-mul_right, add-one, le-leb, leb-true, leb-false, length-drop, take_all}
use Rattle.std.proofs.Math.Path.{ap₂}
use Rattle.std.proofs.Math.Decide.{ℕ_discrete, dec_lt}
use native.Mathlib.Omega.{arith}
use Rattle.std.proofs.lemmas.Bool.{lt-leb}
use Rattle.std.proofs.Math.IntN.{◌+ℤ◌}
use Rattle.std.proofs.Math.ListN.{get_or-append}
use Rattle.std.proofs.Math.Seq.{set_out, get_or-drop}
use Rattle.std.specs.Int.Signed.{non_neg, le_z, lt_z}
use Rattle.whole.specs.Diff.{lia, given₁, Within}
use Rattle.whole.specs.Machine.{within-*, within-+, within-le}
use Rattle.whole.specs.Stated.{sum}
use Rattle.whole.specs.Sum.{sum-cong, sum-within}
use Rattle.rules.specs.declared.Kind.{Kind}
use Rattle.rules.specs.declared.Kind.TheVariants.{Permutation, Lower, Upper, Single}
use Rattle.rules.specs.Numbers.{most_order, most_entry, most_allowance, at, count}
use Rattle.rules.specs.Sheets.{kind_of, triangle}
use Rattle.rules.specs.Factors.{signs_at, numbers, above}
use Rattle.rules.specs.Stages.{fill, inside, put_back}
use Rattle.rules.proofs.Laws.Lists.{inside-yes, inside-no, set_at, set_other}
use Rattle.laws.specs.Tests.{triangle-twice}
use Rattle.laws.specs.Accepted.{FactorRead, factor-room}
use Rattle.factor.specs.declared.Row.{Row}
use Rattle.factor.specs.Layouts.{layout_by, layout_at, along}

-- every number of a list lies within a bound
pub record Bounded (most : ℕ) (x : List ℤ) : Type 0 where
  pub small : (k : ℕ) → Within most (at x k)

pub bounded-le : {a b : ℕ} {x : List ℤ} → a ≤ b → Bounded a x → Bounded b x
bounded-le l h = record { small = λ k. within-le l (h.small k) }

-- one number more at the end of a list
inside-front : (most n : ℕ) (v w : List ℤ) → n ≤ length v → inside most n (v ++ w) ≡ inside most n v
unfolding inside
inside-front most zero v w l = refl
inside-front most (suc n) v w l =
    rw (get_or-append v w (pos 0) n (omega arith), inside-front most n v w (omega arith))

pub inside-more : (most : ℕ) (v : List ℤ) (z : ℤ) →
    inside most (length (v ++ z ∷ [])) (v ++ z ∷ []) ≡ cond (leb (nat_abs z) most) (inside most (length v) v) false
unfolding inside
inside-more most v z =
    let e : length (v ++ z ∷ []) ≡ suc (length v) = omega (arith, length-append v (z ∷ [])) in
    let q : length v + 0 ≡ length v = omega arith in
    let last = rw q at (get_or-append-add v (z ∷ []) 0 (pos 0)) in
    rw (e, last, inside-front most (length v) v (z ∷ []) (le_refl (length v)))

-- m entries of a, and as many numbers of x: samples, coefficients or allowances, none beyond the larger of the two limits
pub record Terms (a x : List ℤ) (m : ℕ) : Type 0 where
  pub room : m ≤ length a
  pub across : m ≤ length x
  pub few : m ≤ most_order
  pub entries : (j : ℕ) → j < m → Within most_entry (at a j)
  pub numbers : (j : ℕ) → j < m → Within most_allowance (at x j)

-- row m of a factor of order n has its entries inside the sheet, in columns below n
pub record RowIn (s : List ℤ) (n : ℕ) (r : Row) (m : ℕ) : Type 0 where
  pub room : r.at + (r.left + r.right) ≤ length s
  pub left : r.left ≤ m
  pub right : suc m + r.right ≤ n
  pub entries : (j : ℕ) → j < r.left + r.right → Within most_entry (at s (r.at + j))

-- the first j of at most n products
partial : {A B : ℕ} (n j : ℕ) (u x : ℕ → ℤ) → j ≤ n → ((k : ℕ) → k < j → Within A (u k)) → ((k : ℕ) → k < j → Within B (x k)) →
    Within (n * (A * B)) (sum j (λ k. u k *ℤ x k))
partial {A} {B} n j u x l h k = within-le (mul-le-mul_right (A * B) l) (sum-within j _ (λ i c. within-* (h i c) (k i c)))

-- the sum of the first j terms
pub sum-small : {a x : List ℤ} {m : ℕ} → Terms a x m → (i : ℕ) → i ≤ m →
    Within (most_order * (most_entry * most_allowance)) (sum i (λ j. at a j *ℤ at x j))
sum-small {a} {x} t i l =
    let h = t.few in
    partial most_order i (at a) (at x) (omega arith) (λ j b. t.entries j (omega arith)) (λ j b. t.numbers j (omega arith))

-- ---- how many entries stand before a row
pub half-triangle : (m : ℕ) → (m * m - m) / 2 ≡ triangle m
half-triangle m = omega (arith, triangle-twice m)

pub above-triangle : (n m : ℕ) → m ≤ n → above n m + triangle m ≡ m * (n - 1)
unfolding above triangle
above-triangle n zero l = omega arith
above-triangle n (suc m) l = omega (arith, above-triangle n m (omega arith))

-- ---- a row's two runs
module _ {s x : List ℤ} {r : Row} {m : ℕ} (h : RowIn s most_order r m) (k : Bounded most_allowance x)
    (wide : length x ≡ most_order) where
  pub left-terms : Terms (drop r.at s) x r.left
  left-terms = record {
    room = let a = h.room in omega (arith, length-drop r.at s);
    across = let a = h.left in let b = h.right in omega arith;
    few = let a = h.left in let b = h.right in omega arith;
    entries = λ j b. rw (get_or-drop r.at s j (pos 0)) (h.entries j (omega arith));
    numbers = λ j b. k.small j;
  }

  pub right-terms : Terms (drop (r.at + r.left) s) (drop (m + 1) x) r.right
  right-terms = record {
    room = let a = h.room in omega (arith, length-drop (r.at + r.left) s);
    across = let a = h.right in omega (arith, length-drop (m + 1) x);
    few = let a = h.right in omega arith;
    entries = λ j b.
        let e : r.at + (r.left + j) ≡ r.at + r.left + j = omega arith in
        rw (get_or-drop (r.at + r.left) s j (pos 0)) (rw e at (h.entries (r.left + j) (omega arith)));
    numbers = λ j b. rw (get_or-drop (m + 1) x j (pos 0)) (k.small (m + 1 + j));
  }

  -- both sums, as the code makes them
  pub along-runs :
      sum r.left (λ j. at (drop r.at s) j *ℤ at x j) +ℤ sum r.right
      (λ j. at (drop (r.at + r.left) s) j *ℤ at (drop (m + 1) x) j)
      ≡ along (at s) r m x
  unfolding along
  along-runs =
      ap₂ ◌+ℤ◌
      (sum-cong r.left _ _ (λ j b. rw (get_or-drop r.at s j (pos 0))))
      (sum-cong r.right _ _ (λ j b. rw (get_or-drop (r.at + r.left) s j (pos 0), get_or-drop (m + 1) x j (pos 0), add-one)))

-- the sum along a row
module _ {s x : List ℤ} {r : Row} {m : ℕ} (h : RowIn s most_order r m) (k : Bounded most_allowance x) where
  pub along-small : Within (32 * (most_entry * most_allowance)) (along (at s) r m x)
  unfolding along
  along-small =
      within-le (omega arith)
      (within-+
      (sum-within r.left _ (λ j b. within-* (h.entries j (omega arith)) (k.small j)))
      (sum-within r.right _
      (λ j b.
      let e : r.at + (r.left + j) ≡ r.at + r.left + j = omega arith in
      within-* (rw e at (h.entries (r.left + j) (omega arith))) (k.small (suc m + j)))))

-- ---- a factor inside its sheet
signs-room : (kind : Kind) (n i : ℕ) → signs_at kind i + n ≤ i + numbers n kind
unfolding signs_at numbers
signs-room Permutation n i = omega arith
signs-room Lower n i = omega arith
signs-room Upper n i = omega arith
signs-room Single n i = omega arith

pub signs-inside : {s : List ℤ} {n i : ℕ} → FactorRead s n i → signs_at (kind_of (count s i)) i + n ≤ length s
signs-inside {s} {n} {i} h = le_trans (signs-room (kind_of (count s i)) n i) (factor-room h)

plain-room : (kind : Kind) (n i : ℕ) → i + 1 + n ≤ i + numbers n kind
unfolding numbers
plain-room Permutation n i = omega arith
plain-room Lower n i = omega arith
plain-room Upper n i = omega arith
plain-room Single n i = omega arith

pub plain-inside : {s : List ℤ} {n i : ℕ} → FactorRead s n i → i + 1 + n ≤ length s
plain-inside {s} {n} {i} h = le_trans (plain-room (kind_of (count s i)) n i) (factor-room h)

-- the factor at a place, its kind known
pub layout-by : (s : List ℤ) (n i : ℕ) {k : Kind} (kind : Kind) → k ≡ kind_of (count s i) → k ≡ kind →
    layout_by kind s n i ≡ layout_at s n i
unfolding layout_at
layout-by s n i kind e f = ap (λ (k : Kind). layout_by k s n i) (sym f ∙ e)

-- ---- the test of a bound, in two comparisons
pub beyond-low : (z m : ℤ) → T (non_neg m) → lt_z z (pos 0 -ℤ m) ≡ true → false ≡ leb (nat_abs z) (nat_abs m)
beyond-low (pos z) (pos m) t h = let l : ⊥ = given₁ h (simp lia (omega arith)) in absurd l
beyond-low (negsuc z) (pos m) t h = let l : m < suc z = given₁ h (simp lia (omega arith)) in sym (lt-leb (suc z) m l)
beyond-low z (negsuc m) t h = absurd t

pub not_low : (z m : ℤ) → T (non_neg m) → lt_z z (pos 0 -ℤ m) ≡ false → le_z z m ≡ leb (nat_abs z) (nat_abs m)
not_low (pos z) (pos m) t h = refl
not_low (negsuc z) (pos m) t h = let l : suc z ≤ m = given₁ h (simp lia (omega arith)) in sym (le-leb (suc z) m l)
not_low z (negsuc m) t h = absurd t

-- ---- blocks in bound
pub bounded-inside : {B : ℕ} (n : ℕ) {v : List ℤ} → Bounded B v → inside B n v ≡ true
bounded-inside n {v} h = inside-yes _ n v (λ k l. h.small k)

pub bounded-set : {B : ℕ} (v : List ℤ) (k : ℕ) {z : ℤ} → Bounded B v → Within B z → Bounded B (set v k z)
bounded-set {B} v k {z} h w = record { small = λ i. go i (ℕ_discrete i k) (dec_lt k (length v)) }
  where
    go : (i : ℕ) → Dec (i ≡ k) → Dec (k < length v) → Within B (at (set v k z) i)
    go i (yes e) (yes l) = rw (e, set_at v k z l) w
    go i (yes e) (no l) = rw (set_out v k z (omega arith)) (h.small i)
    go i (no e) l = rw (set_other v k i z e) (h.small i)

-- a number that fails the test is found there
pub beyond-there : (B n : ℕ) (v : List ℤ) (k : ℕ) (z : ℤ) → k < n → at v k ≡ z → leb (nat_abs z) B ≡ false → inside B n v ≡ false
beyond-there B n v k z l e h = inside-no B n v k l (rw e (leb-false (nat_abs z) B h))

-- what the test of a number told; v is that number, z as the code holds it
module _ (B : ℕ) {z v : ℤ} {ok : Bool} (e : z ≡ v) (t : ok ≡ leb (nat_abs z) B) where
  told : leb (nat_abs v) B ≡ ok
  told = ap (λ (u : ℤ). leb (nat_abs u) B) (sym e) ∙ sym t

  pub test-no : ok ≡ false → leb (nat_abs v) B ≡ false
  test-no h = told ∙ h

  pub test-yes : ok ≡ true → Within B v
  test-yes h = record { within = leb-true (nat_abs v) B (told ∙ h) }

-- a number put into place k of a block, or found beyond the bound
pub record Kept (B : ℕ) (z : ℤ) (k : ℕ) (old : List ℤ) (ok : Bool) (new : List ℤ) : Type 0 where
  pub told : ok ≡ leb (nat_abs z) B
  pub put : ok ≡ true → new ≡ set old k z

module _ {B : ℕ} {z : ℤ} {k : ℕ} {old : List ℤ} {ok : Bool} {new : List ℤ} (h : Kept B z k old ok new) where
  pub kept-no : ok ≡ false → leb (nat_abs z) B ≡ false
  kept-no e = sym h.told ∙ e

  pub kept-yes : ok ≡ true → Within B z
  kept-yes e = record { within = leb-true (nat_abs z) B (sym h.told ∙ e) }

pub bounded-fill : {B : ℕ} (n : ℕ) (f : ℕ → ℤ) {v : List ℤ} → Bounded B v → ((e : ℕ) → Within B (f e)) → Bounded B (fill n f v)
unfolding fill
bounded-fill zero f h w = h
bounded-fill (suc n) f {v} h w = bounded-set (fill n f v) n (bounded-fill n f h w) (w n)

pub bounded-put : {B : ℕ} (n : ℕ) (p : ℕ → ℕ) {v : List ℤ} → Bounded B v → Bounded B (put_back n p v)
unfolding put_back
bounded-put zero p h = h
bounded-put (suc n) p {v} h = bounded-set (put_back n p v) (p n) (bounded-put n p h) (h.small n)

-- a part of a slice from a place to its end, as the code's parts are written
pub part-is : (a : ℕ) (l : List ℤ) → take (length l - a) (drop a l) ≡ drop a l
part-is a l = take_all (length l - a) (drop a l) (let e = length-drop a l in omega arith)
