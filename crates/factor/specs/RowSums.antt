-- A ROW'S SUM IS THE SUM ALONG ITS ENTRIES, for every kind that has weights; so is the sum of magnitudes, and the test for
-- multiples.
use Rattle.std.specs.Prelude.{true, false, List, ◌≢◌, ◌≡◌, ℕ, suc, ◌+◌, ◌-◌, ◌<◌, eqb, ltb, ℤ, pos, ◌*ℤ◌}
use Rattle.std.proofs.Math.Bool.{cond}
use Rattle.std.proofs.Math.Path.{refl, ap₂}
use Rattle.std.proofs.Common.{ap, ◌∙◌, arith}
use Rattle.std.proofs.Math.Decide.{ℕ_discrete}
use borrow.Author.Tests.{eq-eqb, ne_eqb, lt-ltb, le-ltb}
use Rattle.std.proofs.Math.IntN.{◌+ℤ◌, zero-*ℤ}
use Rattle.whole.specs.Diff.{lia}
use Rattle.whole.specs.Stated.{sum}
use Rattle.whole.specs.Sum.{sum-cong, sum-none, sum-split, sum_first}
use Rattle.rules.specs.declared.Kind.{Kind}
use Rattle.rules.specs.declared.Kind.TheVariants.{Permutation, Lower, Upper, Single}
use Rattle.rules.specs.Numbers.{unit, at, count}
use Rattle.rules.specs.Sheets.{kind_of, triangle}
use Rattle.rules.specs.Factors.{signs_at, above, entries_before, factor_at, has_entry, matrix}
use Rattle.rules.specs.Stages.{off, weighed}
use Rattle.factor.specs.declared.Row.{Row}
use Rattle.factor.specs.Layouts.{row_in, layout_by, layout_at, row, row_by, row_of, along}

-- a sum whose term m is 0: the terms before m, and those after it
pub weighed-split :
    (n m : ℕ) (u : ℕ → ℤ) (x : List ℤ) → m < n → u m ≡ pos 0 →
    weighed n u x ≡ sum m (λ k. u k *ℤ at x k) +ℤ sum (n - suc m) (λ j. u (suc m + j) *ℤ at x (suc m + j))
unfolding weighed
weighed-split n m u x l z =
    let e : n ≡ m + suc (n - suc m) = omega arith in
    ap (λ (k : ℕ). sum k f) e
    ∙ sum-split m (suc (n - suc m)) f
    ∙ ap (λ (t : ℤ). sum m f +ℤ t) (sum_first (n - suc m) (λ i. f (m + i)) ∙ right)
  where
    f : ℕ → ℤ
    f k = u k *ℤ at x k

    diagonal : f (m + 0) ≡ pos 0
    diagonal = let e : m + 0 ≡ m = omega arith in rw (e, z) (zero-*ℤ (at x m))

    each : (j : ℕ) → f (m + suc j) ≡ f (suc m + j)
    each j = let e : m + suc j ≡ suc m + j = omega arith in rw e

    plus : (t : ℤ) → pos 0 +ℤ t ≡ t
    plus t = simp lia (omega arith)

    right : f (m + 0) +ℤ sum (n - suc m) (λ j. f (m + suc j)) ≡ sum (n - suc m) (λ j. f (suc m + j))
    right = rw diagonal (plus _ ∙ sum-cong (n - suc m) _ _ (λ j h. each j))

-- a matrix whose entries stand in a sheet from place e on, with a diagonal of its own
unfoldable pub cell : List ℤ → Kind → ℕ → ℕ → ℕ → (ℕ → ℤ) → ℕ → ℕ → ℤ
cell s kind n r e d m k = cond (eqb m k) (d m) (cond (has_entry kind r m k) (at s (e + entries_before kind n r m k)) (pos 0))

module _ (g : ℤ → ℤ) (none : g (pos 0) ≡ pos 0) (s : List ℤ) (n r e m : ℕ) (d : ℕ → ℤ) (x : List ℤ) (l : m < n) where
  -- the weights of row m, each by g
  abbrev u : Kind → ℕ → ℤ
  u kind k = g (off (cell s kind n r e d) m k)

  diagonal : (kind : Kind) → u kind m ≡ pos 0
  unfolding off
  diagonal kind = rw (eq-eqb m m refl, none)

  there : (kind : Kind) (k p : ℕ) → m ≢ k → has_entry kind r m k ≡ true → e + entries_before kind n r m k ≡ p →
      u kind k ≡ g (at s p)
  unfolding off cell
  there kind k p q h w = rw (ne_eqb m k q, h, w)

  missing : (kind : Kind) (k : ℕ) → m ≢ k → has_entry kind r m k ≡ false → u kind k *ℤ at x k ≡ pos 0
  unfolding off cell
  missing kind k q h = rw (ne_eqb m k q, h, none) (zero-*ℤ (at x k))

  abbrev left : ℕ → ℤ
  left p = sum m (λ j. g (at s (p + j)) *ℤ at x j)

  abbrev right : ℕ → ℤ
  right p = sum (n - suc m) (λ j. g (at s (p + j)) *ℤ at x (suc m + j))

  left_is :
      (kind : Kind) (p : ℕ) →
      ((k : ℕ) → k < m → (has_entry kind r m k ≡ true) × (e + entries_before kind n r m k ≡ p + k)) →
      sum m (λ k. u kind k *ℤ at x k) ≡ left p
  left_is kind p h =
      sum-cong m _ _ (λ k b. ap (λ (z : ℤ). z *ℤ at x k) (there kind k (p + k) (λ z. omega arith) (h k b).0 (h k b).1))

  left-none : (kind : Kind) → ((k : ℕ) → k < m → has_entry kind r m k ≡ false) → sum m (λ k. u kind k *ℤ at x k) ≡ pos 0
  left-none kind h = sum-none m _ (λ k b. missing kind k (λ z. omega arith) (h k b))

  right_is :
      (kind : Kind) (p : ℕ) →
      ((j : ℕ) → j < n - suc m → (has_entry kind r m (suc m + j) ≡ true) × (e + entries_before kind n r m (suc m + j) ≡ p + j)) →
      sum (n - suc m) (λ j. u kind (suc m + j) *ℤ at x (suc m + j)) ≡ right p
  right_is kind p h =
      sum-cong (n - suc m) _ _
      (λ j b. ap (λ (z : ℤ). z *ℤ at x (suc m + j)) (there kind (suc m + j) (p + j) (λ z. omega arith) (h j b).0 (h j b).1))

  right-none :
      (kind : Kind) → ((j : ℕ) → j < n - suc m → has_entry kind r m (suc m + j) ≡ false) →
      sum (n - suc m) (λ j. u kind (suc m + j) *ℤ at x (suc m + j)) ≡ pos 0
  right-none kind h = sum-none (n - suc m) _ (λ j b. missing kind (suc m + j) (λ z. omega arith) (h j b))

  along-row : (kind : Kind) → kind ≢ Permutation → weighed n (u kind) x ≡ along (λ p. g (at s p)) (row_by kind n r e m) m x
  unfolding along row_by has_entry entries_before sum
  along-row Permutation q = absurd (q refl)
  along-row Lower q =
      weighed-split n m (u Lower) x l (diagonal Lower)
      ∙ ap₂ ◌+ℤ◌
      (left_is Lower (e + triangle m) (λ k b. (lt-ltb k m b, omega arith)))
      (right-none Lower (λ j b. le-ltb (suc m + j) m (omega arith)))
  along-row Upper q =
      weighed-split n m (u Upper) x l (diagonal Upper)
      ∙ ap₂ ◌+ℤ◌
      (left-none Upper (λ k b. le-ltb m k (omega arith)))
      (right_is Upper (e + above n m + 0) (λ j b. (lt-ltb m (suc m + j) (omega arith), omega arith)))
  along-row Single q = go (ℕ_discrete m r)
    where
      first : (k : ℕ) → k < m → m ≡ r → cond (ltb k r) k (k - 1) ≡ k
      first k b t = rw (lt-ltb k r (omega arith))

      then : (j : ℕ) → m ≡ r → cond (ltb (suc m + j) r) (suc m + j) (suc m + j - 1) ≡ m + j
      then j t = rw (le-ltb (suc m + j) r (omega arith)) (omega arith)

      go : Dec (m ≡ r) → weighed n (u Single) x ≡ along (λ p. g (at s p))
          (row e (cond (eqb m r) m 0) (cond (eqb m r) (n - suc m) 0)) m x
      go (yes t) =
          weighed-split n m (u Single) x l (diagonal Single)
          ∙ ap₂ ◌+ℤ◌
          (left_is Single e (λ k b. (eq-eqb m r t, omega (arith, first k b t))))
          (right_is Single (e + m) (λ j b. (eq-eqb m r t, omega (arith, then j t))))
          ∙ rw (eq-eqb m r t)
      go (no t) =
          weighed-split n m (u Single) x l (diagonal Single)
          ∙ ap₂ ◌+ℤ◌ (left-none Single (λ k b. ne_eqb m r t)) (right-none Single (λ j b. ne_eqb m r t))
          ∙ rw (ne_eqb m r t)

-- the factor at place i has its entries there
row-alike : (kind : Kind) (n e m : ℕ) (s : List ℤ) (i : ℕ) →
    row_by kind n (count s (i + 1)) e m ≡ row_by kind n (row_in kind s i) e m
unfolding row_by row_in
row-alike Permutation n e m s i = refl
row-alike Lower n e m s i = refl
row-alike Upper n e m s i = refl
row-alike Single n e m s i = refl

-- THE ROW LAW, for the weights themselves and for their magnitudes
pub row-sum :
    (g : ℤ → ℤ) → g (pos 0) ≡ pos 0 → (s : List ℤ) (n i m : ℕ) (x : List ℤ) → m < n → kind_of (count s i) ≢ Permutation →
    weighed n (λ k. g (off (matrix (factor_at s n i)) m k)) x ≡ along (λ p. g (at s p)) (row_of (layout_at s n i) m) m x
unfolding factor_at matrix layout_by layout_at off cell
row-sum g z s n i m x l q =
    let kind = kind_of (count s i) in
    let e = signs_at kind i + n in
    along-row g z s n (count s (i + 1)) e m (λ m. pos unit *ℤ at s (signs_at kind i + m)) x l kind q
    ∙ ap (λ (r : Row). along (λ p. g (at s p)) r m x) (row-alike kind n e m s i)
