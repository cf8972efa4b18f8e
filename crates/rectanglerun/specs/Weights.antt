-- A WHOLE ROW OF WEIGHTS: its entries, as they stand in a sheet or in a copy of magnitudes, and the diagonal's own, are the
-- matrix's row.
use Rattle.std.specs.Prelude.{Bool, List, ◌≢◌, ◌≡◌, ℕ, suc, ◌+◌, ◌≤◌, ◌<◌, eqb, ℤ, pos, nat_abs, ◌+ℤ◌, ◌*ℤ◌, replicate}
use Rattle.std.proofs.Math.Bool.{true, false, cond}
use Rattle.std.proofs.Common.{inl, inr, ap, ◌∙◌, arith}
use Rattle.std.proofs.Math.Path.{refl, sym, ap₂}
use Rattle.std.proofs.Math.IntN.{◌-ℤ◌}
use Rattle.std.proofs.lemmas.List.{length-replicate}
use Rattle.whole.specs.Diff.{lia, given₁}
use Rattle.whole.specs.Stated.{Sign, sum}
use Rattle.whole.specs.Sum.{sum-cong}
use Rattle.rules.specs.declared.Kind.TheVariants.{Permutation}
use Rattle.rules.specs.Numbers.{unit, most_order, at, count}
use Rattle.rules.specs.Sheets.{kind_of}
use Rattle.rules.specs.Factors.{factor_at, matrix}
use Rattle.rules.specs.Stages.{fill, off, weighed}
use Rattle.rules.proofs.Laws.Lists.{fill-at}
use Rattle.rules.proofs.Laws.Rectangles.{off-sum, diagonal-weight}
use Rattle.laws.specs.Accepted.{FactorRead}
use Rattle.laws.specs.Sound.{factor-sound}
use Rattle.factor.specs.declared.Row.{Row}
use Rattle.factor.specs.Layouts.{layout_by, layout_at, row_of, along}
use Rattle.factor.specs.RowSums.{row-sum}
use Rattle.factor.specs.SumBounds.{RowIn}
use Rattle.factor.specs.LayoutInSheet.{rows-in-sheet, row-wide}
use Rattle.factor.specs.Magnitudes.{magnitude_at, magnitudes-row, magnitudes-along}
use Rattle.joint.specs.Sums.{entries_sum, across}
use Rattle.joint.specs.Elements.{sign_at, diagonal_of}
use Rattle.joint.specs.Allowances.{row_magnitudes, side_by_side}

entries_by : (ℕ → ℤ) → Row → ℕ → (ℕ → ℤ) → ℤ
entries_by u r m f = sum r.left (λ j. u (r.at + j) *ℤ f j) +ℤ sum r.right (λ j. u (r.at + r.left + j) *ℤ f (suc m + j))

-- numbers as a list
list_of : ℕ → (ℕ → ℤ) → List ℤ
list_of n f = fill n f (replicate n (pos 0))

list_at : (n : ℕ) (f : ℕ → ℤ) (k : ℕ) → k < n → at (list_of n f) k ≡ f k
unfolding list_of
list_at n f k b = fill-at n f (replicate n (pos 0)) k b (omega (arith, length-replicate n (pos 0)))

by-list : (u : ℕ → ℤ) {s : List ℤ} {n m : ℕ} {r : Row} → RowIn s n r m → (f : ℕ → ℤ) →
    entries_by u r m f ≡ along u r m (list_of n f)
unfolding entries_by along
by-list u {n} {m} {r} w f =
    ap₂ ◌+ℤ◌
    (sum-cong r.left _ _ (λ j b. let a = w.left in let d = w.right in rw (list_at n f j (omega arith))))
    (sum-cong r.right _ _ (λ j b. let a = w.right in rw (list_at n f (suc m + j) (omega arith))))

module _ (g : ℤ → ℤ) (none : g (pos 0) ≡ pos 0) {s : List ℤ} {n i : ℕ} (h : FactorRead s n i)
    (q : kind_of (count s i) ≢ Permutation) (m : ℕ) (l : m < n) (f : ℕ → ℤ) where
  abbrev M : ℕ → ℕ → ℤ
  M = matrix (factor_at s n i)

  weights : ℕ → ℕ → ℤ
  weights e k = g (M e k)

  off-weights : (k : ℕ) → g (off M m k) ≡ off weights m k
  unfolding off weights
  off-weights k = go (eqb m k)
    where
      go : (b : Bool) → g (cond b (pos 0) (M m k)) ≡ cond b (pos 0) (g (M m k))
      go true = none
      go false = refl

  row-all : entries_by (λ p. g (at s p)) (row_of (layout_at s n i) m) m f +ℤ (g (matrix (factor_at s n i) m m) *ℤ f m) ≡ sum n
      (λ k. g (matrix (factor_at s n i) m k) *ℤ f k)
  unfolding weighed weights
  row-all =
      given₁
      (by-list (λ p. g (at s p)) (rows-in-sheet h q m l) f ∙ sym (row-sum g none s n i m (list_of n f) l q)
      ∙ sum-cong n _ _ (λ k b. rw (off-weights k)) ∙ off-sum n weights m (list_of n f) l
      ∙ ap₂ ◌-ℤ◌ (sum-cong n _ _ (λ k b. rw (list_at n f k b))) (ap (λ (z : ℤ). g (M m m) *ℤ z) (list_at n f m l)))
      (back (entries_by (λ p. g (at s p)) (row_of (layout_at s n i) m) m f) (sum n (λ k. g (M m k) *ℤ f k)) (g (M m m) *ℤ f m))
    where
      back : (a t o : ℤ) → a ≡ t -ℤ o → a +ℤ o ≡ t
      back a t o = simp lia (omega arith)

pub diagonal-there : (s : List ℤ) (n i m : ℕ) → matrix (factor_at s n i) m m ≡ diagonal_of (sign_at s (layout_at s n i) m)
unfolding factor_at layout_at layout_by
diagonal-there s n i m = diagonal-weight (factor_at s n i) m

-- the code's row of weights is the matrix's row
pub across-row : {s : List ℤ} {n i : ℕ} → FactorRead s n i → kind_of (count s i) ≢ Permutation → (m : ℕ) → m < n → (f : ℕ → ℤ) →
    across s (row_of (layout_at s n i) m) m (diagonal_of (sign_at s (layout_at s n i) m)) f ≡ sum n
    (λ k. matrix (factor_at s n i) m k *ℤ f k)
unfolding entries_sum entries_by
across-row {s} {n} {i} h q m l f =
    ap (λ (z : ℤ). entries_sum s (row_of (layout_at s n i) m) m f +ℤ (z *ℤ f m)) (sym (diagonal-there s n i m))
    ∙ row-all (λ z. z) refl h q m l f

-- ---- the same with magnitudes
diagonal-size : (d : ℤ) → Sign d → nat_abs (pos unit *ℤ d) ≡ unit
diagonal-size d (inl e) = rw e
diagonal-size d (inr e) = rw e

pub magnitude-there : {s : List ℤ} {n i : ℕ} → FactorRead s n i → kind_of (count s i) ≢ Permutation → (m : ℕ) → m < n →
    nat_abs (matrix (factor_at s n i) m m) ≡ unit
magnitude-there {s} {n} {i} h q m l =
    ap nat_abs (diagonal-weight (factor_at s n i) m) ∙ diagonal-size _ ((factor-sound h).signs (unfold factor_at in q) m l)

pub magnitudes-row-is : {s : List ℤ} {n i : ℕ} → n ≤ most_order → FactorRead s n i → kind_of (count s i) ≢ Permutation → (m : ℕ) →
    m < n → (f : ℕ → ℤ) →
    across (row_magnitudes s (row_of (layout_at s n i) m)) (side_by_side (row_of (layout_at s n i) m)) m (pos unit) f ≡ sum n
    (λ k. pos (nat_abs (matrix (factor_at s n i) m k)) *ℤ f k)
unfolding entries_sum entries_by
magnitudes-row-is {s} {n} {i} t h q m l f =
    ap₂ (λ (a o : ℤ). a +ℤ (o *ℤ f m))
    (by-list (at (row_magnitudes s r)) copy f ∙ magnitudes-along wide (list_of n f) ∙ sym (by-list (magnitude_at s) there f))
    (sym (ap pos (magnitude-there h q m l)))
    ∙ row-all (λ z. pos (nat_abs z)) refl h q m l f
  where
    r : Row
    r = row_of (layout_at s n i) m

    there : RowIn s n (row_of (layout_at s n i) m) m
    there = rows-in-sheet h q m l

    wide : RowIn s most_order (row_of (layout_at s n i) m) m
    wide = row-wide t there

    copy : RowIn (row_magnitudes s (row_of (layout_at s n i) m)) n (side_by_side (row_of (layout_at s n i) m)) m
    copy = let w = magnitudes-row wide in record { room = w.room; left = w.left; right = there.right; entries = w.entries }
