-- THE TEST FOR MULTIPLES OF 4096 over a row's weights is the test over its entries: both count those that are none, and the row
-- law moves the count.
use Rattle.std.specs.Prelude.{Bool, true, false, cond, List, ◌≢◌, ◌≡◌, refl, ℕ, zero, suc, ◌+◌, ◌%◌, ◌<◌, eqb, ℤ, pos, nat_abs, ◌+ℤ◌, ◌*ℤ◌, replicate}
use Rattle.std.proofs.Common.{sym, ap, ap₂, ◌∙◌, add-zero, arith, ne_eqb}
use Rattle.std.proofs.lemmas.List.{get_or-replicate}
use Rattle.whole.specs.Diff.{lia}
use Rattle.whole.specs.Stated.{sum}
use Rattle.whole.specs.Sum.{sum-cong, sum-split, sum_first}
use Rattle.rules.specs.declared.Kind.TheVariants.{Permutation}
use Rattle.rules.specs.Numbers.{unit, at, count}
use Rattle.rules.specs.Sheets.{kind_of}
use Rattle.rules.specs.Factors.{factor_at, matrix}
use Rattle.rules.specs.Stages.{off, weighed, multiples}
use Rattle.laws.specs.Accepted.{FactorRead}
use Rattle.factor.specs.declared.Row.{Row}
use Rattle.factor.specs.Layouts.{layout_at, row_of, along}
use Rattle.factor.specs.RowSums.{row-sum}
use Rattle.factor.specs.SumBounds.{RowIn}
use Rattle.factor.specs.LayoutInSheet.{rows-in-sheet}
use Rattle.factor.specs.Magnitudes.{whole}

-- 0 for a multiple, 1 for another number
abbrev mark : ℤ → ℤ
mark z = cond (eqb (nat_abs z % unit) 0) (pos 0) (pos 1)

-- no number was counted
abbrev nothing : ℤ → Bool
nothing z = eqb (nat_abs z) 0

-- a count is a natural number
counted : (n : ℕ) (u : ℕ → ℤ) → sum n (λ k. mark (u k)) ≡ pos (nat_abs (sum n (λ k. mark (u k))))
unfolding sum
counted zero u = refl
counted (suc n) u = rw (counted n u) (go (nat_abs (sum n (λ k. mark (u k)))) (eqb (nat_abs (u n) % unit) 0))
  where
    go : (c : ℕ) (b : Bool) → pos c +ℤ cond b (pos 0) (pos 1) ≡ pos (nat_abs (pos c +ℤ cond b (pos 0) (pos 1)))
    go c true = refl
    go c false = refl

-- one more number
more : (c : ℕ) (b : Bool) → nothing (pos c +ℤ cond b (pos 0) (pos 1)) ≡ cond b (nothing (pos c)) false
more c true = let e : c + 0 ≡ c = omega arith in rw e
more c false = ne_eqb (c + 1) 0 (λ e. omega arith)

multiples-count : (n : ℕ) (u : ℕ → ℤ) → multiples unit n u ≡ nothing (sum n (λ k. mark (u k)))
unfolding multiples sum
multiples-count zero u = refl
multiples-count (suc n) u =
    rw (multiples-count n u)
    (sym (rw (counted n u) (more (nat_abs (sum n (λ k. mark (u k)))) (eqb (nat_abs (u n) % unit) 0))))

first : (c : ℕ) (b : Bool) → nothing (cond b (pos 0) (pos 1) +ℤ pos c) ≡ cond b (nothing (pos c)) false
first c true = let e : 0 + c ≡ c = omega arith in rw e
first c false = ne_eqb (1 + c) 0 (λ e. omega arith)

whole-count : (a : List ℤ) (p m : ℕ) → whole a p m ≡ nothing (sum m (λ j. mark (at a (p + j))))
unfolding whole sum
whole-count a p zero = refl
whole-count a p (suc m) =
    rw (whole-count a (p + 1) m)
    (sym (rw (sum_first m (λ j. mark (at a (p + j))), shifted, counted m (λ j. at a (p + 1 + j)), add-zero p)
    (first (nat_abs (sum m (λ j. mark (at a (p + 1 + j))))) (eqb (nat_abs (at a p) % unit) 0))))
  where
    shifted : sum m (λ j. mark (at a (p + suc j))) ≡ sum m (λ j. mark (at a (p + 1 + j)))
    shifted = sum-cong m _ _ (λ j l. let e : p + suc j ≡ p + 1 + j = omega arith in rw e)

-- THE TEST OVER A ROW
pub row-whole :
    {s : List ℤ} {n i : ℕ} → FactorRead s n i → kind_of (count s i) ≢ Permutation → (m : ℕ) → m < n →
    multiples unit n (off (matrix (factor_at s n i)) m)
    ≡ whole s (row_of (layout_at s n i) m).at ((row_of (layout_at s n i) m).left + (row_of (layout_at s n i) m).right)
unfolding weighed along
row-whole {s} {n} {i} h q m l =
    multiples-count n u ∙ ap nothing (plain ∙ row-sum mark refl s n i m ones l q ∙ both (rows-in-sheet h q m l))
    ∙ sym (whole-count s r.at (r.left + r.right))
  where
    u : ℕ → ℤ
    u = off (matrix (factor_at s n i)) m

    r : Row
    r = row_of (layout_at s n i) m

    ones : List ℤ
    ones = replicate n (pos 1)

    times-one : (z : ℤ) (k : ℕ) → k < n → z *ℤ at ones k ≡ z
    times-one z k b = rw (get_or-replicate n k (pos 1) (pos 0) b) (simp lia (omega arith))

    plain : sum n (λ k. mark (u k)) ≡ weighed n (λ k. mark (u k)) ones
    plain = sum-cong n _ _ (λ k b. sym (times-one (mark (u k)) k b))

    both : RowIn s n r m → along (λ p. mark (at s p)) r m ones ≡ sum (r.left + r.right) (λ j. mark (at s (r.at + j)))
    both w =
        ap₂ ◌+ℤ◌
        (sum-cong r.left _ _ (λ j b. times-one (mark (at s (r.at + j))) j (let a = w.left in omega arith)))
        (sum-cong r.right _ _
        (λ j b.
        times-one (mark (at s (r.at + r.left + j))) (suc m + j) (let a = w.right in omega arith)
        ∙ (let e : r.at + r.left + j ≡ r.at + (r.left + j) = omega arith in rw e)))
        ∙ sym (sum-split r.left r.right (λ j. mark (at s (r.at + j))))
