-- THE ENTRIES OF A ROW IN ONE RUN, those left of the diagonal and those right of it: the column of each, and their sum.
use Rattle.std.specs.Prelude.{cond, List, ◌≡◌, ltb, ℤ, ◌*ℤ◌}
use Rattle.std.proofs.Math.Path.{ap₂}
use Rattle.std.proofs.Common.{◌∙◌, mul-le-mul_right, lt-ltb, le-ltb}
use Prim.Native.Nat.{ℕ, suc, ◌+◌, ◌-◌, ◌*◌, ◌≤◌, ◌<◌}
use Rattle.std.proofs.Math.Decide.{dec_lt}
use native.Mathlib.Omega.{arith}
use Rattle.std.proofs.Math.IntN.{◌+ℤ◌}
use Rattle.whole.specs.Diff.{Within}
use Rattle.whole.specs.Machine.{within-*, within-le}
use Rattle.whole.specs.Stated.{sum}
use Rattle.whole.specs.Sum.{sum-cong, sum-split, sum-within}
use Rattle.rules.specs.Numbers.{most_order, most_entry, most_allowance, at}
use Rattle.factor.specs.declared.Row.{Row}
use Rattle.factor.specs.Layouts.{along}
use Rattle.factor.specs.Magnitudes.{magnitude_at}
use Rattle.factor.specs.SumBounds.{Bounded, RowIn}

-- the column of entry j of row m
unfoldable pub column_of : Row → ℕ → ℕ → ℕ
column_of r m j = cond (ltb j r.left) j (m + 1 + (j - r.left))

module _ (r : Row) (m : ℕ) where
  pub column-left : (j : ℕ) → j < r.left → column_of r m j ≡ j
  unfolding column_of
  column-left j l = rw (lt-ltb j r.left l)

  pub column-right : (j : ℕ) → r.left ≤ j → column_of r m j ≡ m + 1 + (j - r.left)
  unfolding column_of
  column-right j l = rw (le-ltb j r.left l)

  -- the sum of all entries is the row's
  pub along-columns : (u : ℕ → ℤ) (x : List ℤ) →
      sum (r.left + r.right) (λ j. u (r.at + j) *ℤ at x (column_of r m j)) ≡ along u r m x
  unfolding along
  along-columns u x =
      sum-split r.left r.right _
      ∙ ap₂ ◌+ℤ◌
      (sum-cong r.left _ _ (λ j l. rw (column-left j l)))
      (sum-cong r.right _ _ (λ j l.
      let e : r.at + (r.left + j) ≡ r.at + r.left + j = omega arith in
      let k : column_of r m (r.left + j) ≡ suc m + j = column-right (r.left + j) (omega arith) ∙ (omega arith) in
      rw (e, k)))

-- the sum of the first j magnitudes
abbrev pub magnitudes_to : List ℤ → Row → ℕ → List ℤ → ℕ → ℤ
magnitudes_to s r m x j = sum j (λ i. magnitude_at s (r.at + i) *ℤ at x (column_of r m i))

module _ {s : List ℤ} {r : Row} {m : ℕ} (h : RowIn s most_order r m) where
  -- a column is one of sixteen
  pub column-below : (j : ℕ) → j < r.left + r.right → column_of r m j < most_order
  column-below j l = go (dec_lt j r.left)
    where
      go : Dec (j < r.left) → column_of r m j < most_order
      go (yes b) = let a = h.left in let c = h.right in omega (arith, column-left r m j b)
      go (no b) = let c = h.right in omega (arith, column-right r m j (omega arith))

  -- magnitudes, and their sums, are small
  pub magnitude-within : (j : ℕ) → j < r.left + r.right → Within most_entry (magnitude_at s (r.at + j))
  magnitude-within j l = record { within = (h.entries j l).within }

  pub magnitudes-within : {x : List ℤ} (j : ℕ) → Bounded most_allowance x → j ≤ r.left + r.right →
      Within (most_order * (most_entry * most_allowance)) (magnitudes_to s r m x j)
  magnitudes-within j k l =
      let few : j ≤ most_order = let a = h.left in let b = h.right in omega arith in
      within-le (mul-le-mul_right (most_entry * most_allowance) few)
      (sum-within j _ (λ i b. within-* (magnitude-within i (omega arith)) (k.small (column_of r m i))))
