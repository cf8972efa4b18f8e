-- THE ROWS OF EACH KIND: where their entries start, on which side of the diagonal they stand, and their sums.
use Rattle.std.specs.Prelude.{List, ◌≢◌, ◌≡◌, refl, ℕ, zero, suc, ◌+◌, ◌-◌, ◌<◌, ℤ, pos, ◌+ℤ◌, ◌*ℤ◌, length, drop}
use Rattle.std.proofs.Common.{sym, ◌∙◌, le_refl, arith, ne_eqb}
use Rattle.std.proofs.Math.Path.{ap, ap₂}
use Rattle.whole.specs.Diff.{lia}
use Rattle.whole.specs.Stated.{sum}
use Rattle.rules.specs.declared.Kind.TheVariants.{Lower, Upper, Single}
use Rattle.rules.specs.declared.Rule.{Rule}
use Rattle.rules.specs.Numbers.{most_order, unit, most_allowance, at}
use Rattle.rules.specs.Sheets.{triangle}
use Rattle.rules.specs.Factors.{above}
use Rattle.rules.proofs.Laws.Rounding.{rounding}
use Rattle.laws.specs.Tests.{triangle-twice}
use Rattle.factor.specs.declared.Layout.{Layout}
use Rattle.factor.specs.declared.Row.{Row}
use Rattle.factor.specs.Layouts.{row_by, row_of, along}
use Rattle.factor.specs.SumBounds.{Bounded, RowIn, along-runs, above-triangle}
use Rattle.linerun.specs.Steps.{rounded_sum}

module _ (f : Layout) (m : ℕ) where
  pub lower-at : f.kind ≡ Lower → (row_of f m).at ≡ f.entries + triangle m
  unfolding row_by
  lower-at k = rw k

  pub lower-left : f.kind ≡ Lower → (row_of f m).left ≡ m
  unfolding row_by
  lower-left k = rw k

  pub lower-right : f.kind ≡ Lower → (row_of f m).right ≡ 0
  unfolding row_by
  lower-right k = rw k

  pub upper-at : f.kind ≡ Upper → (row_of f m).at ≡ f.entries + above f.order m
  unfolding row_by
  upper-at k = rw k

  pub upper-left : f.kind ≡ Upper → (row_of f m).left ≡ 0
  unfolding row_by
  upper-left k = rw k

  pub upper-right : f.kind ≡ Upper → (row_of f m).right ≡ f.order - suc m
  unfolding row_by
  upper-right k = rw k

-- all rows of an upper factor together have a triangle of entries
pub above-all : (n : ℕ) → above n n ≡ triangle n
unfolding above triangle
above-all zero = refl
above-all (suc n) =
    let d : suc n - 1 ≡ n = omega arith in
    let h = rw d at (above-triangle (suc n) (suc n) (le_refl (suc n))) in omega (arith, triangle-twice (suc n))

-- the last row has none
pub above-last : (n : ℕ) → 0 < n → above n n ≡ above n (n - 1)
unfolding above
above-last zero l = absurd (omega arith)
above-last (suc n) l = let d : suc n - 1 ≡ n = omega arith in rw d (omega arith)

-- ---- sums of entries on one side of the diagonal
plus_none : (z : ℤ) → z ≡ z +ℤ pos 0
plus_none z = simp lia (omega arith)

none-plus : (z : ℤ) → z ≡ pos 0 +ℤ z
none-plus z = simp lia (omega arith)

module _ {s x : List ℤ} {r : Row} {m : ℕ} (h : RowIn s most_order r m) (k : Bounded most_allowance x)
    (wide : length x ≡ most_order) where
  pub left_along : {n : ℕ} → n ≡ r.left → r.right ≡ 0 → sum n (λ j. at (drop r.at s) j *ℤ at x j) ≡ along (at s) r m x
  unfolding sum
  left_along l e =
      ap (λ (i : ℕ). sum i (λ j. at (drop r.at s) j *ℤ at x j)) l ∙ plus_none _
      ∙ ap (λ (i : ℕ). sum r.left (λ j. at (drop r.at s) j *ℤ at x j) +ℤ sum i
      (λ j. at (drop (r.at + r.left) s) j *ℤ at (drop (m + 1) x) j)) (sym e)
      ∙ along-runs h k wide

  pub right-along : r.left ≡ 0 →
      sum r.right (λ j. at (drop r.at s) j *ℤ at (drop (m + 1) x) j) ≡ along (at s) r m x
  unfolding sum
  right-along e =
      let z : r.at ≡ r.at + r.left = omega (arith, e) in
      none-plus _
      ∙ ap₂ (λ (i a : ℕ). sum i (λ j. at (drop r.at s) j *ℤ at x j) +ℤ sum r.right
      (λ j. at (drop a s) j *ℤ at (drop (m + 1) x) j)) (sym e) z
      ∙ along-runs h k wide

-- ---- a row without entries
pub single-none : (rule : Rule) (s : List ℤ) (f : Layout) (x : List ℤ) (m : ℕ) → f.kind ≡ Single → m ≢ f.row →
    rounded_sum rule s f x m ≡ pos 0
unfolding rounded_sum row_by along sum
single-none rule s f x m k q = rw (k, ne_eqb m f.row q) ((rounding rule).whole unit (pos 0) (omega arith))
