-- ONE FACTOR OF A LINE as the code goes through it: the sums along the entries of a row, and the order in which it recovers
-- elements.
use Rattle.std.specs.Prelude.{cond, List, ℕ, ◌+◌, ◌<◌, ℤ, pos, ◌+ℤ◌, ◌-ℤ◌, ◌*ℤ◌}
use Rattle.rules.specs.Numbers.{unit, bound, at}
use Rattle.rules.specs.declared.Rule.{Rule}
use Rattle.rules.specs.Stages.{R, share, ceiling}
use Rattle.factor.specs.declared.Layout.{Layout}
use Rattle.factor.specs.Layouts.{row_of, along}
use Rattle.factor.specs.UndoingOrder.{nth_undone}
use Rattle.factor.specs.SumBounds.{Bounded}
use Rattle.factor.specs.LayoutInSheet.{InSheet}
use Rattle.factor.specs.InPlace.{in_place}
use Rattle.factor.specs.Magnitudes.{whole, magnitude_at}

-- what the code asks of element m: a factor that stands in the sheet, one of its rows, and a block in bound
abbrev pub ElementGiven : List ℤ → Layout → ℕ → List ℤ → Type 0
ElementGiven s f m x = InSheet s f × (m < f.order) × Bounded bound x

module _ (rule : Rule) (s : List ℤ) (f : Layout) where
  -- the rounded sum of row m
  unfoldable pub rounded_sum : List ℤ → ℕ → ℤ
  rounded_sum x m = R rule unit (along (at s) (row_of f m) m x)

  unfoldable pub applied_at : List ℤ → ℕ → ℤ
  applied_at x m = (at s (f.signs + m) *ℤ at x m) +ℤ rounded_sum x m

  unfoldable pub undone_at : List ℤ → ℕ → ℤ
  undone_at x m = at s (f.signs + m) *ℤ (at x m -ℤ rounded_sum x m)

  -- an allowance: the sum of magnitudes upward, and what the rounding adds
  unfoldable pub allowed_at : List ℤ → ℕ → ℤ
  allowed_at b m =
      (at b m +ℤ ceiling unit (along (magnitude_at s) (row_of f m) m b))
      +ℤ cond (whole s (row_of f m).at ((row_of f m).left + (row_of f m).right)) (pos 0) (pos (share rule))

-- the block after t turns
abbrev pub undone_in_place : Rule → List ℤ → Layout → ℕ → List ℤ → List ℤ
undone_in_place rule s f t y = in_place (undone_at rule s f) (nth_undone f.kind f.order f.row) t y
