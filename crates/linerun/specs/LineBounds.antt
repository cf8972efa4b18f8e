-- HOW LARGE THE NUMBERS OF A LINE'S FACTOR BECOME, so that 64 bits hold them.
use Rattle.std.specs.Prelude.{List, ℕ, ◌+◌, ◌*◌, ◌<◌, ℤ}
use Rattle.std.proofs.Common.{arith}
use Rattle.whole.specs.Diff.{Within}
use Rattle.rules.specs.declared.Rule.{Rule}
use Rattle.rules.specs.Numbers.{unit, bound, most_entry, most_allowance, most_order, at}
use Rattle.factor.specs.declared.Layout.{Layout}
use Rattle.factor.specs.Layouts.{row_of, along}
use Rattle.factor.specs.SumBounds.{Bounded, RowIn, bounded-le, along-small}
use Rattle.factor.specs.LayoutInSheet.{InSheet, row-wide}
use Rattle.factor.specs.Rounding.{rounded-within}
use Rattle.linerun.specs.Steps.{rounded_sum}

-- a row's sum of any block, allowances among them
abbrev pub most_sum : ℕ
most_sum = 32 * (most_entry * most_allowance)

-- and that sum rounded
abbrev pub most_rounded : ℕ
most_rounded = most_sum + 2048

module _ {s : List ℤ} {f : Layout} (h : InSheet s f) (m : ℕ) (l : m < f.order) where
  pub row-of-16 : RowIn s most_order (row_of f m) m
  row-of-16 = row-wide h.order (h.row m l)

  pub row_small : {x : List ℤ} → Bounded most_allowance x → Within most_sum (along (at s) (row_of f m) m x)
  row_small k = along-small row-of-16 k

  pub rounded-sum-small : (rule : Rule) {x : List ℤ} → Bounded bound x → Within most_rounded (rounded_sum rule s f x m)
  unfolding rounded_sum
  rounded-sum-small rule k = rounded-within rule unit (omega arith) (omega arith) (row_small (bounded-le (omega arith) k))
