-- Only one row has entries (`single-none`); its sum is small (`row_small`), so it and its rounding fit 64 bits.
use Rattle.std.proofs.Common.{◌≡◌, sym, ◌∙◌, arith, w64, to_z, of_z}
use Rattle.factor.specs.Layouts.{row_of, along}
use Rattle.factor.specs.Rounding.{rule_by}
use Rattle.factor.specs.SumBounds.{bounded-le}
use Rattle.linerun.specs.LineBounds.{most_sum, row_small}
use Rattle.linerun.specs.RowsByKind.{single-none}
use Rattle.rules.specs.Numbers.{at}
use Rattle.whole.specs.Diff.{Within}
use Rattle.whole.specs.Machine.{back, within-le}
use Rattle.linerun.proofs.kinds.single_sum.Goals as goal
use Rattle.linerun.proofs.kinds.single_sum.Goals.{After-row_sum}

pub returns-else-m-f : goal.returns-else-m-f
returns-else-m-f c =
    sym (single-none (rule_by c.args.down c.args.even) c.args.sheet.now c.args.f c.args.x.now c.args.m
    c.requires.1 c.if-m-f.false)

value :
    (c : After-row_sum) →
    to_z w64 (of_z w64 c.row_sum.result)
    ≡ along (at c.args.sheet.now)
    (row_of c.args.f c.args.m)
    c.args.m c.args.x.now
value c = back w64 _ c.row_sum.type_inv ∙ c.row_sum.ensures ∙ rw c.row_of.ensures

small :
    (c : After-row_sum) →
    Within most_sum (along (at c.args.sheet.now)
    (row_of c.args.f c.args.m)
    c.args.m
    c.args.x.now)
small c = let h = c.requires.0 in row_small h.0 c.args.m
    h.1 (bounded-le (omega arith) h.2)

pub round_line-requires : goal.round_line-requires
round_line-requires c =
    let here = goal.at.round_line-requires c in
    rw (value here.After-row_sum) (within-le (omega arith) (small here.After-row_sum))
