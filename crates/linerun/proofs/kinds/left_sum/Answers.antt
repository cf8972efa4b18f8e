-- The entries stand on one side of the diagonal (`left_along`), and their sum is small.
use Rattle.std.proofs.Common.{◌≡◌, sym, ◌∙◌, arith, rules, length, w64, to_z, of_z}
use Rattle.factor.specs.Layouts.{row_of, along}
use Rattle.factor.specs.SumBounds.{Bounded, bounded-le, left-terms, part-is}
use Rattle.linerun.specs.LineBounds.{most_sum, row-of-16, row_small}
use Rattle.linerun.specs.RowsByKind.{lower-left, lower-right, left_along}
use Rattle.linerun.specs.Steps.{rounded_sum}
use Rattle.rules.specs.Numbers.{most_allowance, at}
use Rattle.whole.specs.Diff.{Within}
use Rattle.whole.specs.Machine.{back, within-le}
use Rattle.linerun.proofs.kinds.left_sum.Goals as goal
use Rattle.linerun.proofs.kinds.left_sum.Goals.{After-products_sum, Start}

bounded : (s : Start) → Bounded most_allowance s.args.x.now
bounded s = bounded-le (omega arith) s.requires.0.2

pub products_sum-requires : goal.products_sum-requires
products_sum-requires c =
    let e = lower-left c.args.f c.args.m c.requires.1 in
    let w : length c.args.x.now ≡ 16 = search rules in
    rw (part-is c.args.p c.args.sheet.now, c.requires.2)
    (rw e at (left-terms (row-of-16 c.requires.0.0 c.args.m c.requires.0.1) (bounded (goal.at.products_sum-requires c).Start) w))

value :
    (c : After-products_sum) →
    let a = c.args in
    to_z w64 (of_z w64 c.products_sum.result) ≡ along (at a.sheet.now) (row_of a.f a.m) a.m a.x.now
value c =
    let h = row-of-16 c.requires.0.0 c.args.m c.requires.0.1 in
    let w : length c.args.x.now ≡ 16 = search rules in
    back w64 _ c.products_sum.type_inv
    ∙ c.products_sum.ensures
    ∙ rw (part-is c.args.p c.args.sheet.now, c.requires.2)
    (left_along h (bounded-le (omega arith) c.requires.0.2) w (sym (lower-left c.args.f c.args.m c.requires.1))
    (lower-right c.args.f c.args.m c.requires.1))

small :
    (s : Start) →
    let a = s.args in Within most_sum (along (at a.sheet.now) (row_of a.f a.m) a.m a.x.now)
small s = row_small s.requires.0.0 s.args.m s.requires.0.1 (bounded s)

pub round_line-requires : goal.round_line-requires
round_line-requires c =
    let h = small (goal.at.round_line-requires c).Start in
    rw (value (goal.at.round_line-requires c).After-products_sum) (within-le (omega arith) h)

pub returns : goal.returns
unfolding rounded_sum
returns c =
    back w64 _ c.round_line.type_inv ∙ c.round_line.ensures.0 ∙ rw (value (goal.at.returns c).After-products_sum)
