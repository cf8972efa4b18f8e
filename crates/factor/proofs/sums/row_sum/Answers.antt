-- Both runs are small, and so is their sum (`along-small`).
use Rattle.std.proofs.Common.{◌≡◌, ap₂, ◌∙◌, ◌+◌, ◌*◌, arith, ◌+ℤ◌, w64, to_z, of_z}
use Rattle.factor.specs.Layouts.{along}
use Rattle.factor.specs.SumBounds.{right-terms, along-runs, along-small, part-is}
use Rattle.rules.specs.Numbers.{most_entry, most_allowance, at}
use Rattle.whole.specs.Diff.{Within}
use Rattle.whole.specs.Machine.{fits, reads, back}
use Rattle.factor.proofs.sums.row_sum.Goals as goal
use Rattle.factor.proofs.sums.row_sum.Goals.{After-products_sum_from}

pub products_sum_from-requires : goal.products_sum_from-requires
products_sum_from-requires c =
    rw (part-is (c.args.r.at + c.args.r.left) c.args.sheet.now)
    (let b = c.requires.0.right in omega arith, right-terms c.requires.0 c.requires.1 (omega arith))

value :
    (c : After-products_sum_from) →
    to_z w64 (of_z w64 c.products_sum.result) +ℤ to_z w64 (of_z w64 c.products_sum_from.result)
    ≡ along (at c.args.sheet.now) c.args.r c.args.m c.args.x.now
value c =
    ap₂ ◌+ℤ◌
    (back w64 _ c.products_sum.type_inv ∙ (rw (part-is c.args.r.at c.args.sheet.now) at c.products_sum.ensures))
    (back w64 _ c.products_sum_from.type_inv
    ∙ (rw (part-is (c.args.r.at + c.args.r.left) c.args.sheet.now) at c.products_sum_from.ensures))
    ∙ along-runs c.requires.0 c.requires.1 (omega arith)

small :
    (c : After-products_sum_from) →
    Within (32 * (most_entry * most_allowance)) (along (at c.args.sheet.now) c.args.r c.args.m c.args.x.now)
small c = along-small c.requires.0 c.requires.1

pub overflow_add-result : goal.overflow_add-result
overflow_add-result c =
    let a = (goal.at.overflow_add-result c).After-products_sum_from in
    rw (value a) (fits (small a) tt)

pub returns : goal.returns
returns c =
    let a = (goal.at.returns c).After-products_sum_from in
    rw (value a) (reads w64 (small a) tt)
