-- The block has the rows of s turns (`row_more`).
use Rattle.std.proofs.Common.{suc, ◌-◌, ap, arith, is_ok, ◌≡◌, ◌∙◌}
use Rattle.factor.specs.Tasks.{limit_of, is_inverse}
use Rattle.factor.specs.declared.run.Task.TheVariants.{Allowance}
use Rattle.laws.specs.Results.{passed}
use Rattle.joint.specs.RowsInPlace.{element_of, row_order}
use Rattle.rectanglerun.specs.RowsInTurn.{no_rows, turn_below, row_more, row-stops, rows_all}
use Rattle.rectanglerun.specs.UndoingOrder.{nth_row}
use Rattle.rectanglerun.proofs.allowances.allow_rows.Goals as goal
use Rattle.rectanglerun.proofs.allowances.allow_rows.Goals.{After-nth_undone-i}

pub loop-s-init : goal.loop-s-init
loop-s-init c = (omega arith, no_rows c.requires)

-- the row of this turn
turn : (c : After-nth_undone-i) →
    c.nth_undone-i.result ≡ nth_row Allowance c.args.fa c.loop-s.s
unfolding nth_row is_inverse
turn c =
    let e : c.args.fa.order - 1 - c.loop-s.s ≡ c.args.fa.order - suc c.loop-s.s = omega arith in
    c.nth_undone-i.ensures ∙ rw e

pub allow_row-requires : goal.allow_row-requires
unfolding limit_of
allow_row-requires c =
    let h = c.requires in
    let a = c.loop-s.invariant.1 in
    let t = turn (goal.at.allow_row-requires c).After-nth_undone-i in
    (h.column, h.row, turn_below h c.loop-s-test.true t, a.small)

pub returns-in_err-allow_row : goal.returns-in_err-allow_row
unfolding limit_of element_of row_order
returns-in_err-allow_row c =
    row-stops c.requires c.loop-s-test.true c.loop-s.invariant.1 (turn (goal.at.returns-in_err-allow_row c).After-nth_undone-i)
    c.allow_row.ensures (ap is_ok c.in_err-allow_row.was)
    (ap is_ok (passed c.from_residual.ensures.1))

pub loop-s-preserved : goal.loop-s-preserved
unfolding limit_of element_of row_order
loop-s-preserved c =
    let h = c.requires in
    let t = turn (goal.at.loop-s-preserved c).After-nth_undone-i in
    let through = ap is_ok c.in_ok-allow_row.was in
    (omega arith, row_more h c.loop-s-test.true c.loop-s.invariant.1 t c.allow_row.ensures through)

pub returns : goal.returns
returns c =
    let e : c.loop-s.s ≡ c.args.fa.order = omega arith in rows_all e c.loop-s.invariant.1
