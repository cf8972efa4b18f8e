-- Row r is the row of turn 0 (`first-applied`), and the rows beside it are those of all later turns (`turns-last`).
use Rattle.std.proofs.Common.{◌≡◌, ◌∙◌, ◌<◌, ap, arith, is_ok}
use Rattle.factor.specs.Rounding.{rule_by}
use Rattle.factor.specs.Tasks.{limit_of}
use Rattle.factor.specs.declared.run.Task.TheVariants.{Forward}
use Rattle.laws.specs.Results.{passed}
use Rattle.joint.specs.RowsInPlace.{element_of, row_order}
use Rattle.rectanglerun.specs.RowsInTurn.{Rows, no_rows, row_more, row-stops, turns-last}
use Rattle.rectanglerun.specs.UndoingOrder.{nth_row, first-applied}
use Rattle.singlerows.specs.SingleRows.{one-row}
use Rattle.rectanglerun.proofs.singles.apply_single_rows.Goals as goal
use Rattle.rectanglerun.proofs.singles.apply_single_rows.Goals.{In_ok-apply_crossing, Start}

pub apply_crossing-requires : goal.apply_crossing-requires
unfolding limit_of
apply_crossing-requires c =
    let h = c.requires.0 in (h.column, h.row, h.low1, h.small, h.low2, one-row c.args.fb c.requires.1)

-- row r comes first
some : (s : Start) → 0 < s.args.fa.order
some s = let l = s.requires.0.low1 in omega arith

turn : (s : Start) → s.args.fa.row ≡ nth_row Forward s.args.fa 0
turn s = first-applied s.args.fa (s.requires.0.alike ∙ s.requires.1) s.requires.0.low1

pub returns-in_err-apply_crossing : goal.returns-in_err-apply_crossing
unfolding limit_of element_of row_order
returns-in_err-apply_crossing c =
    let s = (goal.at.returns-in_err-apply_crossing c).Start in
    let h = c.requires.0 in
    row-stops h (some s) (no_rows h) (turn s) c.apply_crossing.ensures (ap is_ok c.in_err-apply_crossing.was)
    (ap is_ok (passed c.from_residual.ensures.1))

first : (c : In_ok-apply_crossing) →
    Rows Forward (rule_by c.args.down c.args.even) c.args.col.now c.args.fa c.args.row.now c.args.fb
    c.args.x.now 1
    c.apply_crossing.new.x
unfolding limit_of element_of row_order
first c =
    let s = c.before.before.before.before.before.before in
    let h = c.requires.0 in
    row_more h (some s) (no_rows h) (turn s) c.apply_crossing.ensures (ap is_ok c.in_ok-apply_crossing.was)

pub returns : goal.returns
returns c =
    turns-last c.requires.0 (first (goal.at.returns c).In_ok-apply_crossing) c.apply_all_beside.ensures
