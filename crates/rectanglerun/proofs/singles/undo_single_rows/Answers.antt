-- The rows beside row r are those of all turns but the last, and row r is that of the last (`last-row-undone`).
use Rattle.std.proofs.Common.{◌∙◌, ◌-◌, ap, arith, is_ok}
use Rattle.factor.specs.Rounding.{rule_by}
use Rattle.factor.specs.Tasks.{limit_of}
use Rattle.factor.specs.declared.run.Task.TheVariants.{Inverse}
use Rattle.laws.specs.Results.{passed}
use Rattle.joint.specs.RowsInPlace.{element_of, row_order}
use Rattle.rectanglerun.specs.RowsInTurn.{Rows, no_rows, row_last}
use Rattle.rectanglerun.specs.UndoingOrder.{last-row-undone}
use Rattle.rectanglerun.proofs.singles.undo_single_rows.Goals as goal
use Rattle.rectanglerun.proofs.singles.undo_single_rows.Goals.{In_ok-undo_all_beside}

pub returns-in_err-undo_all_beside : goal.returns-in_err-undo_all_beside
returns-in_err-undo_all_beside c =
    let h = c.requires.0 in
    let no = ap is_ok c.in_err-undo_all_beside.was in
    rw (ap is_ok (passed c.from_residual.ensures.1)) (rw no at (c.undo_all_beside.ensures.stopped no h (no_rows h)))

others : (c : In_ok-undo_all_beside) →
    Rows Inverse (rule_by c.args.down c.args.even) c.args.col.now c.args.fa c.args.row.now c.args.fb
    c.args.x.now
    (c.args.fa.order - 1) c.undo_all_beside.new.x
others c =
    let h = c.requires.0 in
    c.undo_all_beside.ensures.through (ap is_ok c.in_ok-undo_all_beside.was) h (no_rows h)

pub undo_crossing-requires : goal.undo_crossing-requires
unfolding limit_of
undo_crossing-requires c =
    let a = others (goal.at.undo_crossing-requires c).In_ok-undo_all_beside in
    let h = c.requires.0 in
    (h.column, h.row, h.low1, h.low2, a.small, a.long)

pub returns : goal.returns
unfolding limit_of element_of row_order
returns c =
    let h = c.requires.0 in
    row_last h (let l = h.low1 in omega arith) (others (goal.at.returns c).In_ok-undo_all_beside)
    (last-row-undone c.args.fa (h.alike ∙ c.requires.1) h.low1) c.undo_crossing.ensures
