-- The block has the turns from 0 to s (`turns_more`), and the rows after them ask of it what the first one did.
use Rattle.std.proofs.Common.{◌≢◌, ◌≡◌, refl, ◌∙◌, ◌-◌, ◌<◌, ap, arith, is_ok}
use Rattle.factor.specs.Tasks.{limit_of}
use Rattle.factor.specs.declared.run.Task.TheVariants.{Inverse}
use Rattle.laws.specs.Results.{passed}
use Rattle.joint.specs.RowsInPlace.{element_of, row_order}
use Rattle.rectanglerun.specs.RowsInTurn.{turn_below, still, asks, turns_more, turns-stop}
use Rattle.rectanglerun.specs.UndoingOrder.{nth_row, single-undone}
use Rattle.singlerows.specs.SingleRowsInPlace.{early-undone}
use Rattle.rectanglerun.proofs.singles.undo_rows_beside.Goals as goal
use Rattle.rectanglerun.proofs.singles.undo_rows_beside.Goals.{After-nth_single-i, In-loop-s}

-- the turn is not the last
early : (c : In-loop-s) → c.loop-s.s < c.args.fa.order - 1
early c = c.loop-s-test.true

below : (c : In-loop-s) → c.loop-s.s < c.args.fa.order
below c = let h = early c in omega arith

-- the row of this turn, which is not row r
turn : (c : After-nth_single-i) →
    c.nth_single-i.result ≡ nth_row Inverse c.args.fa c.loop-s.s
turn c =
    c.nth_single-i.ensures ∙ single-undone c.args.fa (c.requires.0.alike ∙ c.requires.1) c.loop-s.s

beside : (c : After-nth_single-i) → c.nth_single-i.result ≢ c.args.fa.row
beside c =
    let f = c.args.fa in
    rw c.nth_single-i.ensures (early-undone f.order f.row c.loop-s.s c.requires.0.low1 (early c.before))

pub undo_beside-requires : goal.undo_beside-requires
unfolding limit_of
undo_beside-requires c =
    let h = c.loop-s.invariant.1 in
    let g = goal.at.undo_beside-requires c in
    let i = g.After-nth_single-i in
    (asks h (turn_below h (below g.In-loop-s) (turn i)) refl, c.requires.1, beside i, c.requires.2)

pub returns-in_err-undo_beside : goal.returns-in_err-undo_beside
unfolding limit_of element_of row_order
returns-in_err-undo_beside c =
    let g = goal.at.returns-in_err-undo_beside c in
    turns-stop c.loop-s.invariant.2 (below g.In-loop-s) (turn g.After-nth_single-i) c.undo_beside.ensures
    (ap is_ok c.in_err-undo_beside.was) (ap is_ok (passed c.from_residual.ensures.1))

pub loop-s-preserved : goal.loop-s-preserved
unfolding limit_of element_of row_order
loop-s-preserved c =
    let g = goal.at.loop-s-preserved c in
    let l = c.loop-s in
    let h = l.invariant.1 in
    let w = c.undo_beside.ensures in
    let o = ap is_ok c.in_ok-undo_beside.was in (
      omega arith,
      still h (w.through o).1 (w.keeps ∙ h.long),
      turns_more l.invariant.2 (below g.In-loop-s) (turn g.After-nth_single-i) w o,
    )
