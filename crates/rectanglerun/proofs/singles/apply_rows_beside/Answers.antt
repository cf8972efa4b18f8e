-- The block has the turns from 1 to s (`turns_more`), and the rows after them ask of it what the first one did.
use Rattle.std.proofs.Common.{◌≢◌, ◌≡◌, refl, ◌∙◌, ◌-◌, ap, arith, is_ok}
use Rattle.factor.specs.Tasks.{limit_of}
use Rattle.factor.specs.declared.run.Task.TheVariants.{Forward}
use Rattle.laws.specs.Results.{passed}
use Rattle.joint.specs.RowsInPlace.{element_of, row_order}
use Rattle.rectanglerun.specs.RowsInTurn.{turn_below, still, asks, turns_more, turns-stop}
use Rattle.rectanglerun.specs.UndoingOrder.{nth_row, single-applied}
use Rattle.singlerows.specs.SingleRowsInPlace.{early-undone}
use Rattle.rectanglerun.proofs.singles.apply_rows_beside.Goals as goal
use Rattle.rectanglerun.proofs.singles.apply_rows_beside.Goals.{After-nth_single-i}

-- the row of this turn, which is not row r
turn : (c : After-nth_single-i) →
    c.nth_single-i.result ≡ nth_row Forward c.args.fa c.loop-s.s
turn c =
    c.nth_single-i.ensures
    ∙ single-applied c.args.fa (c.requires.0.alike ∙ c.requires.1) c.loop-s.s c.loop-s-test.true

beside : (c : After-nth_single-i) → c.nth_single-i.result ≢ c.args.fa.row
beside c =
    let f = c.args.fa in
    let a = c.loop-s.invariant.0 in
    let b = c.loop-s-test.true in
    rw c.nth_single-i.ensures
    (early-undone f.order f.row (f.order - 1 - c.loop-s.s) c.requires.0.low1 (omega arith))

pub apply_beside-requires : goal.apply_beside-requires
unfolding limit_of
apply_beside-requires c =
    let h = c.loop-s.invariant.2 in
    let i = (goal.at.apply_beside-requires c).After-nth_single-i in
    (asks h (turn_below h c.loop-s-test.true (turn i)) refl, c.requires.1, beside i, c.requires.2)

pub returns-in_err-apply_beside : goal.returns-in_err-apply_beside
unfolding limit_of element_of row_order
returns-in_err-apply_beside c =
    let i = (goal.at.returns-in_err-apply_beside c).After-nth_single-i in
    turns-stop c.loop-s.invariant.3 c.loop-s-test.true (turn i) c.apply_beside.ensures
    (ap is_ok c.in_err-apply_beside.was) (ap is_ok (passed c.from_residual.ensures.1))

pub loop-s-preserved : goal.loop-s-preserved
unfolding limit_of element_of row_order
loop-s-preserved c =
    let l = c.loop-s in
    let h = l.invariant.2 in
    let w = c.apply_beside.ensures in
    let o = ap is_ok c.in_ok-apply_beside.was in (
      omega arith,
      omega arith,
      still h (w.through o).1 (w.keeps ∙ h.long),
      turns_more l.invariant.3 c.loop-s-test.true (turn (goal.at.loop-s-preserved c).After-nth_single-i) w o,
    )
