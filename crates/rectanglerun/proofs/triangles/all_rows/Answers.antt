use Rattle.std.proofs.Common.{sym, ap, arith, is_ok, ◌≡◌, ◌∙◌}
use Rattle.laws.specs.Results.{passed}
use Rattle.rectanglerun.specs.RowsInTurn.{no_rows, row-asks, row_more, row-stops, rows_all}
use Rattle.rectanglerun.specs.UndoingOrder.{nth_row, triangle-row}
use Rattle.rectanglerun.proofs.triangles.all_rows.Goals as goal
use Rattle.rectanglerun.proofs.triangles.all_rows.Goals.{After-nth-i}

-- the row of this turn
turn : (g : _) (c : After-nth-i g) → c.nth-i.result ≡ nth_row c.args.task c.args.fa c.loop-s.s
turn g c =
    let a = c.requires.asked in
    c.nth-i.ensures
    ∙ rw (c.is_upward-upward.ensures, ← a.alike)
    (triangle-row c.args.task c.args.fa _ c.loop-s-test.true (λ z. a.weighs (sym a.alike ∙ z))
    (λ z. c.requires.kind.0 (sym a.alike ∙ z)))

pub loop-s-init : goal.loop-s-init
loop-s-init g c = (omega arith, no_rows c.requires.asked)

pub by-requires : goal.by-requires
by-requires g c =
    let a = c.requires.asked in
    c.requires.may _ _
    (row-asks a c.loop-s-test.true (turn g (goal.at.by-requires g c).After-nth-i) c.requires.kind.1 c.loop-s.invariant.1)

pub returns-in_err-by : goal.returns-in_err-by
returns-in_err-by g c =
    row-stops c.requires.asked c.loop-s-test.true c.loop-s.invariant.1 (turn g (goal.at.returns-in_err-by g c).After-nth-i)
    (c.requires.makes _ _ _ _ c.by.ensures) (ap is_ok c.in_err-by.was) (ap is_ok (passed c.from_residual.ensures.1))

pub loop-s-preserved : goal.loop-s-preserved
loop-s-preserved g c = (
  omega arith,
  row_more c.requires.asked c.loop-s-test.true c.loop-s.invariant.1 (turn g (goal.at.loop-s-preserved g c).After-nth-i)
      (c.requires.makes _ _ _ _ c.by.ensures) (ap is_ok c.in_ok-by.was),
)

pub returns : goal.returns
returns g c =
    let e : c.loop-s.s ≡ c.args.fa.order = omega arith in rows_all e c.loop-s.invariant.1
