-- The lines are as t turns leave them (`Turns`).
use Rattle.std.proofs.Common.{arith, refl}
use Rattle.std.proofs.lemmas.Result.{err_from_is_err_and}
use Rattle.factor.specs.Rounding.{rule_by}
use Rattle.passstage.specs.RowLaws.{turn-permutes, no-turn, turns_next, turns-stop}
use Rattle.rules.specs.declared.Rule.{Rule}
use Rattle.passstage.proofs.rows.take_rows.Goals as goal
use Rattle.passstage.proofs.rows.take_rows.Goals.{Start}

pub loop-t-init : goal.loop-t-init
loop-t-init c = (omega arith, no-turn c.requires.3 c.requires.4)

abbrev K : Start → Rule
K s = rule_by s.args.down s.args.even

pub take_row-requires : goal.take_row-requires
take_row-requires c =
    let u = c.loop-t.invariant.1 in
    rw c.row_in_turn-m.ensures (
      c.requires.0,
      (turn-permutes c.args.back c.args.f c.requires.1).below _ c.loop-t-test.true,
      c.requires.2,
      u.small,
      u.long,
    )

pub returns-in_err-take_row : goal.returns-in_err-take_row
returns-in_err-take_row c =
    let p = err_from_is_err_and c.from_residual.result c.from_residual.ensures.1 in
    rw p.1
    (turns-stop c.args.back (K (goal.at.returns-in_err-take_row c).Start) c.requires.0 c.requires.1 c.requires.2 c.loop-t-test.true
    c.loop-t.invariant.1 (rw c.row_in_turn-m.ensures at c.in_err-take_row.ensures) refl)

pub loop-t-preserved : goal.loop-t-preserved
loop-t-preserved c = (
  omega arith,
  turns_next c.args.back (K (goal.at.loop-t-preserved c).Start) c.requires.0 c.requires.1 c.requires.2 c.loop-t-test.true
      c.loop-t.invariant.1 (rw c.row_in_turn-m.ensures at c.in_ok-take_row.ensures) refl,
)
