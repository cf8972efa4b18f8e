-- The first l lines are moved (`next-line`).
use Rattle.std.proofs.Common.{arith}
use Rattle.factor.specs.Tasks.{is_inverse}
use Rattle.pairmoves.specs.Moves.{next-line}
use Rattle.pairmoves.proofs.move_lines.Goals as goal

pub loop-l-preserved : goal.loop-l-preserved
loop-l-preserved c =
    let b = is_inverse c.args.task in
    let t = c.loop-l-test.true in
    (omega arith, next-line b c.loop-l.l c.requires.1 c.requires.0.permutes t c.loop-l.invariant.1 c.move_line.ensures)
