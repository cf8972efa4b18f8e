-- The first l lines are moved (`line-moved`).
use Rattle.std.proofs.Common.{◌<◌, arith}
use Rattle.factor.specs.Tasks.{is_inverse}
use Rattle.passstage.specs.LaneLaws.{next-line, line-moved}
use Rattle.passstage.specs.LaneSteps.{line_moved}
use Rattle.rules.specs.Numbers.{most_order}
use Rattle.passstage.proofs.stage.move_lines.Goals as goal
use Rattle.passstage.proofs.stage.move_lines.Goals.{In-loop-l}

-- the line is one of sixteen
line : (c : In-loop-l) → c.loop-l.l < most_order
line c = let a = c.requires.1 in let b = c.loop-l-test.true in omega arith

pub loop-l-preserved : goal.loop-l-preserved
loop-l-preserved c =
    let u = c.loop-l.invariant.1 in (
      omega arith,
      next-line (line_moved c.args.task c.args.sheet.now c.args.f) (line (goal.at.loop-l-preserved c).In-loop-l) u
          (rw c.move_line.ensures (line-moved (is_inverse c.args.task) (line (goal.at.loop-l-preserved c).In-loop-l) u.long c.requires.0.order
          c.requires.0.permutes u.small)),
    )
