-- The first l lines are moved (`line-moved`).
use Rattle.std.proofs.Common.{◌≤◌}
use Rattle.factor.specs.Tasks.{limit_of}
use Rattle.passstage.specs.LaneLaws.{UpTo}
use Rattle.passstage.specs.LaneSteps.{line_moved}
use Rattle.passstage.proofs.stage.move_lines.Given as goal

abbrev pub invariant-loop-l : goal.invariant-loop-l
invariant-loop-l l = (l.l ≤ l.w) × UpTo (limit_of l.task) (line_moved l.task l.sheet l.f) l.l l.initial.x l.x
