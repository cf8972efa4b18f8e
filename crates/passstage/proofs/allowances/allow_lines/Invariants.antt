-- The first l lines have their allowances, and the others are as they were (`UpTo`).
use Rattle.std.proofs.Common.{◌≤◌}
use Rattle.passstage.specs.LaneLaws.{UpTo}
use Rattle.passstage.specs.LaneSteps.{line_allowed}
use Rattle.rules.specs.Numbers.{most_allowance}
use Rattle.passstage.proofs.allowances.allow_lines.Given as goal

abbrev pub invariant-loop-l : goal.invariant-loop-l
invariant-loop-l l = (l.l ≤ l.w) × UpTo most_allowance (line_allowed l.rule l.sheet l.f) l.l l.initial.x l.x
