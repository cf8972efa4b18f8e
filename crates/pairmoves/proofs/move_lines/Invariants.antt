-- The first l lines are moved (`next-line`).
use Rattle.std.proofs.Common.{◌≤◌}
use Rattle.factor.specs.Tasks.{is_inverse}
use Rattle.pairmoves.specs.Moves.{MovedBySheet}
use Rattle.pairmoves.proofs.move_lines.Given as goal

abbrev pub invariant-loop-l : goal.invariant-loop-l
invariant-loop-l l = (l.l ≤ l.many) × MovedBySheet l.sheet l.f (is_inverse l.task) l.l l.w l.s l.initial.x l.x
