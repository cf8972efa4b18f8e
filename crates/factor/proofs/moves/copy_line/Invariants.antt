-- The first m numbers of the line stand in the array.
use Rattle.std.proofs.Common.{◌≡◌, ◌+◌, ◌*◌, ◌≤◌}
use Rattle.rules.specs.Numbers.{at}
use Rattle.rules.specs.Stages.{fill}
use Rattle.factor.proofs.moves.copy_line.Given as goal

abbrev pub invariant-loop-m : goal.invariant-loop-m
invariant-loop-m l = (l.m ≤ l.n) × (l.v ≡ fill l.m (λ e. at l.x (l.k + e * l.s)) l.initial.v)
