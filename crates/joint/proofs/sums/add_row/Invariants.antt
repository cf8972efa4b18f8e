-- The first c sums have their number more, the others are as they were.
use Rattle.std.proofs.Common.{◌≡◌, ◌+◌, ◌≤◌, ◌+ℤ◌, ◌*ℤ◌}
use Rattle.rules.specs.Numbers.{at}
use Rattle.rules.specs.Stages.{fill}
use Rattle.joint.proofs.sums.add_row.Given as goal

abbrev pub invariant-loop-c : goal.invariant-loop-c
invariant-loop-c l = (l.c ≤ l.w) × (l.v ≡ fill l.c (λ i. at l.initial.v i +ℤ (l.a *ℤ at l.x (l.k + i))) l.initial.v)
