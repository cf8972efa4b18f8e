-- The first l numbers are turned.
use Rattle.std.proofs.Common.{◌≡◌, ◌+◌, ◌≤◌, ◌*ℤ◌}
use Rattle.passstage.specs.LaneSteps.{row_set}
use Rattle.rules.specs.Numbers.{at}
use Rattle.passstage.proofs.numbers.turn_row.Given as goal

abbrev pub invariant-loop-l : goal.invariant-loop-l
invariant-loop-l l = (l.l ≤ l.w) × (l.x ≡ row_set l.k l.l (λ e. l.d *ℤ at l.initial.x (l.k + e)) l.initial.x)
