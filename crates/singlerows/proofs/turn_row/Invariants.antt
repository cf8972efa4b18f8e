-- The first j numbers are turned, and all are as small as they were.
use Rattle.std.proofs.Common.{◌≤◌}
use Rattle.rules.specs.Numbers.{at}
use Rattle.singlerows.specs.SingleRows.{Turned}
use Rattle.singlerows.proofs.turn_row.Given as goal

abbrev pub invariant-loop-j : goal.invariant-loop-j
invariant-loop-j l = (l.j ≤ l.n) × Turned (at l.g) (l.d) l.k l.j l.initial.x l.x
