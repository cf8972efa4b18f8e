-- The first j numbers of row i and of column i have changed places.
use Rattle.std.proofs.Common.{◌≡◌, ◌≤◌}
use Rattle.passrun.specs.Layout.{exchanged}
use Rattle.passrun.proofs.layout.exchange.Given as goal

abbrev pub invariant-loop-j : goal.invariant-loop-j
invariant-loop-j l = (l.j ≤ l.to) × (l.x ≡ exchanged l.i l.j l.initial.x)
