-- The first i rows and columns have changed places, as far as the smaller order.
use Rattle.std.proofs.Common.{◌≡◌}
use Rattle.passrun.specs.Layout.{turning}
use Rattle.passrun.proofs.layout.turn.Given as goal

abbrev pub invariant-loop-i : goal.invariant-loop-i
invariant-loop-i l = l.x ≡ turning l.few l.i l.initial.x
