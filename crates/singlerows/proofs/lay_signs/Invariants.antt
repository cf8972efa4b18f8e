-- The first j signs stand in the array, the rest of it is 0.
use Rattle.std.proofs.Common.{◌≡◌, ◌≤◌, pos, replicate}
use Rattle.joint.specs.Elements.{sign_at}
use Rattle.rules.specs.Stages.{fill}
use Rattle.singlerows.proofs.lay_signs.Given as goal

abbrev pub invariant-loop-j : goal.invariant-loop-j
invariant-loop-j l = (l.j ≤ l.n) × (l.g ≡ fill l.j (sign_at l.row l.f) (replicate 16 (pos 0)))
