-- The block is as the turns so far leave it, and all of it is in bound.
use Rattle.std.proofs.Common.{◌≡◌, ◌+◌, ◌≤◌}
use Rattle.factor.specs.InPlace.{in_place}
use Rattle.factor.specs.Rounding.{rule_by}
use Rattle.factor.specs.SumBounds.{Bounded}
use Rattle.joint.specs.Triangles.{applied_in}
use Rattle.rules.specs.Numbers.{bound}
use Rattle.singlerows.proofs.apply_elements.Given as goal

abbrev pub invariant-loop-j : goal.invariant-loop-j
invariant-loop-j l =
    (l.j ≤ l.n)
    × (l.x ≡ in_place (applied_in (rule_by l.down l.even) l.row l.f l.d l.v l.k) (λ u. l.k + u) l.j l.initial.x)
    × Bounded bound l.x
