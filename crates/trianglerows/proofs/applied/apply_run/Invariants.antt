-- The block is as the turns so far leave it, all of it is in bound, and the entries of the element in turn start at p.
use Rattle.std.proofs.Common.{◌≡◌, ◌+◌, ◌-◌, ◌≤◌}
use Rattle.factor.specs.InPlace.{in_place}
use Rattle.factor.specs.Layouts.{row_of}
use Rattle.factor.specs.Rounding.{rule_by}
use Rattle.factor.specs.SumBounds.{Bounded}
use Rattle.joint.specs.RowsInPlace.{onward}
use Rattle.joint.specs.Triangles.{applied_in}
use Rattle.rules.specs.Numbers.{bound}
use Rattle.trianglerows.proofs.applied.apply_run.Given as goal

abbrev pub invariant-loop-j : goal.invariant-loop-j
invariant-loop-j g l =
    (l.from ≤ l.j) × (l.j ≤ l.to)
    × (l.x ≡ in_place (applied_in (rule_by l.down l.even) l.row l.f l.d l.v l.k)
    (onward (λ u. l.k + u) l.from) (l.j - l.from) l.initial.x)
    × Bounded bound l.x
    × (l.p ≡ (row_of l.f l.j).at)
