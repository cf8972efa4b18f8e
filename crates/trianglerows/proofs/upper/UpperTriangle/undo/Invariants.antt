-- The block is as the turns so far leave it, all of it is in bound, and v has the row's sums with what is recovered.
use Rattle.std.proofs.Common.{◌≡◌, suc, ◌+◌, ◌-◌, ◌≤◌}
use Rattle.factor.specs.Rounding.{rule_by}
use Rattle.rules.specs.Factors.{above}
use Rattle.trianglerows.specs.TrianglesUndone.{recent_of, Undoing}
use Rattle.trianglerows.proofs.upper.UpperTriangle.undo.Given as goal

abbrev pub invariant-loop-t : goal.invariant-loop-t
invariant-loop-t l =
    (l.t ≤ l.to)
    × Undoing (rule_by l.down l.even) l.col l.fa l.row l.fb l.i l.from l.t l.initial.x l.x l.v
    × (l.p ≡ l.fb.entries + above l.fb.order (l.fb.order - l.t))
    × (l.last ≡ recent_of l.v (λ u. l.n - suc u) l.t)
