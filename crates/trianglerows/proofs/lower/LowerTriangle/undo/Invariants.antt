-- The block is as the turns so far leave it, all of it is in bound, and v has the row's sums with what is recovered.
use Rattle.std.proofs.Common.{◌≡◌, ◌≤◌}
use Rattle.factor.specs.Layouts.{row_of}
use Rattle.factor.specs.Rounding.{rule_by}
use Rattle.trianglerows.specs.TrianglesUndone.{recent_of, Undoing}
use Rattle.trianglerows.proofs.lower.LowerTriangle.undo.Given as goal

abbrev pub invariant-loop-j : goal.invariant-loop-j
invariant-loop-j l =
    (l.j ≤ l.to)
    × Undoing (rule_by l.down l.even) l.col l.fa l.row l.fb l.i l.from l.j l.initial.x l.x l.v
    × (l.p ≡ (row_of l.fb l.j).at)
    × (l.last ≡ recent_of l.v (λ t. t) l.j)
