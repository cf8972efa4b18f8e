-- The block is as u turns leave it, all of it is in bound, and v has the row's sums with what is recovered (`RecoveredSums`).
use Rattle.std.proofs.Common.{◌≡◌, ◌≤◌, length}
use Rattle.factor.specs.InPlace.{in_place}
use Rattle.factor.specs.Rounding.{rule_by}
use Rattle.factor.specs.SumBounds.{Bounded}
use Rattle.factor.specs.UndoingOrder.{nth_undone}
use Rattle.joint.specs.Elements.{undone_of}
use Rattle.joint.specs.RecoveredSums.{RecoveredSums}
use Rattle.joint.specs.RowsInPlace.{in_row}
use Rattle.joint.specs.Sums.{most_column}
use Rattle.rules.specs.Numbers.{bound}
use Rattle.singlerows.proofs.undo_crossing.Given as goal

abbrev pub invariant-loop-u : goal.invariant-loop-u
invariant-loop-u l =
    (l.u ≤ l.n)
    × (l.x ≡ in_place (undone_of (rule_by l.down l.even) l.col l.fa l.row l.fb)
    (λ t. in_row l.n l.i (nth_undone l.fb.kind l.n l.fb.row t)) l.u l.initial.x)
    × Bounded bound l.x
    × RecoveredSums l.col l.fa l.i l.fb l.u l.x l.v
    × Bounded most_column l.v
    × (length l.v ≡ 16)
