-- The block has the rows of s turns (`row_more`).
use Rattle.std.proofs.Common.{◌≤◌}
use Rattle.factor.specs.Rounding.{rule_by}
use Rattle.rectanglerun.specs.RowsInTurn.{Rows}
use Rattle.rectanglerun.proofs.triangles.all_rows.Given as goal

abbrev pub invariant-loop-s : goal.invariant-loop-s
invariant-loop-s g l =
    (l.s ≤ l.m) × Rows l.fn.task (rule_by l.down l.even) l.col l.fa l.row l.fb l.initial.x l.s l.x
