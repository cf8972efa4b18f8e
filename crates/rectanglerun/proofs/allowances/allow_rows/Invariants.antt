-- The block has the rows of s turns (`row_more`).
use Rattle.std.proofs.Common.{◌≤◌}
use Rattle.factor.specs.declared.run.Task.TheVariants.{Allowance}
use Rattle.rectanglerun.specs.RowsInTurn.{Rows}
use Rattle.rectanglerun.proofs.allowances.allow_rows.Given as goal

abbrev pub invariant-loop-s : goal.invariant-loop-s
invariant-loop-s l = (l.s ≤ l.n) × Rows Allowance l.rule l.col l.fa l.row l.fb l.initial.x l.s l.x
