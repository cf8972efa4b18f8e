-- The block has the turns from 1 to s (`turns_more`), and the rows after them ask of it what the first one did.
use Rattle.std.proofs.Common.{true, ◌≤◌}
use Rattle.factor.specs.Rounding.{rule_by}
use Rattle.factor.specs.declared.run.Task.TheVariants.{Forward}
use Rattle.rectanglerun.specs.RowsInTurn.{Weighable, TurnsDone}
use Rattle.rectanglerun.proofs.singles.apply_rows_beside.Given as goal

abbrev pub invariant-loop-s : goal.invariant-loop-s
invariant-loop-s l =
    (1 ≤ l.s) × (l.s ≤ l.m) × Weighable Forward l.col l.fa l.row l.fb l.x
    × TurnsDone Forward (rule_by l.down l.even) l.col l.fa l.row l.fb 1 l.s l.initial.x true l.x
