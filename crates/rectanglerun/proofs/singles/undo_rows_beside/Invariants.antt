-- The block has the turns from 0 to s (`turns_more`), and the rows after them ask of it what the first one did.
use Rattle.std.proofs.Common.{true, ◌≤◌}
use Rattle.factor.specs.Rounding.{rule_by}
use Rattle.factor.specs.declared.run.Task.TheVariants.{Inverse}
use Rattle.rectanglerun.specs.RowsInTurn.{Weighable, TurnsDone}
use Rattle.rectanglerun.proofs.singles.undo_rows_beside.Given as goal

abbrev pub invariant-loop-s : goal.invariant-loop-s
invariant-loop-s l =
    (l.s ≤ l.s-end) × Weighable Inverse l.col l.fa l.row l.fb l.x
    × TurnsDone Inverse (rule_by l.down l.even) l.col l.fa l.row l.fb 0 l.s l.initial.x true l.x
