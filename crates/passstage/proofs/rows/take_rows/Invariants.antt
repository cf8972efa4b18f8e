-- The lines are as t turns leave them (`Turns`).
use Rattle.std.proofs.Common.{◌≤◌}
use Rattle.factor.specs.Rounding.{rule_by}
use Rattle.passstage.specs.RowLaws.{Turns}
use Rattle.passstage.proofs.rows.take_rows.Given as goal

abbrev pub invariant-loop-t : goal.invariant-loop-t
invariant-loop-t l = (l.t ≤ l.f.order) × Turns l.back (rule_by l.down l.even) l.sheet l.f l.w l.t l.initial.x l.x
