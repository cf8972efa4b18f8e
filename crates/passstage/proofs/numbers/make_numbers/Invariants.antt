-- The first l numbers are made, and it is known whether they are all in bound (`Judged`).
use Rattle.std.proofs.Common.{◌≡◌, ◌+◌, ◌≤◌}
use Rattle.factor.specs.Rounding.{rule_by}
use Rattle.passstage.specs.LaneSteps.{made_by, row_set}
use Rattle.passstage.specs.Parts.{joined}
use Rattle.passstage.specs.RowLaws.{Judged}
use Rattle.rules.specs.Numbers.{unit, at}
use Rattle.rules.specs.Stages.{R}
use Rattle.passstage.proofs.numbers.make_numbers.Given as goal

abbrev pub invariant-loop-l : goal.invariant-loop-l
invariant-loop-l l =
    (l.l ≤ l.w)
    × (l.x ≡ row_set l.k l.l (λ e. made_by l.back (l.d) (at l.initial.x (l.k + e)) (R (rule_by l.down l.even) unit (joined l.v e))) l.initial.x)
    × Judged l.l (λ e. made_by l.back (l.d) (at l.initial.x (l.k + e)) (R (rule_by l.down l.even) unit (joined l.v e))) l.fine
