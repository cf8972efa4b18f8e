-- The block is as t turns leave it, and in bound (`Filled`).
use Rattle.factor.specs.Rounding.{rule_by}
use Rattle.linerun.specs.Filling.{Filled}
use Rattle.linerun.specs.Steps.{undone_in_place}
use Rattle.linerun.proofs.kinds.single_back.Given as goal

abbrev pub invariant-loop-t : goal.invariant-loop-t
invariant-loop-t l =
    Filled (λ k. undone_in_place (rule_by l.down l.even) l.sheet l.f k l.initial.x) l.t l.x
