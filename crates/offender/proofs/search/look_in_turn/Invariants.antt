-- The search passed the elements of this turn below e (`Passed`).
use Rattle.std.proofs.Common.{◌≡◌, eqb}
use Rattle.offender.specs.RefusedStages.{cells, turn_of, search_of}
use Rattle.offender.specs.Search.{Passed}
use Rattle.rules.specs.Stages.{those}
use Rattle.offender.proofs.search.look_in_turn.Given as goal

abbrev pub invariant-loop-e : goal.invariant-loop-e
invariant-loop-e l = (l.e-end ≡ cells l.q) × Passed (search_of l.rule l.back l.q l.col l.row) (those (λ k. eqb (turn_of l.back l.q l.col l.row k) l.t) l.e) l.initial.x l.x
