-- The search passed the turns before t (`Passed`).
use Rattle.std.proofs.Common.{◌≡◌}
use Rattle.offender.specs.RefusedStages.{cells, turns, turn_of, search_of}
use Rattle.offender.specs.Search.{Passed}
use Rattle.rules.specs.Shapes.{by_turn}
use Rattle.offender.proofs.search.first_found.Given as goal

abbrev pub invariant-loop-t : goal.invariant-loop-t
invariant-loop-t l = (l.t-end ≡ turns l.back l.q) × Passed (search_of l.rule l.back l.q l.col l.row) (by_turn (cells l.q) l.t (turn_of l.back l.q l.col l.row)) l.initial.x l.x
