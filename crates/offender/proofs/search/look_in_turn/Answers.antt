-- The search passed the elements of this turn below e (`Passed`).
use Rattle.std.proofs.Common.{Bool, ℕ, ◌<◌, arith, eqb}
use Rattle.offender.specs.RefusedStages.{cells, turn_of}
use Rattle.offender.specs.Search.{those-grow, step-stops}
use Rattle.offender.proofs.search.look_in_turn.Goals as goal
use Rattle.offender.proofs.search.look_in_turn.Goals.{In-loop-e, Start}

-- whether it is the turn of element k
abbrev test : Start → ℕ → Bool
test s k = eqb (turn_of s.args.back s.args.q s.args.col.now s.args.row.now k) s.args.t

-- e is an element
turn : (c : In-loop-e) → c.loop-e.e < cells c.args.q
turn c = let l = c.loop-e-test.true in omega (arith, c.loop-e.invariant.0)

pub returns-then-is_err : goal.returns-then-is_err
returns-then-is_err c =
    step-stops (those-grow (test (goal.at.returns-then-is_err c).Start)) c.loop-e.e _ (turn (goal.at.returns-then-is_err c).In-loop-e) c.loop-e.invariant.1
    (c.look_at.ensures.stops (grind arith))
