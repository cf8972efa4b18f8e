-- The search passed the turns before t (`Passed`).
use Rattle.std.proofs.Common.{◌≡◌, sym, ℕ, ◌<◌, arith}
use Rattle.offender.specs.RefusedStages.{cells, turns, turn_of}
use Rattle.offender.specs.Search.{searched, turns-grow, found-whole, passed-whole, step-stops}
use Rattle.offender.proofs.search.first_found.Goals as goal
use Rattle.offender.proofs.search.first_found.Goals.{Start}

-- the turn of element k
abbrev ranks : Start → ℕ → ℕ
ranks s k = turn_of s.args.back s.args.q s.args.col.now s.args.row.now k

pub returns-in-Some : goal.returns-in-Some
returns-in-Some c =
    let b : c.loop-t.t < turns c.args.back c.args.q = let h = c.loop-t-test.true in omega (arith, c.loop-t.invariant.0) in
    sym
    (found-whole
    (step-stops (turns-grow (cells c.args.q) (ranks (goal.at.returns-in-Some c).Start)) c.loop-t.t (turns c.args.back c.args.q) b c.loop-t.invariant.1
    c.in-Some.ensures))

pub returns : goal.returns
unfolding searched
returns c =
    let e : c.loop-t.t ≡ turns c.args.back c.args.q = omega (arith, c.loop-t.invariant.0) in
    sym (passed-whole (rw e at c.loop-t.invariant.1))
