-- Whole lines first, then the turn in the line (`pass-turn`); both are small.
use Rattle.std.proofs.Common.{◌+◌, ◌*◌, ◌≤◌, ◌<◌, mul-le-mul, arith}
use Rattle.offender.specs.ElementTurns.{pass-turn, turn-most}
use Rattle.offender.specs.RefusedBounds.{line-below, spot-below}
use Rattle.rules.specs.Factors.{factor_at}
use Rattle.rules.specs.Numbers.{most_order}
use Rattle.offender.proofs.weights.pass_turn.Goals as goal
use Rattle.offender.proofs.weights.pass_turn.Goals.{After-line_of, After-spot_of}

-- the lines before it have few turns
before : (c : After-line_of) → c.line_of.result * (c.args.q.n1 + 4) ≤ most_order * (most_order + 4)
before c =
    let n = c.requires.0.0 in
    let m = c.requires.0.1 in
    let b = line-below c.args.q c.args.down c.args.e c.requires.4 in
    let l : c.line_of.result ≤ most_order = omega (arith, c.line_of.ensures) in
    let k : c.args.q.n1 + 4 ≤ most_order + 4 = omega arith in mul-le-mul l k

pub overflow_mul-result : goal.overflow_mul-result
overflow_mul-result c = let h = before (goal.at.overflow_mul-result c).After-line_of in omega arith

spot : (c : After-spot_of) → let q = c.args.q in c.spot_of.result < q.n1
spot c = rw c.spot_of.ensures (spot-below c.args.q c.args.down c.args.e c.requires.4)

pub line_turn-requires : goal.line_turn-requires
line_turn-requires c = (c.requires.1, spot (goal.at.line_turn-requires c).After-spot_of)

pub overflow_add-result-2 : goal.overflow_add-result-2
overflow_add-result-2 c =
    let q = c.args.q in
    let n = c.requires.0.0 in
    let h = before (goal.at.overflow_add-result-2 c).After-line_of in
    omega (arith, c.line_turn.ensures, turn-most c.args.sheet.now q.n1 q.i _ (spot (goal.at.overflow_add-result-2 c).After-spot_of))

pub returns : goal.returns
unfolding factor_at
returns c =
    let q = c.args.q in
    rw (c.line_of.ensures, c.line_turn.ensures, c.spot_of.ensures)
    (pass-turn q c.args.down (factor_at c.args.sheet.now q.n1 q.i) c.args.e)
