-- Each kind is a line of `entries_before`; a factor has fewer than 256 entries (`before-most`).
use Rattle.std.proofs.Common.{◌<◌, arith}
use Rattle.offender.specs.FactorMatrix.{before-most}
use Rattle.rules.specs.Factors.{entries_before}
use Rattle.offender.proofs.weights.entries_before.Goals as goal
use Rattle.offender.proofs.weights.entries_before.Goals.{Start}

-- a factor has few entries
few : (s : Start) → let a = s.args in entries_before a.kind a.n a.r a.m a.k < 256
few s = before-most _ _ _ _ _ s.requires.0 s.requires.1 s.requires.2 s.requires.3 s.requires.4

pub overflow_add-result : goal.overflow_add-result
unfolding entries_before
overflow_add-result c =
    let h = rw c.in-Lower.is at (few (goal.at.overflow_add-result c).Start) in omega (arith, c.before_lower.ensures)

pub overflow_add-result-in-Upper : goal.overflow_add-result-in-Upper
unfolding entries_before
overflow_add-result-in-Upper c =
    let h = rw c.in-Upper.is at (few (goal.at.overflow_add-result-in-Upper c).Start) in omega (arith, c.before_upper.ensures)
