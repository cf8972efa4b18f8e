-- The sum so far is the sum of the first j terms; each term and each sum is small (`wide-small`).
use Rattle.std.proofs.Common.{◌≡◌, ◌+◌, ◌≤◌, ◌*ℤ◌}
use Rattle.rules.specs.Numbers.{at}
use Rattle.whole.specs.Stated.{sum}
use Rattle.joint.proofs.sums.wide_sum.Given as goal

abbrev pub invariant-loop-j : goal.invariant-loop-j
invariant-loop-j l = (l.j ≤ l.m) × (l.sum ≡ (sum l.j (λ i. at l.a (l.p + i) *ℤ at l.v (l.k + i))))
