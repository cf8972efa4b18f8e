-- The sum so far is the sum of the first j terms; each term and each sum is small (`narrow-small`).
use Rattle.std.proofs.Common.{◌≡◌, ◌+◌, ◌≤◌, ◌*ℤ◌}
use Rattle.rules.specs.Numbers.{at}
use Rattle.whole.specs.Stated.{sum}
use Rattle.singlerows.proofs.narrow_sum.Given as goal

abbrev pub invariant-loop-j : goal.invariant-loop-j
invariant-loop-j l = (l.j ≤ l.n) × (l.sum ≡ (sum l.j (λ i. at l.w i *ℤ at l.x (l.k + i))))
