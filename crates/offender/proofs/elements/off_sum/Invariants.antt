-- The sum so far is the sum of the first k terms; each term and each sum is small (`term-small`, `partial-small`).
use Rattle.std.proofs.Common.{◌≡◌, ◌*ℤ◌}
use Rattle.offender.specs.RefusedStages.{cells, weight_of}
use Rattle.rules.specs.Numbers.{at}
use Rattle.rules.specs.Stages.{off}
use Rattle.whole.specs.Stated.{sum}
use Rattle.offender.proofs.elements.off_sum.Given as goal

abbrev pub invariant-loop-k : goal.invariant-loop-k
invariant-loop-k l = (l.k-end ≡ cells l.q) × (l.sum ≡ (sum l.k (λ k. off (weight_of l.q l.col l.row) l.e k *ℤ at l.x k)))
