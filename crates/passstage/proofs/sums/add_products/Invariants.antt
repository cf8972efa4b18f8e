-- The first c sums of either row have their product, the others are as they were (`raised-next`).
use Rattle.std.proofs.Common.{◌+◌, ◌≤◌}
use Rattle.passstage.specs.Parts.{Raised}
use Rattle.rules.specs.Numbers.{most_order, at}
use Rattle.passstage.proofs.sums.add_products.Given as goal

abbrev pub invariant-loop-c : goal.invariant-loop-c
invariant-loop-c l = (l.c ≤ l.w) × Raised l.c (at l.t) (λ i. at l.t (most_order + i)) l.initial.v l.v
