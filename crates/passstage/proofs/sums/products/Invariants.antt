-- The products of the first c lines are made, all others are still 0 (`raised-next`).
use Rattle.std.proofs.Common.{◌+◌, ◌≤◌, ◌*ℤ◌}
use Rattle.passstage.specs.Parts.{whole, rest, Raised}
use Rattle.rules.specs.Numbers.{at}
use Rattle.passstage.proofs.sums.products.Given as goal

abbrev pub invariant-loop-c : goal.invariant-loop-c
invariant-loop-c l = (l.c ≤ l.w) × Raised l.c (λ i. l.a *ℤ whole (at l.x (l.k + i))) (λ i. l.a *ℤ rest (at l.x (l.k + i))) l.initial.t l.t
