-- The first j magnitudes stand in the array, the rest of it is 0.
use Rattle.std.proofs.Common.{◌≡◌, ◌+◌, ◌≤◌, pos, nat_abs, replicate}
use Rattle.rules.specs.Numbers.{at}
use Rattle.rules.specs.Stages.{fill}
use Rattle.factor.proofs.magnitudes.magnitudes.Given as goal

abbrev pub invariant-loop-j : goal.invariant-loop-j
invariant-loop-j l = (l.j ≤ l.m) × (l.b ≡ fill l.j (λ i. pos (nat_abs (at l.a (l.p + i)))) (replicate 16 (pos 0)))
