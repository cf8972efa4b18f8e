-- The first m turns are made, from the copy.
use Rattle.std.proofs.Common.{◌≡◌, ◌+◌, ◌*◌, ◌≤◌}
use Rattle.factor.specs.MovedInPlace.{scattered, to_of, from_of}
use Rattle.rules.specs.Numbers.{at, count}
use Rattle.factor.proofs.moves.move_from.Given as goal

abbrev pub invariant-loop-m : goal.invariant-loop-m
invariant-loop-m l =
    (l.m ≤ l.f.order) × (l.x ≡ scattered l.m (λ e. l.k + to_of l.back (λ i. count l.sheet (l.f.signs + i)) e * l.s)
    (λ e. at l.old (from_of l.back (λ i. count l.sheet (l.f.signs + i)) e)) l.initial.x)
