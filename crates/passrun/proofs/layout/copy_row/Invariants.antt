-- The first l numbers of the row are copied.
use Rattle.std.proofs.Common.{◌≡◌, ◌+◌, ◌*◌, ◌≤◌}
use Rattle.factor.specs.MovedInPlace.{scattered}
use Rattle.rules.specs.Numbers.{at}
use Rattle.passrun.proofs.layout.copy_row.Given as goal

abbrev pub invariant-loop-l : goal.invariant-loop-l
invariant-loop-l l =
    (l.l ≤ l.many)
    × (l.y ≡ scattered l.l (λ e. l.j + e * l.t) (λ e. at l.x (l.k + e * l.s)) l.initial.y)
