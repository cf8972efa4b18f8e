-- The first m numbers of every line are copied.
use Rattle.std.proofs.Common.{◌≡◌, ◌+◌, ◌*◌, ◌≤◌}
use Rattle.passrun.specs.Layout.{copied}
use Rattle.rules.specs.Numbers.{at}
use Rattle.passrun.proofs.layout.copy_lines.Given as goal

abbrev pub invariant-loop-m : goal.invariant-loop-m
invariant-loop-m l =
    (l.m ≤ l.long)
    × (l.y ≡ copied l.many (λ i r. i * l.j + r * l.t) (λ i r. at l.x (i * l.k + r * l.s)) l.m l.initial.y)
