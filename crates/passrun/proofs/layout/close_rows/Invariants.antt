-- The first i rows are in their places (`row-closed`).
use Rattle.std.proofs.Common.{◌≡◌, ◌+◌, ◌*◌, ◌≤◌}
use Rattle.passrun.specs.Layout.{copied}
use Rattle.rules.specs.Numbers.{most_order, at}
use Rattle.passrun.proofs.layout.close_rows.Given as goal

abbrev pub invariant-loop-i : goal.invariant-loop-i
invariant-loop-i l =
    (l.i ≤ l.m)
    × (l.x ≡ copied l.n (λ r j. r * l.n + j) (λ r j. at l.initial.x (r * most_order + j)) l.i l.initial.x)
