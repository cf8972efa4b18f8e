-- The block is as j turns leave it, and all of it is in bound; each turn makes the element from the tests and sums of row i
-- (`link`).
use Rattle.std.proofs.Common.{◌≡◌, ◌≤◌, ◌%◌}
use Rattle.factor.specs.InPlace.{in_place}
use Rattle.factor.specs.SumBounds.{Bounded}
use Rattle.joint.specs.Allowances.{allowed_at}
use Rattle.joint.specs.RowsInPlace.{plain, in_row}
use Rattle.rules.specs.Numbers.{most_allowance, at}
use Rattle.joint.proofs.rows.allow_row.Given as goal

abbrev pub invariant-loop-j : goal.invariant-loop-j
invariant-loop-j l =
    (l.j ≤ l.n) × (l.x ≡ in_place (plain (λ e. allowed_at l.rule l.row l.fb (e % l.fb.order) l.whole l.v (at l.initial.x e))) (in_row l.n l.i) l.j l.initial.x)
    × Bounded most_allowance l.x
