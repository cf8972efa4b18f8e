-- The sums have the first j rows (`adding-next`), and are small (`adding-small`).
use Rattle.std.proofs.Common.{◌≡◌, ◌≤◌}
use Rattle.joint.specs.Sums.{added, rows_sum}
use Rattle.joint.proofs.sums.add_rows.Given as goal

abbrev pub invariant-loop-j : goal.invariant-loop-j
invariant-loop-j l = (l.j ≤ l.m) × (l.v ≡ added l.w (rows_sum l.a l.p l.j l.x l.k l.n) l.initial.v)
