-- The sums have the first j entries (`parting-next`), and are small (`parting-small`).
use Rattle.std.proofs.Common.{◌≤◌}
use Rattle.passstage.specs.Parts.{whole, rest, Raised, parts_sum}
use Rattle.passstage.proofs.sums.add_entries.Given as goal

abbrev pub invariant-loop-j : goal.invariant-loop-j
invariant-loop-j l = (l.j ≤ l.m) × Raised l.w (parts_sum whole l.a l.p l.j l.x l.k) (parts_sum rest l.a l.p l.j l.x l.k) l.initial.v l.v
