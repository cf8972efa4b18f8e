-- The first j numbers are moved.
use Rattle.std.proofs.Common.{◌≡◌, ◌≤◌}
use Rattle.pairmoves.specs.MovedAside.{place_at, moved_row}
use Rattle.pairmoves.proofs.move_row.Given as goal

abbrev pub invariant-loop-j : goal.invariant-loop-j
invariant-loop-j l = (l.j ≤ l.n) × (l.x ≡ moved_row l.back l.j (place_at l.row l.q) l.old l.o l.k l.initial.x)
