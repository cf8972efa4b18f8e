-- The first i rows are moved (`next_row`).
use Rattle.std.proofs.Common.{◌≤◌}
use Rattle.pairmoves.specs.MovedAside.{place_at, MovedRows}
use Rattle.pairmoves.proofs.move_rows.Given as goal

abbrev pub invariant-loop-i : goal.invariant-loop-i
invariant-loop-i l = (l.i ≤ l.n1) × MovedRows l.i l.back l.n1 l.n2 (place_at l.col l.p) (place_at l.row l.q) l.old l.initial.x l.x
