-- The first 4 g columns are done, the others are 0 (`four-more`).
use Rattle.std.proofs.Common.{◌≡◌, ◌*◌, ◌/◌, ◌≤◌, pos, replicate}
use Rattle.joint.specs.Sums.{added, rows_sum}
use Rattle.joint.proofs.sums.sums_by_fours.Given as goal

abbrev pub invariant-loop-g : goal.invariant-loop-g
invariant-loop-g l = (l.g ≤ l.n / 4) × (l.g-end ≡ l.n / 4) × (l.v ≡ added (4 * l.g) (rows_sum l.a l.p l.m l.x l.k l.n) (replicate 16 (pos 0)))
