-- The first 4 g columns are done, the others are 0 (`four-more`).
use Rattle.std.proofs.Common.{◌≡◌, ◌*◌, ◌/◌, ◌≤◌, pos, replicate}
use Rattle.joint.specs.Sums.{added, side_with}
use Rattle.joint.proofs.sums.sums_by_fours_with.Given as goal

abbrev pub invariant-loop-g : goal.invariant-loop-g
invariant-loop-g l = (l.g ≤ l.n / 4) × (l.g-end ≡ l.n / 4) × (l.v ≡ added (4 * l.g) (side_with l.a l.p l.m l.x l.k l.n (l.diagonal) l.o) (replicate 16 (pos 0)))
