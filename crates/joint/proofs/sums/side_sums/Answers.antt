-- All columns at once, or by fours: the sums start from nothing.
use Rattle.std.proofs.Common.{refl, arith}
use Rattle.joint.specs.Sums.{side-adding, nothing}
use Rattle.joint.proofs.sums.side_sums.Goals as goal

pub add_rows-requires : goal.add_rows-requires
add_rows-requires c =
    rw c.requires.1
    (side-adding c.requires.0 c.args.k c.args.n 0 (omega arith) (omega (arith, c.requires.0.few)) c.requires.0.wide
    (nothing 16) refl)
