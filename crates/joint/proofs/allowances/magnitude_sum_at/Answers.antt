-- The magnitudes lie in the copy as the entries do in the sheet (`magnitudes-band`).
use Rattle.std.proofs.Common.{arith, to_z-of_z}
use Rattle.joint.specs.Allowances.{magnitudes-band}
use Rattle.rules.specs.Numbers.{unit}
use Rattle.whole.specs.Machine.{within-le, within-pos}
use Rattle.joint.proofs.allowances.magnitude_sum_at.Goals as goal

pub joint_sum-requires : goal.joint_sum-requires
joint_sum-requires c =
    rw (c.magnitudes-a.ensures, c.row_of-r.ensures, to_z-of_z c.ranges.b)
    (magnitudes-band c.requires.0 c.args.j c.requires.1, within-le (omega arith) (within-pos unit), c.requires.2, c.requires.3)
