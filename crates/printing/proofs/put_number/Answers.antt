-- A blank, then the number.
use Rattle.std.proofs.Common.{to_z-of_z}
use Rattle.printing.specs.Writing.{wrote_then}
use Rattle.printing.proofs.put_number.Goals as goal

pub returns : goal.returns
returns c =
    let f = c.ranges.z in
    wrote_then c.put-j.ensures (rw (to_z-of_z f) at c.put_decimal.ensures)
