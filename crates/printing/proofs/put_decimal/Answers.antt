-- Below zero a minus stands before the digits.
use Rattle.std.proofs.Common.{sym, to_z-of_z}
use Rattle.printing.specs.Digits.{decimal-below, decimal-above}
use Rattle.printing.specs.Writing.{wrote_then, wrote_as}
use Rattle.printing.proofs.put_decimal.Goals as goal

pub returns-then-z-lt0 : goal.returns-then-z-lt0
returns-then-z-lt0 c =
    let f = to_z-of_z c.ranges.z in
    wrote_as (wrote_then c.put-j.ensures (rw (c.from-n.ensures, c.unsigned_abs.ensures.value, f) at c.put_digits.ensures))
    (sym (decimal-below c.args.z (rw f at c.if-z-lt0.true)))

pub returns-else-z-lt0 : goal.returns-else-z-lt0
returns-else-z-lt0 c =
    let f = to_z-of_z c.ranges.z in
    wrote_as (rw (c.from-n.ensures, c.unsigned_abs.ensures.value, f) at c.put_digits-else-z-lt0.ensures)
    (sym (decimal-above c.args.z (rw f at c.if-z-lt0.false)))
