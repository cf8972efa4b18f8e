-- The loop: the digits at the powers so far are written.
use Rattle.std.proofs.Common.{sym}
use Rattle.printing.specs.Digits.{digits-none, digits-next}
use Rattle.printing.specs.Writing.{wrote_none, wrote_then, wrote_as}
use Rattle.printing.proofs.put_digits.Goals as goal

pub loop-p-init : goal.loop-p-init
loop-p-init c = wrote_as (wrote_none c.args.out.now c.args.i c.requires) (sym (digits-none c.args.n))

pub loop-p-preserved : goal.loop-p-preserved
loop-p-preserved c =
    let l = c.loop-p in
    let s = c.args in
    wrote_as (wrote_then l.invariant c.put_digit-j.ensures) (sym (digits-next l.p-index s.n))
