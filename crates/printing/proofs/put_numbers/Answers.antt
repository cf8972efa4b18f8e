-- The loop: the numbers so far are written.
use Rattle.std.proofs.Common.{sym, arith, rules, w32, FitsSigned, to_z-of_z}
use Rattle.rules.specs.Numbers.{at}
use Rattle.printing.specs.Digits.{spaced-none, spaced-next}
use Rattle.printing.specs.Writing.{wrote_none, wrote_then, wrote_as}
use Rattle.printing.proofs.put_numbers.Goals as goal

pub loop-z-init : goal.loop-z-init
loop-z-init c = wrote_as (wrote_none c.args.out.now c.args.i c.requires) (sym spaced-none)

pub loop-z-preserved : goal.loop-z-preserved
loop-z-preserved c =
    let l = c.loop-z in
    let v = c.args.v.now in
    let f : FitsSigned w32 (at v l.z-index) = search rules in
    wrote_as (wrote_then l.invariant (rw (to_z-of_z f) at c.put_number-j.ensures)) (sym (spaced-next v l.z-index (omega arith)))
