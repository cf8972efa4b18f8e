-- The number reaches the power and has a digit there, or has none.
use Rattle.std.proofs.Common.{sym, arith}
use Rattle.printing.specs.Digits.{digit-none, digit-one}
use Rattle.printing.specs.Writing.{wrote_none, wrote_as}
use Rattle.printing.proofs.put_digit.Goals as goal

pub returns-then-p-max : goal.returns-then-p-max
returns-then-p-max c =
    wrote_as (wrote_none c.args.out.now c.args.i c.requires.0) (sym (digit-none c.args.p c.args.n (omega (arith, c.max.ensures))))

pub returns : goal.returns
returns c =
    let s = c.args in
    wrote_as c.put.ensures (sym (digit-one s.p s.n (omega (arith, c.max.ensures))))
