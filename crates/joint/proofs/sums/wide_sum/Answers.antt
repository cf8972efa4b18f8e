-- The sum so far is the sum of the first j terms; each term and each sum is small (`wide-small`).
use Rattle.std.proofs.Common.{◌+◌, arith, w32, w64}
use Rattle.joint.specs.Sums.{wide-small}
use Rattle.whole.specs.Machine.{fits, reads, within-+, within-*}
use Rattle.joint.proofs.sums.wide_sum.Goals as goal

pub with_sum-sum-requires : goal.with_sum-sum-requires
with_sum-sum-requires c =
    let l = c.loop-j in
    let a = c.requires.entries l.j (omega arith) in
    let v = c.requires.numbers.small (c.args.k + l.j) in
    let t = wide-small c.requires l.j l.invariant.0 in
    rw (l.invariant.1, reads w32 a tt, reads w64 v tt)
    (fits a tt, fits (within-* a v) tt, fits (within-+ t (within-* a v)) tt)
