-- The sum so far is the sum of the first j terms; each term and each sum is small (`narrow-small`).
use Rattle.std.proofs.Common.{◌+◌, arith, w32}
use Rattle.singlerows.specs.SingleRows.{narrow-small}
use Rattle.whole.specs.Machine.{fits, reads, within-+, within-*}
use Rattle.singlerows.proofs.narrow_sum.Goals as goal

pub with_term-sum-requires : goal.with_term-sum-requires
with_term-sum-requires c =
    let l = c.loop-j in
    let a = c.requires.entries l.j (omega arith) in
    let v = c.requires.numbers.small (c.args.k + l.j) in
    let t = narrow-small c.requires l.j l.invariant.0 in
    rw (l.invariant.1, reads w32 a tt, reads w32 v tt)
    (fits a tt, fits v tt, fits (within-* a v) tt, fits (within-+ t (within-* a v)) tt)
