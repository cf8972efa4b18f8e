-- The sum so far is the sum of the first j terms; each term and each sum is small (`sum-small`).
use Rattle.std.proofs.Common.{arith, w32}
use Rattle.factor.specs.SumBounds.{sum-small}
use Rattle.whole.specs.Machine.{fits, reads, within-+, within-*}
use Rattle.factor.proofs.sums.products_sum.Goals as goal

pub with_term-sum-requires : goal.with_term-sum-requires
with_term-sum-requires c =
    let l = c.loop-j in
    let a = c.requires.entries l.j (omega arith) in
    let x = c.requires.numbers l.j (omega arith) in
    let t = sum-small c.requires l.j l.invariant.0 in
    rw (l.invariant.1, reads w32 a tt, reads w32 x tt)
    (fits a tt, fits x tt, fits (within-* a x) tt, fits (within-+ t (within-* a x)) tt)
