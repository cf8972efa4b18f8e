-- The loop: `Scanned`, that so many numbers stand before the place, and that what is left is to be read from there. Each number
-- has a byte at least. A turn is `scan-on`; it ends by `scan-stop`, where no number stands.
use Rattle.std.proofs.Common.{refl, ◌+◌, ◌≤◌, arith, length}
use Rattle.recipebytes.specs.Reading.{scan-on, scan-stop, inside-by}
use Rattle.recipebytes.proofs.stream.scan.Goals as goal
use Rattle.recipebytes.proofs.stream.scan.Goals.{In-Some}

inside : (c : In-Some) → c.loop-r.place + c.in-Some.r.size ≤ length c.args.bytes.now
inside c = inside-by c.args.bytes.now c.loop-r.place c.in-Some.ensures c.loop-r.invariant.1.inside

pub overflow_add-place : goal.overflow_add-place
overflow_add-place c = omega (arith, inside (goal.at.overflow_add-place c).In-Some)

pub loop-r-smaller : goal.loop-r-smaller
loop-r-smaller c = omega (arith, inside (goal.at.loop-r-smaller c).In-Some, c.in-Some.r.some)

pub loop-r-preserved : goal.loop-r-preserved
loop-r-preserved c =
    let h = inside (goal.at.loop-r-preserved c).In-Some in
    let n = c.in-Some.r.some in
    (omega arith, scan-on c.in-Some.ensures (omega arith) (λ z. omega arith) c.loop-r.invariant.1)

pub returns : goal.returns
returns c = scan-stop c.in_default.ensures refl c.loop-r.invariant.1
