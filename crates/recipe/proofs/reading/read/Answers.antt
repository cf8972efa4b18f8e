-- A refusal keeps the slice; else the count that `scan` found fits (`read-counted`), and the numbers are put in its front.
use Rattle.std.proofs.Common.{◌≡◌, sym, ap, arith, length, length-take-le}
use Rattle.recipe.specs.Calls.{DidRead, read-counted}
use Rattle.recipe.specs.Results.{front-filled}
use Rattle.rules.specs.Answers.{counted}
use Rattle.rules.specs.Recipes.{numbers_of}
use Rattle.recipe.proofs.reading.read.Goals as goal
use Rattle.recipe.proofs.reading.read.Goals.{In_ok-count}

done : (c : In_ok-count) → DidRead c.args.bytes.now c.args.out.now × (c.in_ok-count.count ≡ length (numbers_of c.args.bytes.now))
done c = read-counted c.args.bytes.now c.args.out.now c.scan-end.ensures.many_is c.in_ok-count.ensures

pub slice_bounds-decode-end : goal.slice_bounds-decode-end
slice_bounds-decode-end c = let d = done (goal.at.slice_bounds-decode-end c).In_ok-count in omega (arith, d.0.fits, d.1)

pub slice_bounds-decode-end-2 : goal.slice_bounds-decode-end-2
slice_bounds-decode-end-2 c =
    let d = done (goal.at.slice_bounds-decode-end-2 c).In_ok-count in
    sym (length-take-le c.in_ok-count.count c.args.out.now (omega (arith, d.0.fits, d.1)))

pub decode-requires : goal.decode-requires
decode-requires c =
    let d = done (goal.at.decode-requires c).In_ok-count in
    rw (length-take-le c.in_ok-count.count c.args.out.now (omega (arith, d.0.fits, d.1))) (omega (arith, d.1))

pub returns : goal.returns
returns c =
    let d = done (goal.at.returns c).In_ok-count in
    rw d.0.whole
    (ap counted d.1, front-filled (numbers_of c.args.bytes.now) c.args.out.now d.1 (omega (arith, d.0.fits, d.1)) c.decode.ensures)
