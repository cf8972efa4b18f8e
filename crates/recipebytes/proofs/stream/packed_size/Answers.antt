-- The chain gives the size of each number (`size_of`): their sum is the length of all bytes, and fits.
use Rattle.std.proofs.Common.{rules, ◌∙◌, arith}
use Rattle.std.proofs.lemmas.Iterator.{YieldsList-from_slice, YieldsList-from_map}
use Rattle.std.proofs.lemmas.Iterator.Consumers.{YieldsList-at, sum_by_from_yields_List, fits_by_from_yields_list}
use Rattle.recipebytes.specs.Writing.{size_of, size-sum, packed-most}
use Rattle.recipebytes.proofs.stream.packed_size.Goals as goal
use Rattle.recipebytes.proofs.stream.packed_size.Goals.{After-map}

pub sum-requires-clause-fits : goal.sum-requires-clause-fits
unfolding size_of
sum-requires-clause-fits c =
    let s = c.args.sheet.now in
    fits_by_from_yields_list size_of s c.map.result _
    (YieldsList-from_map _ size_of (YieldsList-at c.map.ensures.source (YieldsList-from_slice s cc)) c.map.ensures.closure
    (λ x r q k. search rules))
    (rw size-sum (omega (arith, packed-most s)))

pub returns : goal.returns
unfolding size_of
returns c =
    let s = c.args.sheet.now in
    sum_by_from_yields_List size_of s c.map.result c.sum.result c.sum.ensures.ran
    (YieldsList-from_map _ size_of (YieldsList-at c.map.ensures.source (YieldsList-from_slice s cc)) c.map.ensures.closure
    (λ x r q k. search rules))
    ∙ size-sum s
