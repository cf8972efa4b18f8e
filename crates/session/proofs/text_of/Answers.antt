-- 15, then 14, then the numbers that were read.
use Rattle.std.proofs.Common.{ap, ◌∙◌, arith}
use Rattle.printing.specs.Program.{refusal}
use Rattle.printing.specs.Writing.{wrote_as}
use Rattle.session.specs.Inputs.{numbers-short, printed-many, printed-cut, printed-numbers}
use Rattle.session.proofs.text_of.Goals as goal

pub returns-then-input-gt-LIMIT : goal.returns-then-input-gt-LIMIT
returns-then-input-gt-LIMIT c =
    let b = c.args.input.now in
    wrote_as c.put_refusal.ensures (ap refusal c.new.ensures ∙ printed-many b (omega arith))

pub returns-then-end-input : goal.returns-then-end-input
returns-then-end-input c =
    let b = c.args.input.now in
    let n = c.scan-end.ensures in
    wrote_as c.put_refusal-then-end-input.ensures
    (ap refusal c.new-then-end-input.ensures ∙ printed-cut b _ (omega arith) (omega (arith, n.place_is)) (omega arith))

pub put_decoded-requires : goal.put_decoded-requires
put_decoded-requires c =
    let b = c.args.input.now in
    let n = c.scan-end.ensures.many_is in
    (n, omega (arith, n, numbers-short b))

pub returns : goal.returns
returns c =
    let b = c.args.input.now in
    let n = c.scan-end.ensures.place_is in
    wrote_as c.put_decoded.ensures (printed-numbers b (omega arith) (omega (arith, n)))
