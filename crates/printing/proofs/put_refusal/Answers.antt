-- The word, three counts, the line's end.
use Rattle.printing.specs.Digits.{refusal_is}
use Rattle.printing.specs.Writing.{wrote_then, wrote_as}
use Rattle.rules.specs.Results.{refused_for}
use Rattle.printing.proofs.put_refusal.Goals as goal

pub returns : goal.returns
returns c =
    let number = rw (c.from.ensures, c.number.ensures) at c.put_count-number.ensures in
    let side = rw (c.from-2.ensures, c.number-2.ensures) at c.put_count-side.ensures in
    wrote_as
    (wrote_then c.put_word-word.ensures
    (wrote_then number (wrote_then side (wrote_then c.put_count-place.ensures c.put.ensures))))
    (refusal_is (refused_for c.args.r))
