-- The loop: the bytes so far are written.
use Rattle.std.proofs.Common.{sym, arith}
use Rattle.printing.specs.Digits.{word_next}
use Rattle.printing.specs.Writing.{wrote_then, wrote_as}
use Rattle.printing.proofs.put_word.Goals as goal

pub loop-b-preserved : goal.loop-b-preserved
loop-b-preserved c =
    let l = c.loop-b in
    wrote_as (wrote_then l.invariant c.put-j.ensures) (sym (word_next c.args.word.now l.b-index (omega arith)))
