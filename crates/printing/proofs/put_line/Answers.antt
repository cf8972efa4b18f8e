-- The word, the numbers, the line's end.
use Rattle.printing.specs.Digits.{line-is}
use Rattle.printing.specs.Writing.{wrote_then, wrote_as}
use Rattle.printing.proofs.put_line.Goals as goal

pub returns : goal.returns
returns c =
    let s = c.args in
    wrote_as (wrote_then c.put_word-j.ensures (wrote_then c.put_numbers-k.ensures c.put.ensures))
    (line-is s.word.now s.v.now)
