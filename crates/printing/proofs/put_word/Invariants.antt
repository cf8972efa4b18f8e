-- The loop: the bytes so far are written.
use Rattle.std.proofs.Common.{take}
use Rattle.printing.specs.Stated.{Wrote}
use Rattle.printing.proofs.put_word.Given as goal

abbrev pub invariant-loop-b : goal.invariant-loop-b
invariant-loop-b l = Wrote l.initial.out l.i (take l.b-index l.word) l.out l.j
