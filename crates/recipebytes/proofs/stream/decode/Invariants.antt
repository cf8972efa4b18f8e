-- The loop: `Decoded`, that k numbers are in the front of the slice, and that the rest of the numbers starts at place i.
-- A turn is `decode-on`.
use Rattle.recipebytes.specs.Reading.{Decoded}
use Rattle.recipebytes.proofs.stream.decode.Given as goal

abbrev pub invariant-loop-k : goal.invariant-loop-k
invariant-loop-k l = Decoded l.bytes l.initial.out l.k l.i l.out
