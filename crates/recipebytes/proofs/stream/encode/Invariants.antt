-- The loop: `Encoded`, that the first numbers are written, up to place i. A turn is `encode-on`.
use Rattle.recipebytes.specs.Writing.{Encoded}
use Rattle.recipebytes.proofs.stream.encode.Given as goal

abbrev pub invariant-loop-v : goal.invariant-loop-v
invariant-loop-v l = Encoded l.sheet l.initial.out l.v-index l.i l.out
