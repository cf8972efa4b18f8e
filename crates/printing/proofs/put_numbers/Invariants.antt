-- The loop: the numbers so far are written.
use Rattle.std.proofs.Common.{take}
use Rattle.printing.specs.Program.{spaced}
use Rattle.printing.specs.Stated.{Wrote}
use Rattle.printing.proofs.put_numbers.Given as goal

abbrev pub invariant-loop-z : goal.invariant-loop-z
invariant-loop-z l = Wrote l.initial.out l.i (spaced (take l.z-index l.v)) l.out l.j
