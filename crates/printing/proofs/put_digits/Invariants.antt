-- The loop: the digits at the powers so far are written.
use Rattle.printing.specs.Program.{digits}
use Rattle.printing.specs.Stated.{Wrote}
use Rattle.printing.proofs.put_digits.Given as goal

abbrev pub invariant-loop-p : goal.invariant-loop-p
invariant-loop-p l = Wrote l.initial.out l.i (digits l.p-index l.n) l.out l.j
