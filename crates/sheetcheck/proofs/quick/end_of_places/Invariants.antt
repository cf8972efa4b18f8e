-- Invariant: the first k places were seen, and each of them is marked. Assumes nothing.
use Rattle.std.proofs.Common.{◌≡◌, length}
use Rattle.sheetcheck.proofs.Marks.{Marked}
use Rattle.sheetcheck.proofs.quick.end_of_places.Given as goal

abbrev pub invariant-loop-k : goal.invariant-loop-k
invariant-loop-k l = Marked l.sheet l.n l.p l.k l.used × (length l.used ≡ 16)
