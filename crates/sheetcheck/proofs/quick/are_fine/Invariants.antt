-- Invariant: if none had a fault so far, the first k numbers were seen. Assumes nothing.
use Rattle.std.proofs.Common.{◌≡◌, true}
use Rattle.sheetcheck.proofs.Rows.{Saw}
use Rattle.sheetcheck.proofs.quick.are_fine.Given as goal

abbrev pub invariant-loop-k : goal.invariant-loop-k
invariant-loop-k l = l.fine ≡ true → Saw l.sheet l.what l.p l.k
