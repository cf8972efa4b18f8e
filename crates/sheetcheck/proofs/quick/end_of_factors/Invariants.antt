-- Invariant: the first f factors have no fault and their starts are in the table, and i is the next (`FactorsMet`).
-- Assumes nothing.
use Rattle.std.proofs.Common.{◌≡◌, length}
use Rattle.rules.specs.Numbers.{count}
use Rattle.sheetread.specs.Starts.{FactorsMet}
use Rattle.sheetcheck.proofs.quick.end_of_factors.Given as goal

abbrev pub invariant-loop-f : goal.invariant-loop-f
invariant-loop-f l = record {
  order : l.n ≡ count l.sheet 0;
  many : l.many ≡ count l.sheet 1;
  room : length l.starts ≡ 32;
  met : FactorsMet l.sheet l.f l.i l.starts;
}
