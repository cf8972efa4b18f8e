-- Invariant: reading all factors is reading those that are left from place i, and those before it were met (`FactorsMet`).
-- Assumes nothing.
use Rattle.std.proofs.Common.{◌≡◌, ◌-◌, length}
use Rattle.rules.specs.Numbers.{count}
use Rattle.rules.specs.Sheets.{times, factor}
use Rattle.sheetread.specs.Starts.{FactorsMet}
use Rattle.sheetread.proofs.readers.read_factors.Given as goal

abbrev pub invariant-loop-f : goal.invariant-loop-f
invariant-loop-f l = record {
  order : l.n ≡ count l.sheet 0;
  many : l.many ≡ count l.sheet 1;
  room : length l.starts ≡ 32;
  met : FactorsMet l.sheet l.f l.i l.starts;
  left :
      times (count l.sheet 1) (factor l.sheet (count l.sheet 0)) 2
      ≡ times (count l.sheet 1 - l.f) (factor l.sheet (count l.sheet 0)) l.i;
}
