-- Invariant: reading all m numbers from the start is reading those that are left from place i. Assumes nothing.
use Rattle.std.proofs.Common.{◌≡◌, ◌-◌}
use Rattle.rules.specs.Sheets.{times, one}
use Rattle.sheetread.proofs.readers.read_many.Given as goal

abbrev pub invariant-loop : goal.invariant-loop
invariant-loop l = times l.m (one l.sheet l.what) l.start ≡ times (l.m - l.counter) (one l.sheet l.what) l.i
