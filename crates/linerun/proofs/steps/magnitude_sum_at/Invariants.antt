-- The sum so far is that of the first j magnitudes (`magnitudes_to`), and small; all of them are the row's (`along-columns`).
use Rattle.std.proofs.Common.{◌≡◌}
use Rattle.linerun.specs.RowColumns.{magnitudes_to}
use Rattle.linerun.proofs.steps.magnitude_sum_at.Given as goal

abbrev pub invariant-loop-j : goal.invariant-loop-j
invariant-loop-j l = l.sum ≡ magnitudes_to l.sheet l.r l.m l.b l.j
