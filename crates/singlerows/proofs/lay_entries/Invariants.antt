-- The first j entries stand in the array, the rest of it is 0.
use Rattle.std.proofs.Common.{◌≡◌, ◌≤◌, pos, replicate}
use Rattle.rules.specs.Stages.{fill}
use Rattle.singlerows.specs.LaidRows.{entry_in}
use Rattle.singlerows.proofs.lay_entries.Given as goal

abbrev pub invariant-loop-j : goal.invariant-loop-j
invariant-loop-j l = (l.j ≤ l.n) × (l.w ≡ fill l.j (entry_in l.row l.f) (replicate 16 (pos 0)))
