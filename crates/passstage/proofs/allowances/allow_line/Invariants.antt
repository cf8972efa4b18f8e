-- The copy stays the old line. The first m of its allowances stand in the block, and are in bound.
use Rattle.std.proofs.Common.{◌≡◌, ◌≤◌}
use Rattle.factor.specs.SumBounds.{Bounded}
use Rattle.linerun.specs.Steps.{allowed_at}
use Rattle.passstage.specs.FilledLines.{filled}
use Rattle.passstage.specs.Lanes.{lane}
use Rattle.rules.specs.Numbers.{most_allowance}
use Rattle.passstage.proofs.allowances.allow_line.Given as goal

abbrev pub invariant-loop-m : goal.invariant-loop-m
invariant-loop-m l = (l.m ≤ l.n) × (l.v ≡ lane l.l l.initial.x) × (l.x ≡ filled l.l (allowed_at l.rule l.sheet l.f (lane l.l l.initial.x)) l.m l.initial.x) × Bounded most_allowance l.x
