-- The new allowances have their first m elements, each from the old ones, and none is above the limit.
use Rattle.std.proofs.Common.{◌≡◌}
use Rattle.factor.specs.SumBounds.{Bounded}
use Rattle.linerun.specs.Steps.{allowed_at}
use Rattle.rules.specs.Numbers.{most_allowance}
use Rattle.rules.specs.Stages.{fill}
use Rattle.linerun.proofs.steps.allow_weights.Given as goal

abbrev pub invariant-loop-m : goal.invariant-loop-m
invariant-loop-m l = (l.c ≡ fill l.m (allowed_at l.rule l.sheet l.f l.b) l.b) × Bounded most_allowance l.c
