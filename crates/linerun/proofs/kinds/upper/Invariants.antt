-- The block is as m turns leave it, and in bound (`Filled`); p is where the next row starts.
use Rattle.std.proofs.Common.{◌≡◌, ◌+◌}
use Rattle.factor.specs.Rounding.{rule_by}
use Rattle.linerun.specs.Filling.{Filled}
use Rattle.linerun.specs.Steps.{applied_at}
use Rattle.rules.specs.Factors.{above}
use Rattle.rules.specs.Stages.{fill}
use Rattle.linerun.proofs.kinds.upper.Given as goal

abbrev pub invariant-loop-m : goal.invariant-loop-m
invariant-loop-m l =
    (l.p ≡ l.f.entries + above l.f.order l.m)
    × Filled (λ k. fill k (applied_at (rule_by l.down l.even) l.sheet l.f l.x) l.x) l.m l.y
