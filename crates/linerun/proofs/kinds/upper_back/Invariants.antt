-- The block is as t turns leave it, and in bound (`Filled`); p is where the next row starts.
use Rattle.std.proofs.Common.{◌≡◌, ◌+◌, ◌-◌}
use Rattle.factor.specs.Rounding.{rule_by}
use Rattle.linerun.specs.Filling.{Filled}
use Rattle.linerun.specs.Steps.{undone_in_place}
use Rattle.rules.specs.Factors.{above}
use Rattle.linerun.proofs.kinds.upper_back.Given as goal

abbrev pub invariant-loop-t : goal.invariant-loop-t
invariant-loop-t l =
    (l.p ≡ l.f.entries + above l.f.order (l.f.order - l.t))
    × Filled (λ k. undone_in_place (rule_by l.down l.even) l.sheet l.f k l.initial.x) l.t l.x
