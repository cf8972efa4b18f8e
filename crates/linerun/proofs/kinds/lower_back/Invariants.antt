-- The block is as m turns leave it, and in bound (`Filled`); p is where the next row starts.
use Rattle.std.proofs.Common.{◌≡◌, ◌+◌}
use Rattle.factor.specs.Rounding.{rule_by}
use Rattle.linerun.specs.Filling.{Filled}
use Rattle.linerun.specs.Steps.{undone_in_place}
use Rattle.rules.specs.Sheets.{triangle}
use Rattle.linerun.proofs.kinds.lower_back.Given as goal

abbrev pub invariant-loop-m : goal.invariant-loop-m
invariant-loop-m l =
    (l.p ≡ l.f.entries + triangle l.m)
    × Filled (λ k. undone_in_place (rule_by l.down l.even) l.sheet l.f k l.initial.x) l.m l.x
