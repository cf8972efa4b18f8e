-- The block is as m turns leave it, and in bound (`Filled`).
use Rattle.std.specs.Prelude.{is_ok}
use Rattle.std.proofs.Common.{rules, ap, ◌≡◌, ◌∙◌, ℕ, ◌+◌, arith, ℤ, ◌+ℤ◌, ◌*ℤ◌, length, w64, to_z, of_z}
use Rattle.factor.specs.Rounding.{rule_by}
use Rattle.linerun.specs.Filling.{Filling, refuses, filled_next, filled-refused, filled-done, applied-fills}
use Rattle.linerun.specs.LineBounds.{rounded-sum-small}
use Rattle.linerun.specs.Steps.{rounded_sum, applied_at}
use Rattle.rules.specs.Numbers.{at}
use Rattle.rules.specs.Stages.{fill}
use Rattle.rules.specs.declared.Rule.{Rule}
use Rattle.whole.specs.Machine.{back}
use Rattle.linerun.proofs.kinds.single.Goals as goal
use Rattle.linerun.proofs.kinds.single.Goals.{After-apply_at, After-single_sum-q, Start}

-- the rule of the two tests
abbrev K : Start → Rule
K s = rule_by s.args.down s.args.even

-- what element k becomes
abbrev F : Start → ℕ → ℤ
F s = applied_at (K s) s.args.sheet.now s.args.f s.args.x.now

len : (s : Start) → length s.args.x.now ≡ 16
len s = search rules

fills : (s : Start) → Filling s.args.f.order (λ k. fill k (F s) s.args.x.now) (λ k. k) (F s)
fills s = applied-fills (K s) s.requires.0 s.args.x.now (len s)

-- the rounded sum, as it was read
sum :
    (c : After-single_sum-q) →
    to_z w64 (of_z w64 c.single_sum-q.result)
    ≡ rounded_sum (rule_by c.args.down c.args.even) c.args.sheet.now c.args.f c.args.x.now c.loop-m.m
sum c = back w64 _ c.single_sum-q.type_inv ∙ c.single_sum-q.ensures

pub apply_at-requires : goal.apply_at-requires
apply_at-requires c =
    let here = goal.at.apply_at-requires c in (
      (c.requires.0, c.loop-m-test.true, c.requires.2),
      rw (sum here.After-single_sum-q)
          (rounded-sum-small c.requires.0 c.loop-m.m c.loop-m-test.true (K here.Start) c.requires.2),
    )

-- what the element becomes
value :
    (c : After-apply_at) →
    let q = c.single_sum-q.result in
    (at c.args.sheet.now (c.args.f.signs + c.loop-m.m) *ℤ at c.args.x.now c.loop-m.m) +ℤ to_z w64 (of_z w64 q)
    ≡ applied_at (rule_by c.args.down c.args.even) c.args.sheet.now c.args.f c.args.x.now c.loop-m.m
unfolding applied_at
value c = rw (back w64 _ c.single_sum-q.type_inv ∙ c.single_sum-q.ensures)

pub returns-in_err-apply_at : goal.returns-in_err-apply_at
returns-in_err-apply_at c =
    let here = goal.at.returns-in_err-apply_at c in
    refuses c.from_residual.result _ c.from_residual.ensures.1
    (filled-refused (fills here.Start) c.loop-m-test.true (value here.After-apply_at) c.apply_at.ensures
    (ap is_ok c.in_err-apply_at.was))

pub loop-m-preserved : goal.loop-m-preserved
unfolding fill
loop-m-preserved c =
    let here = goal.at.loop-m-preserved c in
    filled_next (fills here.Start) c.loop-m-test.true (value here.After-apply_at) c.apply_at.ensures c.loop-m.invariant
    (ap is_ok c.in_ok-apply_at.was)

pub returns : goal.returns
returns c =
    filled-done (fills (goal.at.returns c).Start) (omega arith) c.loop-m.invariant
