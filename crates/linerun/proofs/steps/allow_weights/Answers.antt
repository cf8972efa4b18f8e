-- The new allowances have their first m elements, each from the old ones, and none is above the limit.
use Rattle.std.specs.Prelude.{is_ok}
use Rattle.std.proofs.Common.{rules, ◌≡◌, ap, ◌∙◌, ℕ, add-one, arith, ℤ, length, w64}
use Rattle.factor.specs.Steps.{step-goes}
use Rattle.factor.specs.SumBounds.{beyond-there, bounded-set, Kept, kept-no, kept-yes}
use Rattle.linerun.specs.Filling.{refuses}
use Rattle.linerun.specs.Steps.{allowed_at}
use Rattle.rules.proofs.Laws.Lists.{fill-at}
use Rattle.rules.specs.Numbers.{most_allowance}
use Rattle.rules.specs.Stages.{fill}
use Rattle.whole.specs.Machine.{back}
use Rattle.linerun.proofs.steps.allow_weights.Goals as goal
use Rattle.linerun.proofs.steps.allow_weights.Goals.{After-keep, Start}

-- what the allowance of element k becomes
abbrev F : Start → ℕ → ℤ
F s = allowed_at s.args.rule s.args.sheet.now s.args.f s.args.b.now

len : (s : Start) → length s.args.b.now ≡ 16
len s = search rules

-- that number, put in place m or found above the limit
kept : (c : After-keep) →
    Kept most_allowance (allowed_at c.args.rule c.args.sheet.now c.args.f c.args.b.now c.loop-m.m) c.loop-m.m c.loop-m.c
    (is_ok c.keep.result) c.keep.new.x
kept c = rw (back w64 _ c.allowed_at.type_inv ∙ c.allowed_at.ensures) at c.keep.ensures

pub returns-in_err-keep : goal.returns-in_err-keep
returns-in_err-keep c =
    let here = goal.at.returns-in_err-keep c in
    let m = c.loop-m.m in
    let h = c.loop-m-test.true in
    refuses c.from_residual.result _ c.from_residual.ensures.1
    (beyond-there most_allowance c.args.f.order (fill c.args.f.order (F here.Start) c.args.b.now) m (F here.Start m) h
    (fill-at _ (F here.Start) c.args.b.now m h (let o = c.requires.0.order in omega (arith, len here.Start)))
    (kept-no (kept here.After-keep) (ap is_ok c.in_err-keep.was)))

pub loop-m-preserved : goal.loop-m-preserved
unfolding fill
loop-m-preserved c =
    let k = kept (goal.at.loop-m-preserved c).After-keep in
    let o = ap is_ok c.in_ok-keep.was in
    rw (k.put o) (rw (add-one, c.loop-m.invariant.0), bounded-set _ _ c.loop-m.invariant.1 (kept-yes k o))

pub returns : goal.returns
returns c =
    let here = goal.at.returns c in
    let l = c.loop-m in
    let e : l.m ≡ c.args.f.order = omega arith in
    step-goes (l.invariant.0 ∙ ap (λ (k : ℕ). fill k (F here.Start) c.args.b.now) e) l.invariant.1
