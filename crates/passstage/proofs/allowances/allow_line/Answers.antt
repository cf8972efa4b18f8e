-- The copy stays the old line. The first m of its allowances stand in the block, and are in bound.
use Rattle.std.proofs.Common.{rules, ◌≡◌, refl, ◌∙◌, ℕ, arith, ℤ, length, w64, to_z, of_z}
use Rattle.std.proofs.lemmas.Result.{err_from_is_err_and}
use Rattle.factor.specs.SumBounds.{kept-no}
use Rattle.linerun.specs.Steps.{allowed_at}
use Rattle.passstage.specs.FilledLines.{line-filled, line-beyond}
use Rattle.passstage.specs.LaneLaws.{lane-bounded}
use Rattle.passstage.specs.Lanes.{lane}
use Rattle.whole.specs.Machine.{back}
use Rattle.passstage.proofs.allowances.allow_line.Goals as goal
use Rattle.passstage.proofs.allowances.allow_line.Goals.{After-allowed_at-z, After-keep, Start}

-- the line's new allowances
abbrev G : Start → ℕ → ℤ
G s = allowed_at s.args.rule s.args.sheet.now s.args.f (lane s.args.l s.args.x.now)

pub allowed_at-z-requires : goal.allowed_at-z-requires
allowed_at-z-requires c =
    rw c.loop-m.invariant.1 (c.requires.0, c.loop-m-test.true, lane-bounded c.args.l c.requires.2)

value : (c : After-allowed_at-z) →
    to_z w64 (of_z w64 c.allowed_at-z.result)
    ≡ allowed_at c.args.rule c.args.sheet.now c.args.f (lane c.args.l c.args.x.now) c.loop-m.m
value c = back w64 _ c.allowed_at-z.type_inv ∙ c.allowed_at-z.ensures ∙ rw c.loop-m.invariant.1

length-after : (c : After-keep) → length c.keep.new.x ≡ 256
length-after c = search rules

pub returns-in_err-keep : goal.returns-in_err-keep
returns-in_err-keep c =
    let p = err_from_is_err_and c.from_residual.result c.from_residual.ensures.1 in
    let q = rw (value (goal.at.returns-in_err-keep c).After-allowed_at-z) at c.in_err-keep.ensures in
    rw p.1
    (line-beyond c.args.l (G (goal.at.returns-in_err-keep c).Start) c.args.x.now c.requires.1 c.requires.3 c.requires.0.order
    c.loop-m-test.true (kept-no q refl) (length-after (goal.at.returns-in_err-keep c).After-keep))

pub returns : goal.returns
returns c =
    let l = c.loop-m in
    let e : l.m ≡ c.args.f.order = omega arith in
    line-filled c.args.l (G (goal.at.returns c).Start) c.args.x.now c.requires.1 c.requires.3 c.requires.0.order
    (rw e at l.invariant.2) l.invariant.3
