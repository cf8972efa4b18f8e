-- The block is as t turns leave it, and in bound (`Filled`).
use Rattle.std.specs.Prelude.{is_ok}
use Rattle.std.proofs.Common.{rules, ap, List, ◌≡◌, refl, ◌∙◌, ℕ, ◌+◌, ◌<◌, arith, ℤ, ◌-ℤ◌, ◌*ℤ◌, length, w64, to_z, of_z}
use Rattle.factor.specs.InPlace.{in_place}
use Rattle.factor.specs.Rounding.{rule_by}
use Rattle.factor.specs.UndoingOrder.{nth_undone}
use Rattle.linerun.specs.Filling.{Filling, refuses, filled_next, filled-refused, filled-done, undone-fills}
use Rattle.linerun.specs.LineBounds.{rounded-sum-small}
use Rattle.linerun.specs.Steps.{rounded_sum, undone_at, undone_in_place}
use Rattle.rules.specs.Numbers.{at}
use Rattle.rules.specs.declared.Rule.{Rule}
use Rattle.whole.specs.Machine.{back}
use Rattle.linerun.proofs.kinds.single_back.Goals as goal
use Rattle.linerun.proofs.kinds.single_back.Goals.{After-single_sum-q, After-undo_at, Start}

-- the rule of the two tests
abbrev K : Start → Rule
K s = rule_by s.args.down s.args.even

-- the block after t turns, the element of turn t, and what it was
abbrev W : Start → ℕ → List ℤ
W s t = undone_in_place (K s) s.args.sheet.now s.args.f t s.args.x.now

abbrev P : Start → ℕ → ℕ
P s t = nth_undone s.args.f.kind s.args.f.order s.args.f.row t

abbrev F : Start → ℕ → ℤ
F s t = undone_at (K s) s.args.sheet.now s.args.f (W s t) (P s t)

len : (s : Start) → length s.args.x.now ≡ 16
len s = search rules

fills : (s : Start) → Filling s.args.f.order (W s) (P s) (F s)
unfolding nth_undone
fills s = undone-fills (K s) s.requires.0 s.args.x.now (len s) s.requires.2 (P s) (λ t l. refl)

-- the place of this turn
small-place : (s : Start) (t m : ℕ) → t < s.args.f.order → m ≡ P s t → m < s.args.f.order
small-place s t m l e = rw e ((fills s).below t l)

-- the rounded sum, as it was read
sum :
    (c : After-single_sum-q) →
    to_z w64 (of_z w64 c.single_sum-q.result)
    ≡ rounded_sum (rule_by c.args.down c.args.even) c.args.sheet.now c.args.f c.loop-t.x c.nth_undone-m.result
sum c = back w64 _ c.single_sum-q.type_inv ∙ c.single_sum-q.ensures

pub undo_at-requires : goal.undo_at-requires
undo_at-requires c =
    let here = goal.at.undo_at-requires c in
    let s = here.Start in
    let l = small-place s c.loop-t.t c.nth_undone-m.result c.loop-t-test.true c.nth_undone-m.ensures in (
      (c.requires.0, l, c.loop-t.invariant.small),
      rw (sum here.After-single_sum-q)
          (rounded-sum-small c.requires.0 c.nth_undone-m.result l (K s) c.loop-t.invariant.small),
    )

-- what the element was
value :
    (c : After-undo_at) →
    let m = nth_undone c.args.f.kind c.args.f.order c.args.f.row c.loop-t.t in
    let q = c.single_sum-q.result in
    let k = rule_by c.args.down c.args.even in
    at c.args.sheet.now (c.args.f.signs + m) *ℤ (at c.loop-t.x m -ℤ to_z w64 (of_z w64 q))
    ≡ undone_at k c.args.sheet.now c.args.f (undone_in_place k c.args.sheet.now c.args.f c.loop-t.t c.args.x.now) m
unfolding undone_at
value c = rw (
  back w64 _ c.single_sum-q.type_inv ∙ c.single_sum-q.ensures,
  c.nth_undone-m.ensures,
  c.loop-t.invariant.is,
)

pub returns-in_err-undo_at : goal.returns-in_err-undo_at
returns-in_err-undo_at c =
    let here = goal.at.returns-in_err-undo_at c in
    refuses c.from_residual.result _ c.from_residual.ensures.1
    (filled-refused (fills here.Start) c.loop-t-test.true (value here.After-undo_at)
    (rw c.nth_undone-m.ensures at c.undo_at.ensures)
    (ap is_ok c.in_err-undo_at.was))

pub loop-t-preserved : goal.loop-t-preserved
unfolding in_place
loop-t-preserved c =
    let here = goal.at.loop-t-preserved c in
    filled_next (fills here.Start) c.loop-t-test.true (value here.After-undo_at)
    (rw c.nth_undone-m.ensures at c.undo_at.ensures) c.loop-t.invariant
    (ap is_ok c.in_ok-undo_at.was)

pub returns : goal.returns
returns c =
    filled-done (fills (goal.at.returns c).Start) (omega arith) c.loop-t.invariant
