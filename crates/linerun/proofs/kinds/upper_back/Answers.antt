-- The block is as t turns leave it, and in bound (`Filled`); p is where the next row starts.
use Rattle.std.specs.Prelude.{is_ok}
use Rattle.std.proofs.Common.{rules, ap, List, ◌≡◌, refl, ◌∙◌, ℕ, suc, ◌+◌, ◌-◌, ◌≤◌}
use Rattle.std.proofs.Common.{arith, ℤ, ◌-ℤ◌, ◌*ℤ◌, length, w64, to_z, of_z}
use Rattle.factor.specs.InPlace.{in_place}
use Rattle.factor.specs.Rounding.{rule_by}
use Rattle.factor.specs.UndoingOrder.{nth_undone}
use Rattle.linerun.specs.Filling.{Filling, refuses, filled_next, filled-refused, filled-done, undone-fills}
use Rattle.linerun.specs.LineBounds.{rounded-sum-small}
use Rattle.linerun.specs.RowsByKind.{upper-at, above-all, above-last}
use Rattle.linerun.specs.Steps.{rounded_sum, undone_at, undone_in_place}
use Rattle.rules.specs.Factors.{above}
use Rattle.rules.specs.Numbers.{at}
use Rattle.rules.specs.Sheets.{triangle}
use Rattle.rules.specs.declared.Rule.{Rule}
use Rattle.whole.specs.Machine.{back}
use Rattle.linerun.proofs.kinds.upper_back.Goals as goal
use Rattle.linerun.proofs.kinds.upper_back.Goals.{After-right_sum-q, After-undo_at, In-loop-t, Start}

-- the rule of the two tests
abbrev K : Start → Rule
K s = rule_by s.args.down s.args.even

-- the block after t turns, the element of turn t, and what it was
abbrev W : Start → ℕ → List ℤ
W s t = undone_in_place (K s) s.args.sheet.now s.args.f t s.args.x.now

abbrev P : Start → ℕ → ℕ
P s t = s.args.f.order - 1 - t

abbrev F : Start → ℕ → ℤ
F s t = undone_at (K s) s.args.sheet.now s.args.f (W s t) (P s t)

len : (s : Start) → length s.args.x.now ≡ 16
len s = search rules

fills : (s : Start) → Filling s.args.f.order (W s) (P s) (F s)
unfolding nth_undone
fills s = undone-fills (K s) s.requires.0 s.args.x.now (len s) s.requires.2 (P s) (λ t l. rw s.requires.1 (omega arith))

-- a factor of some order has a last row, which ends in the sheet
last : (s : Start) → s.args.f.entries + triangle s.args.f.order ≤ length s.args.sheet.now
last s =
    let n = s.args.f.order in
    let l = s.requires.2 in
    let r = (s.requires.0.row (n - 1) (omega arith)).room in
    omega (arith, above-all n, above-last n (omega arith), upper-at s.args.f (n - 1) s.requires.1)

pub overflow_add-p : goal.overflow_add-p
overflow_add-p c = let h = last (goal.at.overflow_add-p c).Start in omega (arith, c.before_lower.ensures)

pub loop-t-init : goal.loop-t-init
unfolding in_place
loop-t-init c = (
  let e = c.before_lower.ensures in let z : c.args.f.order - 0 ≡
      c.args.f.order = omega arith in rw z (omega (arith, above-all c.args.f.order)),
  record
      { is = refl; small = c.requires.3 },
)

-- where the row of this turn starts
place : (c : In-loop-t) →
    let f = c.args.f in c.loop-t.p ≡ f.entries + above f.order
    (f.order - 1 - c.loop-t.t) + c.loop-t.t
unfolding above
place c =
    let f = c.args.f in
    let t = c.loop-t.t in
    let l = c.loop-t-test.true in
    let e : f.order - t ≡ suc (f.order - 1 - t) = omega arith in
    let d : f.order - suc (f.order - 1 - t) ≡ t = omega arith in
    c.loop-t.invariant.0 ∙ rw (e, d) (omega arith)

pub right_sum-q-requires : goal.right_sum-q-requires
right_sum-q-requires c = (
  (c.requires.0, (let l = c.loop-t-test.true in omega arith), c.loop-t.invariant.1.small),
  c.requires.1,
  (let e = place (goal.at.right_sum-q-requires c).In-loop-t in omega (
    arith,
    upper-at c.args.f (c.args.f.order - 1 - c.loop-t.t)
        c.requires.1,
  )),
)

-- the rounded sum, as it was read
sum :
    (c : After-right_sum-q) →
    to_z w64 (of_z w64 c.right_sum-q.result)
    ≡ rounded_sum (rule_by c.args.down c.args.even) c.args.sheet.now c.args.f c.loop-t.x (c.args.f.order - 1 - c.loop-t.t)
sum c = back w64 _ c.right_sum-q.type_inv ∙ c.right_sum-q.ensures

pub undo_at-requires : goal.undo_at-requires
undo_at-requires c =
    let here = goal.at.undo_at-requires c in (
      (c.requires.0, (let t = c.loop-t-test.true in omega arith), c.loop-t.invariant.1.small),
      rw (sum here.After-right_sum-q)
          (rounded-sum-small c.requires.0 (c.args.f.order - 1 - c.loop-t.t) (let t = c.loop-t-test.true in omega arith)
          (K here.Start) c.loop-t.invariant.1.small),
    )

-- what the element was
value :
    (c : After-undo_at) →
    let m = c.args.f.order - 1 - c.loop-t.t in
    let q = c.right_sum-q.result in
    let k = rule_by c.args.down c.args.even in
    at c.args.sheet.now (c.args.f.signs + m) *ℤ (at c.loop-t.x m -ℤ to_z w64 (of_z w64 q))
    ≡ undone_at k c.args.sheet.now c.args.f (undone_in_place k c.args.sheet.now c.args.f c.loop-t.t c.args.x.now) m
unfolding undone_at
value c = rw (back w64 _ c.right_sum-q.type_inv ∙ c.right_sum-q.ensures, c.loop-t.invariant.1.is)

pub returns-in_err-undo_at : goal.returns-in_err-undo_at
returns-in_err-undo_at c =
    let here = goal.at.returns-in_err-undo_at c in
    refuses c.from_residual.result _ c.from_residual.ensures.1
    (filled-refused (fills here.Start) c.loop-t-test.true (value here.After-undo_at) c.undo_at.ensures
    (ap is_ok c.in_err-undo_at.was))

pub loop-t-preserved : goal.loop-t-preserved
unfolding in_place
loop-t-preserved c =
    let here = goal.at.loop-t-preserved c in (
      let e = place here.In-loop-t in
          let z : c.args.f.order - (c.loop-t.t + 1) ≡ c.args.f.order - 1 - c.loop-t.t = omega arith in rw z
          (omega arith),
      filled_next (fills here.Start) c.loop-t-test.true (value here.After-undo_at) c.undo_at.ensures c.loop-t.invariant.1
          (ap is_ok c.in_ok-undo_at.was),
    )

pub returns : goal.returns
returns c =
    filled-done (fills (goal.at.returns c).Start) (omega arith) c.loop-t.invariant.1
