-- The block is as t turns leave it, and in bound (`Filled`); p is where the next row starts.
use Rattle.std.specs.Prelude.{is_ok}
use Rattle.std.proofs.Common.{rules, ap, List, ◌≡◌, sym, ◌∙◌, ℕ, ◌+◌, add-one, arith, ℤ, ◌-ℤ◌, ◌*ℤ◌, length, w64, to_z, of_z}
use Rattle.factor.specs.Rounding.{rule_by}
use Rattle.factor.specs.UndoingOrder.{nth_undone}
use Rattle.linerun.specs.Filling.{Filling, refuses, filled_next, filled-refused, filled-done, undone-fills}
use Rattle.linerun.specs.LineBounds.{rounded-sum-small}
use Rattle.linerun.specs.RowsByKind.{lower-at, lower-left}
use Rattle.linerun.specs.Steps.{rounded_sum, undone_at, undone_in_place}
use Rattle.rules.specs.Numbers.{at}
use Rattle.rules.specs.Sheets.{triangle}
use Rattle.rules.specs.declared.Rule.{Rule}
use Rattle.whole.specs.Machine.{back}
use Rattle.linerun.proofs.kinds.lower_back.Goals as goal
use Rattle.linerun.proofs.kinds.lower_back.Goals.{After-left_sum-q, After-undo_at, Start}

-- the rule of the two tests
abbrev K : Start → Rule
K s = rule_by s.args.down s.args.even

-- the block after t turns, the element of turn t, and what it was
abbrev W : Start → ℕ → List ℤ
W s t = undone_in_place (K s) s.args.sheet.now s.args.f t s.args.x.now

abbrev P : Start → ℕ → ℕ
P s t = t

abbrev F : Start → ℕ → ℤ
F s t = undone_at (K s) s.args.sheet.now s.args.f (W s t) (P s t)

len : (s : Start) → length s.args.x.now ≡ 16
len s = search rules

fills : (s : Start) → Filling s.args.f.order (W s) (P s) (F s)
unfolding nth_undone
fills s = undone-fills (K s) s.requires.0 s.args.x.now (len s) s.requires.2 (P s) (λ t l. rw s.requires.1)

pub left_sum-q-requires : goal.left_sum-q-requires
left_sum-q-requires c = (
  (c.requires.0, c.loop-m-test.true, c.loop-m.invariant.1.small),
  c.requires.1,
  c.loop-m.invariant.0 ∙ sym
      (lower-at c.args.f c.loop-m.m c.requires.1),
)

-- the rounded sum, as it was read
sum :
    (c : After-left_sum-q) →
    to_z w64 (of_z w64 c.left_sum-q.result)
    ≡ rounded_sum (rule_by c.args.down c.args.even) c.args.sheet.now c.args.f c.loop-m.x c.loop-m.m
sum c = back w64 _ c.left_sum-q.type_inv ∙ c.left_sum-q.ensures

pub undo_at-requires : goal.undo_at-requires
undo_at-requires c =
    let here = goal.at.undo_at-requires c in (
      (c.requires.0, c.loop-m-test.true, c.loop-m.invariant.1.small),
      rw (sum here.After-left_sum-q)
          (rounded-sum-small c.requires.0 c.loop-m.m c.loop-m-test.true (K here.Start) c.loop-m.invariant.1.small),
    )

-- what the element was
value :
    (c : After-undo_at) →
    let m = c.loop-m.m in
    let q = c.left_sum-q.result in
    let k = rule_by c.args.down c.args.even in
    at c.args.sheet.now (c.args.f.signs + m) *ℤ (at c.loop-m.x m -ℤ to_z w64 (of_z w64 q))
    ≡ undone_at k c.args.sheet.now c.args.f (undone_in_place k c.args.sheet.now c.args.f c.loop-m.m c.args.x.now) c.loop-m.m
unfolding undone_at
value c = rw (back w64 _ c.left_sum-q.type_inv ∙ c.left_sum-q.ensures, c.loop-m.invariant.1.is)

pub returns-in_err-undo_at : goal.returns-in_err-undo_at
returns-in_err-undo_at c =
    let here = goal.at.returns-in_err-undo_at c in
    refuses c.from_residual.result _ c.from_residual.ensures.1
    (filled-refused (fills here.Start) c.loop-m-test.true (value here.After-undo_at) c.undo_at.ensures (ap is_ok c.in_err-undo_at.was))

pub overflow_add-p : goal.overflow_add-p
overflow_add-p c =
    let r = (c.requires.0.row c.loop-m.m c.loop-m-test.true).room in
    let h = c.loop-m-test.true in
    omega (
      arith,
      c.loop-m.invariant.0,
      lower-at c.args.f c.loop-m.m c.requires.1,
      lower-left c.args.f
          c.loop-m.m c.requires.1,
    )

pub loop-m-preserved : goal.loop-m-preserved
unfolding triangle
loop-m-preserved c =
    let here = goal.at.loop-m-preserved c in (
      let e : triangle (c.loop-m.m + 1) ≡ triangle c.loop-m.m + c.loop-m.m = rw add-one in omega (arith, c.loop-m.invariant.0),
      filled_next (fills here.Start) c.loop-m-test.true (value here.After-undo_at) c.undo_at.ensures c.loop-m.invariant.1
          (ap is_ok c.in_ok-undo_at.was),
    )

pub returns : goal.returns
returns c =
    filled-done (fills (goal.at.returns c).Start) (omega arith) c.loop-m.invariant.1
