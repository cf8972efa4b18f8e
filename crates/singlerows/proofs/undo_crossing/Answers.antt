-- The block is as u turns leave it, all of it is in bound, and v has the row's sums with what is recovered (`RecoveredSums`).
use Rattle.std.proofs.Common.{rules, ◌≡◌, refl, sym, ap, ◌∙◌, ℕ, ◌+◌, ◌*◌, ◌<◌, add-one, arith, ℤ, ◌+ℤ◌, ◌*ℤ◌, length, set, length-set, w32, w64, to_z, of_z}
use Rattle.factor.specs.InPlace.{in_place, length-in-place}
use Rattle.factor.specs.LayoutInSheet.{row-wide}
use Rattle.factor.specs.Rounding.{rule_by}
use Rattle.factor.specs.SumBounds.{bounded-le, bounded-set, kept-no, kept-yes}
use Rattle.factor.specs.UndoingOrder.{nth_undone, undoing-permutes}
use Rattle.joint.specs.Elements.{sign_at, diagonal_of, undone_of, diagonal-small}
use Rattle.joint.specs.RecoveredSums.{RecoveredSums, recovered-sums-start, recovered-sums-next, recovered-sums-small, recovered-sums-undo}
use Rattle.joint.specs.RowsInPlace.{undone-here, in_block}
use Rattle.joint.specs.Sums.{rest_sums, most_column, rest-sums-small}
use Rattle.rules.proofs.Laws.Lists.{length-fill}
use Rattle.rules.specs.Numbers.{most_entry, bound, at}
use Rattle.singlerows.specs.SingleRowsInPlace.{row-through, row-beyond}
use Rattle.std.proofs.lemmas.Result.{err_from_is_err_and}
use Rattle.whole.specs.Diff.{Within}
use Rattle.whole.specs.Machine.{fits, reads, back, within-le, within-+, within-*}
use Rattle.singlerows.proofs.undo_crossing.Goals as goal
use Rattle.singlerows.proofs.undo_crossing.Goals.{After-diagonal_of, After-nth_undone-j, After-sign_at-d, After-undone_at-z, After-with_sum, After-keep}

pub loop-u-init : goal.loop-u-init
unfolding in_place rest_sums
loop-u-init c =
    let s = c.before in
    let e = c.rest_sums_at.ensures in (
      omega arith,
      refl,
      s.requires.4,
      recovered-sums-start s.args.col.now s.args.fa s.args.i s.args.fb s.requires.3 s.requires.1.order
          s.args.x.now e,
      rw e (rest-sums-small s.args.fb.order (row-wide s.requires.0.order (s.requires.0.row s.args.i s.requires.2))
          (bounded-le (omega arith) s.requires.4)),
      ap length e ∙ length-fill _ _ _,
    )

inside-order : (p : After-nth_undone-j) →
    p.nth_undone-j.result < p.before.args.fb.order
inside-order p =
    let s = p.before in
    rw p.nth_undone-j.ensures ((undoing-permutes s.args.fb.kind s.args.fb.order s.args.fb.row s.requires.3).below
    p.loop-u.u p.loop-u-test.true)

-- the place of the element
abbrev P : After-nth_undone-j → ℕ
P p =
    p.before.args.i *
    p.before.args.fb.order + p.nth_undone-j.result

room : (p : After-nth_undone-j) → P p < 256
room p =
    let s = p.before in
    in_block p.nth_undone-j.result s.requires.0.order s.requires.1.order s.requires.2 (inside-order p)

pub overflow_add-e : goal.overflow_add-e
overflow_add-e c = let h = room (goal.at.overflow_add-e c).After-nth_undone-j in omega arith

pub offset_bounds-x-e : goal.offset_bounds-x-e
offset_bounds-x-e c = let h = room (goal.at.offset_bounds-x-e c).After-nth_undone-j in omega arith

pub bounds-x-e : goal.bounds-x-e
bounds-x-e c = let h = room (goal.at.bounds-x-e c).After-nth_undone-j in omega arith

-- what the element was
abbrev F : After-nth_undone-j → ℤ
F p =
    let s = p.before in
    undone_of (rule_by s.args.down s.args.even) s.args.col.now s.args.fa s.args.row.now s.args.fb
    p.loop-u.x (P p)

abbrev D : After-nth_undone-j → ℤ
D p = let s = p.before in sign_at s.args.col.now s.args.fa s.args.i

sign : (c : After-sign_at-d) → to_z w32 (of_z w32 c.sign_at-d.result) ≡ D c.before
sign c = back w32 _ c.sign_at-d.type_inv ∙ c.sign_at-d.ensures

old : (p : After-nth_undone-j) → Within bound (at p.loop-u.x (P p))
old p = p.loop-u.invariant.2.small (P p)

pub undone_at-z-requires : goal.undone_at-z-requires
undone_at-z-requires c =
    let g = goal.at.undone_at-z-requires c in
    let p = g.After-nth_undone-j in
    rw (sign g.After-sign_at-d, reads w32 (old p) tt)
    (c.requires.1, inside-order p, c.requires.0.sign c.args.i c.requires.2, c.loop-u.invariant.4, old p)

value : (c : After-undone_at-z) →
    to_z w64 (of_z w64 c.undone_at-z.result) ≡ F c.before.before.before.before
value c =
    let p = c.before.before.before.before in
    let l = c.loop-u in
    let j = nth_undone c.args.fb.kind c.args.fb.order c.args.fb.row l.u in
    back w64 _ c.undone_at-z.type_inv ∙ c.undone_at-z.ensures
    ∙ rw (sign c.before.before.before, reads w32 (old p) tt, c.nth_undone-j.ensures)
    (recovered-sums-undo c.args.col.now c.args.fa c.args.i c.args.fb c.requires.3 c.requires.1.order c.requires.0
    c.requires.2 l.u c.loop-u-test.true l.invariant.3 c.requires.1 (rule_by c.args.down c.args.even)
    ∙ sym (undone-here (rule_by c.args.down c.args.even) c.args.col.now c.args.fa c.args.row.now
    c.args.fb l.x c.args.i j
    (rw c.nth_undone-j.ensures at (inside-order p))))

long-after : (c : After-keep) → length c.keep.new.x ≡ length c.args.x.now
long-after c = search rules

pub keep-requires : goal.keep-requires
keep-requires c = (tt, let h = room (goal.at.keep-requires c).After-nth_undone-j in omega arith)

pub returns-in_err-keep : goal.returns-in_err-keep
returns-in_err-keep c =
    let g = goal.at.returns-in_err-keep c in
    let l = c.loop-u in
    rw (err_from_is_err_and c.from_residual.result c.from_residual.ensures.1).1
    (row-beyond (long-after g.After-keep) (record {
      turn = l.u;
      before = c.loop-u-test.true;
      far =
          rw (← l.invariant.1, ← c.nth_undone-j.ensures)
          (kept-no (rw (value g.After-undone_at-z) at c.in_err-keep.ensures) refl);
    }))

-- a column of the row of sums
column : (p : After-nth_undone-j) → p.nth_undone-j.result < 16
column p = let h = inside-order p in let o = p.before.requires.1.order in omega arith

pub offset_bounds-v-j : goal.offset_bounds-v-j
offset_bounds-v-j c = let h = column (goal.at.offset_bounds-v-j c).After-nth_undone-j in omega arith

pub bounds-v-j : goal.bounds-v-j
bounds-v-j c = let h = column (goal.at.bounds-v-j c).After-nth_undone-j in omega arith

diagonal-is-small : (p : After-nth_undone-j) → Within most_entry (diagonal_of (D p))
diagonal-is-small p =
    let s = p.before in diagonal-small (s.requires.0.sign s.args.i s.requires.2)

diagonal : (c : After-diagonal_of) →
    to_z w32 (of_z w32 c.diagonal_of.result) ≡ diagonal_of
    (sign_at c.args.col.now c.args.fa c.args.i)
diagonal c =
    back w32 _ c.diagonal_of.type_inv ∙ c.diagonal_of.ensures
    ∙ rw (sign c.before.before.before.before.before.before.before.before.before)

pub with_sum-requires : goal.with_sum-requires
with_sum-requires c =
    let g = goal.at.with_sum-requires c in
    let o = diagonal-is-small g.After-nth_undone-j in
    let v = c.loop-u.invariant.4.small c.nth_undone-j.result in
    let h = kept-yes (rw (value g.After-undone_at-z) at c.in_ok-keep.ensures) refl in
    rw (reads w64 v tt, diagonal g.After-diagonal_of, value g.After-undone_at-z)
    (fits o tt, fits (within-* o h) tt, fits (within-+ v (within-* o h)) tt)

pub offset_bounds-v-j-in-loop-u : goal.offset_bounds-v-j-in-loop-u
offset_bounds-v-j-in-loop-u c = let h = column (goal.at.offset_bounds-v-j-in-loop-u c).After-nth_undone-j in omega arith

pub bounds-v-j-in-loop-u : goal.bounds-v-j-in-loop-u
bounds-v-j-in-loop-u c = let h = column (goal.at.bounds-v-j-in-loop-u c).After-nth_undone-j in omega arith

-- the sum of the element's column, with the element
abbrev G : After-nth_undone-j → ℤ
G p = at p.loop-u.v p.nth_undone-j.result +ℤ (diagonal_of (D p) *ℤ F p)

sum_is : (c : After-with_sum) →
    to_z w64 (of_z w64 c.with_sum.result) ≡ G c.before.before.before.before.before.before.before.before.before.before.before
sum_is c =
    back w64 _ c.with_sum.type_inv ∙ c.with_sum.ensures
    ∙ rw (
      reads w64 (c.loop-u.invariant.4.small c.nth_undone-j.result) tt,
      diagonal c.before,
      value c.before.before.before.before.before.before.before,
    )

long : (p : After-nth_undone-j) → length p.loop-u.x ≡ 256
long p =
    let l = p.loop-u in ap length l.invariant.1 ∙ length-in-place _ _ l.u _
    ∙ p.before.requires.5

next : (p : After-nth_undone-j) →
    let s = p.before in
    let l = p.loop-u in
    RecoveredSums s.args.col.now s.args.fa s.args.i s.args.fb (l.u + 1) (set l.x (P p) (F p))
    (set l.v p.nth_undone-j.result (G p))
next p =
    let s = p.before in
    let l = p.loop-u in
    let h : P p < length l.x = let r = room p in omega (arith, long p) in
    rw p.nth_undone-j.ensures
    (recovered-sums-next s.args.col.now s.args.fa s.args.i s.args.fb s.requires.3 s.requires.1.order s.requires.0
    s.requires.2 l.u p.loop-u-test.true l.invariant.3 _
    (rw p.nth_undone-j.ensures at h) l.invariant.5)

small : (p : After-nth_undone-j) → Within bound (F p) → Within most_column (G p)
small p h =
    let s = p.before in
    let l = p.loop-u in
    rw p.nth_undone-j.ensures
    (recovered-sums-small s.args.col.now s.args.fa s.args.i s.args.fb s.requires.3 s.requires.1.order s.requires.0
    s.requires.2 l.u p.loop-u-test.true l.invariant.3
    (bounded-le (omega arith) l.invariant.2) (within-le (omega arith) (rw p.nth_undone-j.ensures at h)))

pub loop-u-preserved : goal.loop-u-preserved
unfolding in_place
loop-u-preserved c =
    let g = goal.at.loop-u-preserved c in
    let p = g.After-nth_undone-j in
    let k = rw (value g.After-undone_at-z) at c.in_ok-keep.ensures in
    let h = kept-yes k refl in
    let t = sum_is g.After-with_sum in
    let l = c.loop-u in
    rw (k.put refl) (
      omega arith,
      rw (add-one, c.nth_undone-j.ensures, l.invariant.1),
      bounded-set l.x (P p) l.invariant.2 h,
      rw t (next p),
      rw t (bounded-set l.v c.nth_undone-j.result l.invariant.4 (small p h)),
      length-set l.v c.nth_undone-j.result _ ∙ l.invariant.5,
    )

pub returns : goal.returns
returns c =
    let l = c.loop-u in
    let e : l.u ≡ c.args.fb.order = omega arith in
    row-through (l.invariant.1 ∙ rw e) l.invariant.2
