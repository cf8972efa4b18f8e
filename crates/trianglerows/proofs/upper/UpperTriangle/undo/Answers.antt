-- The block is as the turns so far leave it, all of it is in bound, and v has the row's sums with what is recovered.
use Rattle.std.proofs.Common.{refl, rules, ◌≡◌, sym, ap, ◌∙◌, ℕ, suc, ◌+◌, ◌-◌, ◌*◌, ◌<◌, arith, ℤ, ◌+ℤ◌, ◌*ℤ◌, length, set, w32, w64, to_z, of_z}
use Rattle.factor.specs.Layouts.{row_of}
use Rattle.factor.specs.Rounding.{rule_by}
use Rattle.factor.specs.SumBounds.{kept-no, kept-yes}
use Rattle.factor.specs.UndoingOrder.{nth_undone}
use Rattle.joint.specs.Elements.{sign_at, diagonal_of, undone_of, undone_from, rest-element-small}
use Rattle.joint.specs.RowsInPlace.{in_block}
use Rattle.joint.specs.Triangles.{total_of, upper-at, upper-right}
use Rattle.rules.specs.Factors.{above}
use Rattle.rules.proofs.Laws.Lists.{set_at}
use Rattle.rules.specs.Numbers.{at}
use Rattle.std.proofs.lemmas.Result.{err_from_is_err_and}
use Rattle.trianglerows.specs.TrianglesUndone.{recent-some, recent-next, upper-turn, above_step, undoing-starts, undoing-value, undoing-stops, undoing-next, undoing_ends}
use Rattle.whole.specs.Machine.{reads, back, within-le}
use Rattle.trianglerows.proofs.upper.UpperTriangle.undo.Goals as goal
use Rattle.trianglerows.proofs.upper.UpperTriangle.undo.Goals.{After-first, Start, After-sign_at, After-sign_at-d, After-undone_whole-z, After-total_with-s, After-keep, In-loop-t}

-- the row of the first turn
abbrev first-row : Start → ℕ
first-row s = s.args.n - 1 - s.args.from

first-inside : (s : Start) → first-row s < s.args.fb.order
first-inside s = let e = s.requires.4 in let l = s.requires.0.low in omega arith

pub first-requires : goal.first-requires
first-requires c =
    let s = (goal.at.first-requires c).Start in
    let h = (c.requires.0.row.row (first-row s) (first-inside s)).room in
    (c.requires.1, c.requires.4, first-inside s, c.requires.0.row.order, omega arith)

-- where the row after it starts
first-at : (c : After-first) →
    c.first.result + c.args.from ≡ c.args.fb.entries + above c.args.fb.order (c.args.fb.order - c.args.from)
first-at c =
    let f = c.args.fb in
    let h : c.args.from < f.order = let a = c.requires.2 in let b = c.requires.3 in omega arith in
    let e : c.args.n - 1 - c.args.from ≡ f.order - 1 - c.args.from = let q = c.requires.4 in omega arith in
    let w = rw e at c.first.ensures in
    let a = upper-at f (f.order - 1 - c.args.from) c.requires.1 in
    let g = above_step f.order c.args.from h in
    omega arith

pub overflow_add-p : goal.overflow_add-p
overflow_add-p c =
    let s = (goal.at.overflow_add-p c).Start in
    let f = c.args.fb in
    let h = (c.requires.0.row.row (first-row s) (first-inside s)).room in
    let r = upper-right f (first-row s) c.requires.1 in
    let e = c.requires.4 in
    let a = c.requires.2 in
    let b = c.requires.3 in
    let w = c.first.ensures in
    omega arith

pub loop-t-init : goal.loop-t-init
loop-t-init c =
    let a = c.requires.2 in (
      omega arith,
      undoing-starts c.requires.0,
      first-at (goal.at.loop-t-init c).After-first,
      back w64 _ c.right_of-last.type_inv ∙ c.right_of-last.ensures,
    )

-- the column of this turn
abbrev J : In-loop-t → ℕ
J c = c.args.n - 1 - c.loop-t.t

-- the element in turn is one of the row
inside : (c : In-loop-t) → J c < c.args.fb.order
inside c = let h = c.loop-t-test.true in let l = c.requires.3 in let e = c.requires.4 in omega arith

-- and its turn
in-turn : (c : In-loop-t) → c.loop-t.t < c.args.fb.order
in-turn c = let h = c.loop-t-test.true in let l = c.requires.3 in omega arith

-- its entries
entries_at : (c : In-loop-t) → c.loop-t.p ≡ (row_of c.args.fb (J c)).at + c.loop-t.t
entries_at c =
    let b = c.args.fb in
    let l = c.loop-t in
    let g = above_step b.order l.t (in-turn c) in
    let f = upper-at b (J c) c.requires.1 in
    let e : b.order - 1 - l.t ≡ J c = let q = c.requires.4 in omega arith in
    l.invariant.2 ∙ (let k = rw e at g in omega arith)

pub overflow_sub-p : goal.overflow_sub-p
overflow_sub-p c = let e = entries_at (goal.at.overflow_sub-p c).In-loop-t in omega arith

pub total_with-s-requires : goal.total_with-s-requires
total_with-s-requires c =
    let i = (goal.at.total_with-s-requires c).In-loop-t in
    let l = c.loop-t in
    let h = in-turn i in
    let q = c.requires.4 in (
      (c.requires.0.row, inside i, l.invariant.1.recovered.small),
      c.requires.1,
      (let e = entries_at i in omega arith),
      omega arith,
      λ some. l.invariant.3 ∙ recent-some _ _ l.t (λ z. omega arith)
          ∙ (let e : c.args.n - suc (l.t - 1) ≡ J i + 1 = omega arith in ap (at l.v) e),
    )

-- its place
abbrev P : In-loop-t → ℕ
P c = c.args.i * c.args.fb.order + J c

room : (c : In-loop-t) → P c < 256
room c = let g = c.requires.0 in in_block (J c) g.column.order g.row.order g.below (inside c)

-- the sign of its row, its sum, its own sign and its number
abbrev D : In-loop-t → ℤ
D c = sign_at c.args.col.now c.args.fa c.args.i

row-sign : (c : After-sign_at-d) → to_z w32 (of_z w32 c.sign_at-d.result) ≡ sign_at c.args.col.now c.args.fa c.args.i
row-sign c = back w32 _ c.sign_at-d.type_inv ∙ c.sign_at-d.ensures

total : (c : After-total_with-s) →
    to_z w64 (of_z w64 c.total_with-s.result)
    ≡ total_of c.args.row.now c.args.fb (c.args.n - 1 - c.loop-t.t) c.loop-t.v
total c = back w64 _ c.total_with-s.type_inv ∙ c.total_with-s.ensures

sign : (c : After-sign_at) →
    to_z w32 (of_z w32 c.sign_at.result) ≡ sign_at c.args.row.now c.args.fb (c.args.n - 1 - c.loop-t.t)
sign c = back w32 _ c.sign_at.type_inv ∙ c.sign_at.ensures

number : (c : In-loop-t) → to_z w32 (of_z w32 (at c.loop-t.x (P c))) ≡ at c.loop-t.x (P c)
number c = reads w32 (c.loop-t.invariant.1.small.small _) tt

pub undone_whole-z-requires : goal.undone_whole-z-requires
undone_whole-z-requires c =
    let g = goal.at.undone_whole-z-requires c in
    let r = c.requires.0 in
    let i = g.In-loop-t in
    let l = c.loop-t in
    rw (total g.After-total_with-s, row-sign g.After-sign_at-d, sign g.After-sign_at, number i) (
      rest-element-small r.row (J i) (inside i) l.invariant.1.recovered.small,
      r.column.sign c.args.i r.below,
      r.row.sign (J i) (inside i),
      l.invariant.1.small.small _,
    )

-- what it was
abbrev F : In-loop-t → ℤ
F c =
    let a = c.args in
    undone_of (rule_by a.down a.even) a.col.now a.fa a.row.now a.fb c.loop-t.x (P c)

-- its turn
turn : (c : In-loop-t) → let f = c.args.fb in nth_undone f.kind f.order f.row c.loop-t.t ≡ J c
turn c =
    upper-turn c.args.fb c.loop-t.t c.requires.1
    ∙ (let e = c.requires.4 in let h = in-turn c in omega arith)

-- so it is what it was
was : (c : In-loop-t) → let a = c.args in let l = c.loop-t in
    undone_from (rule_by a.down a.even) (total_of a.row.now a.fb (J c) l.v) (D c) (sign_at a.row.now a.fb (J c)) (at l.x (P c))
    ≡ F c
was c = undoing-value c.requires.0 c.loop-t.invariant.1 (in-turn c) (inside c) (turn c)

value : (c : After-undone_whole-z) →
    to_z w64 (of_z w64 c.undone_whole-z.result) ≡ F c.before.before.before.before.before
value c =
    let i : In-loop-t = c.before.before.before.before.before in
    back w64 _ c.undone_whole-z.type_inv ∙ c.undone_whole-z.ensures
    ∙ rw (
      total c.before.before.before,
      row-sign c.before.before.before.before,
      sign c.before.before,
      number i,
    ) (was i)

long : (c : After-keep) → length c.keep.new.x ≡ length c.args.x.now
long c = search rules

-- it goes into its place, or is beyond the bound
pub returns-in_err-keep : goal.returns-in_err-keep
returns-in_err-keep c =
    let g = goal.at.returns-in_err-keep c in
    let i = g.In-loop-t in
    rw (err_from_is_err_and c.from_residual.result c.from_residual.ensures.1).1
    (undoing-stops c.requires.0 c.loop-t.invariant.1 (in-turn i) (inside i) (turn i) c.args.to c.loop-t-test.true (long g.After-keep)
    (kept-no (rw (value g.After-undone_whole-z) at c.in_err-keep.ensures) refl))

-- its column
column : (c : In-loop-t) → J c < 16
column c = let h = inside c in let o = c.requires.0.row.order in omega arith

pub with_diagonal-last-requires : goal.with_diagonal-last-requires
with_diagonal-last-requires c =
    let g = goal.at.with_diagonal-last-requires c in
    let r = c.requires.0 in
    let v = c.loop-t.invariant.1.recovered.small.small (J g.In-loop-t) in
    rw (reads w64 v tt, row-sign g.After-sign_at-d, value g.After-undone_whole-z) (
      within-le (omega arith) v,
      r.column.sign c.args.i r.below,
      within-le (omega arith) (kept-yes (rw (value g.After-undone_whole-z) at c.in_ok-keep.ensures) refl),
    )

-- the sum of its column, with it
abbrev G : In-loop-t → ℤ
G c = at c.loop-t.v (J c) +ℤ (diagonal_of (D c) *ℤ F c)

-- the row before it starts where its entries end
next-at : (c : In-loop-t) →
    c.loop-t.p - c.loop-t.t ≡ c.args.fb.entries + above c.args.fb.order (c.args.fb.order - (c.loop-t.t + 1))
next-at c =
    let h = entries_at c in
    let f = upper-at c.args.fb (J c) c.requires.1 in
    let e : c.args.fb.order - (c.loop-t.t + 1) ≡ J c = let q = c.requires.4 in let b = in-turn c in omega arith in
    rw e (omega arith)

-- the latest sum is its column's
here : (c : In-loop-t) → length c.loop-t.v ≡ 16 →
    at (set c.loop-t.v (J c) (G c)) (c.args.n - suc c.loop-t.t) ≡ G c
here c h =
    let e : c.args.n - suc c.loop-t.t ≡ J c = omega arith in
    rw e (set_at c.loop-t.v (J c) (G c) (omega (arith, column c, h)))

pub loop-t-preserved : goal.loop-t-preserved
loop-t-preserved c =
    let g = goal.at.loop-t-preserved c in
    let i = g.In-loop-t in
    let s : to_z w64 (of_z w64 c.with_diagonal-last.result) ≡ G i = back w64 _ c.with_diagonal-last.type_inv
    ∙ c.with_diagonal-last.ensures
    ∙ rw (
      reads w64 (c.loop-t.invariant.1.recovered.small.small (J i)) tt,
      row-sign g.After-sign_at-d,
      value g.After-undone_whole-z,
    ) in
    let h = rw (value g.After-undone_whole-z) at c.in_ok-keep.ensures in
    let l = c.loop-t in (
      (let b = c.loop-t-test.true in omega arith),
      rw (h.put refl, s)
          (undoing-next c.requires.0 l.invariant.1 (in-turn i) (inside i) (turn i) (kept-yes h refl)),
      next-at i,
      s ∙ sym (rw s (recent-next _ _ l.t ∙ here i l.invariant.1.recovered.long)),
    )

pub returns : goal.returns
returns c =
    undoing_ends c.requires.0 c.loop-t.invariant.1 c.args.to (let a = c.loop-t.invariant.0 in omega arith)
