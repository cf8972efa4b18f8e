-- The block is as the turns so far leave it, all of it is in bound, and v has the row's sums with what is recovered.
use Rattle.std.proofs.Common.{refl, rules, ◌≡◌, sym, ap, ◌∙◌, ℕ, ◌+◌, ◌*◌, ◌<◌, arith, ℤ, length, ◌+ℤ◌, ◌*ℤ◌, w32, w64, to_z, of_z}
use Rattle.factor.specs.Rounding.{rule_by}
use Rattle.factor.specs.SumBounds.{kept-no, kept-yes}
use Rattle.factor.specs.UndoingOrder.{nth_undone}
use Rattle.joint.specs.Elements.{sign_at, diagonal_of, undone_of, undone_from, rest-element-small}
use Rattle.joint.specs.Triangles.{total_of, lower-left, lower-next}
use Rattle.rules.proofs.Laws.Lists.{set_at}
use Rattle.rules.specs.Numbers.{at}
use Rattle.std.proofs.lemmas.Result.{err_from_is_err_and}
use Rattle.trianglerows.specs.TrianglesUndone.{recent-next, lower-turn, undoing-starts, undoing-value, undoing-stops, undoing-next, undoing_ends}
use Rattle.whole.specs.Machine.{reads, back, within-le}
use Rattle.trianglerows.proofs.lower.LowerTriangle.undo.Goals as goal
use Rattle.trianglerows.proofs.lower.LowerTriangle.undo.Goals.{After-total_with-s, After-sign_at, After-sign_at-d, After-undone_whole-z, After-keep, In-loop-j}

pub loop-j-init : goal.loop-j-init
loop-j-init c =
    let a = c.requires.2 in (
      omega arith,
      undoing-starts c.requires.0,
      c.first-p.ensures,
      back w64 _ c.left_of-last.type_inv ∙ c.left_of-last.ensures,
    )

-- the element in turn is one of the row
inside : (c : In-loop-j) → c.loop-j.j < c.args.fb.order
inside c = let h = c.loop-j-test.true in let l = c.requires.3 in omega arith

-- its place
abbrev P : In-loop-j → ℕ
P c = c.args.i * c.args.fb.order + c.loop-j.j

-- the sign of its row, its sum, its own sign and its number
abbrev D : In-loop-j → ℤ
D c = sign_at c.args.col.now c.args.fa c.args.i

row-sign : (c : After-sign_at-d) → to_z w32 (of_z w32 c.sign_at-d.result) ≡ D c.before
row-sign c = back w32 _ c.sign_at-d.type_inv ∙ c.sign_at-d.ensures

total : (c : After-total_with-s) →
    to_z w64 (of_z w64 c.total_with-s.result) ≡ total_of c.args.row.now c.args.fb c.loop-j.j c.loop-j.v
total c = back w64 _ c.total_with-s.type_inv ∙ c.total_with-s.ensures

sign : (c : After-sign_at) → to_z w32 (of_z w32 c.sign_at.result) ≡ sign_at c.args.row.now c.args.fb c.loop-j.j
sign c = back w32 _ c.sign_at.type_inv ∙ c.sign_at.ensures

number : (c : In-loop-j) → to_z w32 (of_z w32 (at c.loop-j.x (P c))) ≡ at c.loop-j.x (P c)
number c = reads w32 (c.loop-j.invariant.1.small.small _) tt

pub undone_whole-z-requires : goal.undone_whole-z-requires
undone_whole-z-requires c =
    let g = goal.at.undone_whole-z-requires c in
    let r = c.requires.0 in
    let l = c.loop-j in
    rw (total g.After-total_with-s, row-sign g.After-sign_at-d, sign g.After-sign_at, number g.In-loop-j) (
      rest-element-small r.row l.j (inside g.In-loop-j) l.invariant.1.recovered.small,
      r.column.sign c.args.i r.below,
      r.row.sign l.j (inside g.In-loop-j),
      l.invariant.1.small.small _,
    )

-- what it was
abbrev F : In-loop-j → ℤ
F c =
    let a = c.args in
    undone_of (rule_by a.down a.even) a.col.now a.fa a.row.now a.fb c.loop-j.x (P c)

-- its turn
turn : (c : In-loop-j) → let f = c.args.fb in nth_undone f.kind f.order f.row c.loop-j.j ≡ c.loop-j.j
turn c = lower-turn c.args.fb c.loop-j.j c.requires.1

-- so it is what it was
was : (c : In-loop-j) → let a = c.args in let l = c.loop-j in
    undone_from (rule_by a.down a.even) (total_of a.row.now a.fb l.j l.v) (D c) (sign_at a.row.now a.fb l.j) (at l.x (P c))
    ≡ F c
was c = undoing-value c.requires.0 c.loop-j.invariant.1 (inside c) (inside c) (turn c)

value : (c : After-undone_whole-z) →
    to_z w64 (of_z w64 c.undone_whole-z.result) ≡ F c.before.before.before.before.before
value c =
    let i : In-loop-j = c.before.before.before.before.before in
    back w64 _ c.undone_whole-z.type_inv ∙ c.undone_whole-z.ensures
    ∙ rw (
      total c.before.before.before,
      row-sign c.before.before.before.before,
      sign c.before.before,
      number i,
    ) (was i)

long : (c : After-keep) → length c.keep.new.x ≡ length c.args.x.now
long c = search rules

-- it goes into its place, or is beyond the bound
pub returns-in_err-keep : goal.returns-in_err-keep
returns-in_err-keep c =
    let g = goal.at.returns-in_err-keep c in
    let i = g.In-loop-j in
    rw (err_from_is_err_and c.from_residual.result c.from_residual.ensures.1).1
    (undoing-stops c.requires.0 c.loop-j.invariant.1 (inside i) (inside i) (turn i) c.args.to c.loop-j-test.true (long g.After-keep)
    (kept-no (rw (value g.After-undone_whole-z) at c.in_err-keep.ensures) refl))

-- its column
column : (c : In-loop-j) → c.loop-j.j < 16
column c = let h = inside c in let o = c.requires.0.row.order in omega arith

pub with_diagonal-last-requires : goal.with_diagonal-last-requires
with_diagonal-last-requires c =
    let g = goal.at.with_diagonal-last-requires c in
    let r = c.requires.0 in
    let v = c.loop-j.invariant.1.recovered.small.small c.loop-j.j in
    rw (reads w64 v tt, row-sign g.After-sign_at-d, value g.After-undone_whole-z) (
      within-le (omega arith) v,
      r.column.sign c.args.i r.below,
      within-le (omega arith) (kept-yes (rw (value g.After-undone_whole-z) at c.in_ok-keep.ensures) refl),
    )

-- the sum of its column, with it
abbrev G : In-loop-j → ℤ
G c = at c.loop-j.v c.loop-j.j +ℤ (diagonal_of (D c) *ℤ F c)

pub overflow_add-p : goal.overflow_add-p
overflow_add-p c =
    let i = (goal.at.overflow_add-p c).In-loop-j in
    let r = (c.requires.0.row.row c.loop-j.j (inside i)).room in
    let e = lower-left c.args.fb c.loop-j.j c.requires.1 in
    let p = c.loop-j.invariant.2 in
    omega arith

pub loop-j-preserved : goal.loop-j-preserved
loop-j-preserved c =
    let g = goal.at.loop-j-preserved c in
    let i = g.In-loop-j in
    let s : to_z w64 (of_z w64 c.with_diagonal-last.result) ≡ G i = back w64 _ c.with_diagonal-last.type_inv
    ∙ c.with_diagonal-last.ensures
    ∙ rw (
      reads w64 (c.loop-j.invariant.1.recovered.small.small c.loop-j.j) tt,
      row-sign g.After-sign_at-d,
      value g.After-undone_whole-z,
    ) in
    let h = rw (value g.After-undone_whole-z) at c.in_ok-keep.ensures in
    let l = c.loop-j in (
      (let b = c.loop-j-test.true in omega arith),
      rw (h.put refl, s)
          (undoing-next c.requires.0 l.invariant.1 (inside i) (inside i) (turn i) (kept-yes h refl)),
      ap (λ (z : ℕ). z + l.j) l.invariant.2 ∙ lower-next c.args.fb l.j c.requires.1,
      s ∙ sym (rw s (recent-next _ (λ t. t) l.j
          ∙ set_at l.v l.j (G i) (omega (arith, column i, l.invariant.1.recovered.long)))),
    )

pub returns : goal.returns
returns c =
    undoing_ends c.requires.0 c.loop-j.invariant.1 c.args.to (let a = c.loop-j.invariant.0 in omega arith)
