-- The block is as the turns so far leave it, and all of it is in bound.
use Rattle.std.proofs.Common.{refl, rules, ◌≡◌, sym, ◌∙◌, ◌+◌, ◌<◌, arith, ℤ, length, to_z-of_z, w32, w64, to_z, of_z}
use Rattle.factor.specs.Rounding.{rule_by}
use Rattle.factor.specs.SumBounds.{bounded-set, kept-no, kept-yes}
use Rattle.joint.specs.Elements.{sign_at, rest-element-small}
use Rattle.joint.specs.Triangles.{total_of, applied_in, applied-from, applied-in}
use Rattle.rules.specs.Numbers.{at}
use Rattle.singlerows.specs.SingleRowsInPlace.{row-through, row-beyond, turn-beyond, turn-next}
use Rattle.std.proofs.lemmas.Result.{err_from_is_err_and}
use Rattle.whole.specs.Machine.{reads, back}
use Rattle.singlerows.proofs.apply_elements.Goals as goal
use Rattle.singlerows.proofs.apply_elements.Goals.{After-applied_whole-z, After-crossing_total-s, After-sign_at, After-keep, In-loop-j}

-- the element in turn is one of the row
inside : (c : In-loop-j) → c.loop-j.j < c.args.f.order
inside c = c.loop-j-test.true

-- its sum, its sign and its number
total : (c : After-crossing_total-s) →
    to_z w64 (of_z w64 c.crossing_total-s.result) ≡ total_of c.args.row.now c.args.f c.loop-j.j c.args.v.now
total c = back w64 _ c.crossing_total-s.type_inv ∙ c.crossing_total-s.ensures

sign : (c : After-sign_at) → to_z w32 (of_z w32 c.sign_at.result) ≡ sign_at c.args.row.now c.args.f c.loop-j.j
sign c = back w32 _ c.sign_at.type_inv ∙ c.sign_at.ensures

number : (c : In-loop-j) →
    to_z w32 (of_z w32 (at c.loop-j.x (c.args.k + c.loop-j.j))) ≡ at c.loop-j.x (c.args.k + c.loop-j.j)
number c = reads w32 (c.loop-j.invariant.2.small _) tt

pub applied_whole-z-requires : goal.applied_whole-z-requires
applied_whole-z-requires c =
    let g = goal.at.applied_whole-z-requires c in
    let l = c.loop-j in
    rw (total g.After-crossing_total-s, sign g.After-sign_at, number g.In-loop-j, to_z-of_z c.ranges.d) (
      rest-element-small c.requires.0.0 l.j (inside g.In-loop-j) c.requires.0.2,
      c.requires.0.1,
      c.requires.0.0.sign l.j (inside g.In-loop-j),
      l.invariant.2.small _,
    )

-- what it becomes
abbrev F : In-loop-j → ℤ
F c =
    let a = c.args in
    applied_in (rule_by a.down a.even) a.row.now a.f (to_z w32 (of_z w32 a.d)) a.v.now a.k c.loop-j.x
    (a.k + c.loop-j.j)

value : (c : After-applied_whole-z) →
    to_z w64 (of_z w64 c.applied_whole-z.result) ≡ F c.before.before.before.before
value c =
    let a = c.args in
    let l = c.loop-j in
    back w64 _ c.applied_whole-z.type_inv ∙ c.applied_whole-z.ensures
    ∙ rw (total c.before.before.before, sign c.before.before, number c.before.before.before.before)
    (applied-from (rule_by a.down a.even) a.row.now a.f l.j (to_z w32 (of_z w32 a.d)) a.v.now
    (at l.x (a.k + l.j))
    ∙ sym (applied-in (rule_by a.down a.even) a.row.now a.f (to_z w32 (of_z w32 a.d)) a.v.now a.k l.j
    l.x))

long : (c : After-keep) → length c.keep.new.x ≡ length c.args.x.now
long c = search rules

pub returns-in_err-keep : goal.returns-in_err-keep
returns-in_err-keep c =
    let g = goal.at.returns-in_err-keep c in
    let l = c.loop-j in
    rw (err_from_is_err_and c.from_residual.result c.from_residual.ensures.1).1
    (row-beyond (long g.After-keep)
    (rw (to_z-of_z c.ranges.d) at
    (turn-beyond _ (λ u. c.args.k + u) l.j c.args.x.now c.loop-j-test.true l.invariant.1
    (kept-no (rw (value g.After-applied_whole-z) at c.in_err-keep.ensures) refl))))

pub loop-j-preserved : goal.loop-j-preserved
loop-j-preserved c =
    let l = c.loop-j in
    let h = rw (value (goal.at.loop-j-preserved c).After-applied_whole-z) at c.in_ok-keep.ensures in
    rw (h.put refl) (
      omega arith,
      turn-next _ (λ u. c.args.k + u) l.j c.args.x.now l.invariant.1,
      bounded-set l.x (c.args.k + l.j) l.invariant.2 (kept-yes h refl),
    )

pub returns : goal.returns
returns c =
    let l = c.loop-j in
    let e : l.j ≡ c.args.f.order = omega arith in
    row-through (rw (to_z-of_z c.ranges.d, e) at l.invariant.1) l.invariant.2
