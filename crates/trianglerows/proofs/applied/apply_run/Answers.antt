-- The block is as the turns so far leave it, all of it is in bound, and the entries of the element in turn start at p.
use Rattle.std.proofs.Common.{refl, rules, ◌≡◌, sym, ap, ◌∙◌, ◌+◌, ◌-◌, ◌<◌, arith, ℤ, length, to_z-of_z, w32, w64, to_z, of_z}
use Rattle.factor.specs.InPlace.{length-in-place}
use Rattle.factor.specs.Rounding.{rule_by}
use Rattle.factor.specs.SumBounds.{bounded-set, kept-no, kept-yes}
use Rattle.joint.specs.Elements.{sign_at, rest-element-small}
use Rattle.joint.specs.RowsInPlace.{run-next, run-stops}
use Rattle.joint.specs.Triangles.{total_of, applied_in, applied-from, applied-in}
use Rattle.laws.specs.Tests.{apart}
use Rattle.rules.specs.Numbers.{at}
use Rattle.std.proofs.lemmas.Result.{err_from_is_err_and}
use Rattle.whole.specs.Machine.{reads, back}
use Rattle.trianglerows.proofs.applied.apply_run.Goals as goal
use Rattle.trianglerows.proofs.applied.apply_run.Goals.{After-applied_whole-z, After-sign_at, After-total-s, After-keep, In-loop-j}

-- the element in turn is one of the row
inside : (g : _) (c : In-loop-j g) → c.loop-j.j < c.args.f.order
inside g c = let h = c.loop-j-test.true in let l = c.requires.3 in omega arith

-- its sum, its sign and its number
total : (g : _) (c : After-total-s g) →
    to_z w64 (of_z w64 c.total-s.result) ≡ total_of c.args.row.now c.args.f c.loop-j.j c.args.v.now
total g c = back w64 _ c.total-s.type_inv ∙ c.total-s.ensures

sign : (g : _) (c : After-sign_at g) →
    to_z w32 (of_z w32 c.sign_at.result) ≡ sign_at c.args.row.now c.args.f c.loop-j.j
sign g c = back w32 _ c.sign_at.type_inv ∙ c.sign_at.ensures

number : (g : _) (c : In-loop-j g) →
    to_z w32 (of_z w32 (at c.loop-j.x (c.args.k + c.loop-j.j))) ≡ at c.loop-j.x (c.args.k + c.loop-j.j)
number g c = reads w32 (c.loop-j.invariant.3.small _) tt

pub applied_whole-z-requires : goal.applied_whole-z-requires
applied_whole-z-requires g c =
    let h = goal.at.applied_whole-z-requires g c in
    let l = c.loop-j in
    rw (total g h.After-total-s, sign g h.After-sign_at, number g h.In-loop-j, to_z-of_z c.ranges.d) (
      rest-element-small c.requires.0.0 l.j (inside g h.In-loop-j) c.requires.0.2,
      c.requires.0.1,
      c.requires.0.0.sign l.j (inside g h.In-loop-j),
      l.invariant.3.small _,
    )

-- what it becomes
abbrev F : (g : _) → In-loop-j g → ℤ
F g c =
    let a = c.args in
    applied_in (rule_by a.down a.even) a.row.now a.f (to_z w32 (of_z w32 a.d)) a.v.now a.k c.loop-j.x (a.k + c.loop-j.j)

value : (g : _) (c : After-applied_whole-z g) →
    to_z w64 (of_z w64 c.applied_whole-z.result) ≡ F g c.before.before.before.before
value g c =
    let a = c.args in
    let l = c.loop-j in
    back w64 _ c.applied_whole-z.type_inv ∙ c.applied_whole-z.ensures
    ∙ rw (total g c.before.before.before, sign g c.before.before, number g c.before.before.before.before)
    (applied-from (rule_by a.down a.even) a.row.now a.f l.j (to_z w32 (of_z w32 a.d)) a.v.now (at l.x (a.k + l.j))
    ∙ sym (applied-in (rule_by a.down a.even) a.row.now a.f (to_z w32 (of_z w32 a.d)) a.v.now a.k l.j l.x))

long : (g : _) (c : After-keep g) → length c.keep.new.x ≡ length c.args.x.now
long g c = search rules

pub returns-in_err-keep : goal.returns-in_err-keep
returns-in_err-keep g c =
    let h = goal.at.returns-in_err-keep g c in
    let a = c.args in
    let l = c.loop-j in
    rw (err_from_is_err_and c.from_residual.result c.from_residual.ensures.1).1 (record {
      through = λ e. apart (sym e);
      stopped = λ e.
          rw (to_z-of_z c.ranges.d) at
          (run-stops _ (λ u. a.k + u) a.from a.to l.j a.x.now l.invariant.0 c.loop-j-test.true l.invariant.2
          (kept-no (rw (value g h.After-applied_whole-z) at c.in_err-keep.ensures) refl));
      keeps = long g h.After-keep;
    })

pub loop-j-preserved : goal.loop-j-preserved
loop-j-preserved g c =
    let a = c.args in
    let l = c.loop-j in
    let h = rw (value g (goal.at.loop-j-preserved g c).After-applied_whole-z) at c.in_ok-keep.ensures in
    rw (h.put refl) (
      (let b = l.invariant.0 in omega arith),
      (let b = c.loop-j-test.true in omega arith),
      run-next _ (λ u. a.k + u) a.from l.j a.x.now l.invariant.0 l.invariant.2,
      bounded-set l.x (a.k + l.j) l.invariant.3 (kept-yes h refl),
      c.next-p.ensures,
    )

pub returns : goal.returns
returns g c =
    let l = c.loop-j in
    let e : l.j ≡ c.args.to = let a = l.invariant.1 in omega arith in
    record {
      through = λ t. (rw (to_z-of_z c.ranges.d, e) at l.invariant.2, l.invariant.3);
      stopped = λ t. apart t;
      keeps = ap length l.invariant.2 ∙ length-in-place _ _ (l.j - c.args.from) _;
    }
