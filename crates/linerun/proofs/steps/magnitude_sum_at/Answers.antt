-- The sum so far is that of the first j magnitudes (`magnitudes_to`), and small; all of them are the row's (`along-columns`).
use Rattle.std.proofs.Common.{◌≡◌, ◌∙◌, ◌+◌, ◌<◌, arith, w32, to_z, of_z}
use Rattle.factor.specs.Magnitudes.{magnitude_at}
use Rattle.linerun.specs.RowColumns.{along-columns, column-below, magnitude-within, magnitudes-within}
use Rattle.rules.specs.Numbers.{most_order}
use Rattle.whole.specs.Machine.{fits, reads, back, within-+, within-*}
use Rattle.linerun.proofs.steps.magnitude_sum_at.Goals as goal
use Rattle.linerun.proofs.steps.magnitude_sum_at.Goals.{After-column_of, After-magnitude}

-- the magnitude, and its column
value : (c : After-magnitude) →
    to_z w32 (of_z w32 c.magnitude.result) ≡ magnitude_at c.args.sheet.now (c.args.r.at + c.loop-j.j)
value c =
    let h = c.requires.0.entries c.loop-j.j c.loop-j-test.true in
    back w32 _ c.magnitude.type_inv ∙ c.magnitude.ensures ∙ rw (reads w32 h tt)

below : (c : After-column_of) → c.column_of.result < most_order
below c =
    rw c.column_of.ensures
    (column-below c.requires.0 c.loop-j.j c.loop-j-test.true)

pub offset_bounds-b-column_of : goal.offset_bounds-b-column_of
offset_bounds-b-column_of c = omega (arith, below (goal.at.offset_bounds-b-column_of c).After-column_of)

pub bounds-b-column_of : goal.bounds-b-column_of
bounds-b-column_of c = below (goal.at.bounds-b-column_of c).After-column_of

pub with_term-sum-requires : goal.with_term-sum-requires
with_term-sum-requires c =
    let l = c.loop-j in
    let a = magnitude-within c.requires.0 l.j c.loop-j-test.true in
    let x = c.requires.1.small c.column_of.result in
    let t = magnitudes-within c.requires.0 l.j c.requires.1 (omega arith) in
    rw (l.invariant, value (goal.at.with_term-sum-requires c).After-magnitude, reads w32 x tt)
    (fits a tt, fits x tt, fits (within-* a x) tt, fits (within-+ t (within-* a x)) tt)

pub returns : goal.returns
returns c =
    let l = c.loop-j in
    let e : l.j ≡ c.args.r.left + c.args.r.right = omega arith in
    rw (l.invariant, e)
    (along-columns c.args.r c.args.m (magnitude_at c.args.sheet.now) c.args.b.now)
