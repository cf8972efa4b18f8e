-- The first 4 g columns are done, the others are 0 (`four-more`).
use Rattle.std.proofs.Common.{refl, ◌∙◌, ◌+◌, ◌*◌, ◌≤◌, arith, pos, replicate}
use native.Mathlib.Nat.{div-add-mod}
use Rattle.joint.specs.Sums.{Adding, rows_sum, side-four, nothing, four-rows, four-more, adding-all-small}
use Rattle.rules.proofs.Laws.Lists.{fill-same}
use Rattle.joint.proofs.sums.sums_by_fours.Goals as goal
use Rattle.joint.proofs.sums.sums_by_fours.Goals.{In-loop-g}

-- the columns of this turn
columns : (i : In-loop-g) → 4 * i.loop-g.g + 4 ≤ i.args.n
columns i = omega (arith, div-add-mod i.args.n 4, i.loop-g.invariant.1, i.loop-g-test.true)

-- their rows
rows :
    (i : In-loop-g) →
    let s = i.args in
    Adding s.a.now s.p s.m s.x.now (s.k + 4 * i.loop-g.g) s.n 4 (replicate 16 (pos 0))
rows i =
    let h = i.requires.0 in
    side-four h (4 * i.loop-g.g) 0 (columns i) (omega (arith, h.few)) (nothing 16) refl

pub add_rows-requires : goal.add_rows-requires
add_rows-requires c = rows (goal.at.add_rows-requires c).In-loop-g

pub put_four-requires : goal.put_four-requires
put_four-requires c =
    (omega (arith, columns (goal.at.put_four-requires c).In-loop-g, c.requires.0.wide), rw c.add_rows.ensures (adding-all-small (rows (goal.at.put_four-requires c).In-loop-g)))

pub loop-g-preserved : goal.loop-g-preserved
loop-g-preserved c =
    let s = c.args in
    let g = c.loop-g.g in (
      omega (arith, c.loop-g.invariant.1, c.loop-g-test.true),
      refl,
      c.put_four.ensures
          ∙ four-more (rows_sum s.a.now s.p s.m s.x.now s.k s.n) g _ _
          (c.add_rows.ensures
          ∙ fill-same 4 _ _ (replicate 16 (pos 0))
          (λ d b. rw (four-rows s.a.now s.p s.m s.x.now s.k s.n (4 * g) d)))
          c.loop-g.invariant.2,
    )
