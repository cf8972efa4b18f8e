-- The first 4 g columns are done, the others are 0 (`four-more`).
use Rattle.std.proofs.Common.{refl, ◌∙◌, ◌+◌, ◌*◌, ◌≤◌, arith, pos, ◌*ℤ◌, replicate, to_z-of_z}
use native.Mathlib.Nat.{div-add-mod}
use Rattle.joint.specs.Sums.{Adding, added, side_with, side-four, own-small, four-with, four-more, adding-all-small}
use Rattle.rules.proofs.Laws.Lists.{length-fill}
use Rattle.rules.specs.Numbers.{at}
use Rattle.joint.proofs.sums.sums_by_fours_with.Goals as goal
use Rattle.joint.proofs.sums.sums_by_fours_with.Goals.{In-loop-g}

-- the columns of this turn
columns : (i : In-loop-g) → 4 * i.loop-g.g + 4 ≤ i.args.n
columns i = omega (arith, div-add-mod i.args.n 4, i.loop-g.invariant.1, i.loop-g-test.true)

-- their rows, once the own terms are in their sums
rows :
    (i : In-loop-g) →
    let s = i.args in
    let g = i.loop-g.g in
    Adding s.a.now s.p s.m s.x.now (s.k + 4 * g) s.n 4
    (added 4 (λ c. s.diagonal *ℤ at s.x.now (s.o + 4 * g + c)) (replicate 16 (pos 0)))
rows i =
    let h = i.requires.0 in
    let g = i.loop-g.g in
    side-four h (4 * g) 1 (columns i) (omega (arith, i.requires.2))
    (own-small 4 (i.args.o + 4 * g) (omega arith) h.numbers i.requires.4)
    (length-fill 4 _ (replicate 16 (pos 0)))

pub add_rows-requires : goal.add_rows-requires
add_rows-requires c =
    rw (c.add_row.ensures, to_z-of_z c.ranges.diagonal) (rows (goal.at.add_rows-requires c).In-loop-g)

pub put_four-requires : goal.put_four-requires
put_four-requires c = (
  omega (arith, columns (goal.at.put_four-requires c).In-loop-g, c.requires.0.wide),
  rw (c.add_rows.ensures, c.add_row.ensures, to_z-of_z c.ranges.diagonal) (adding-all-small (rows (goal.at.put_four-requires c).In-loop-g)),
)

pub loop-g-preserved : goal.loop-g-preserved
loop-g-preserved c =
    let s = c.args in
    let d = to_z-of_z c.ranges.diagonal in
    let g = c.loop-g.g in (
      omega (arith, c.loop-g.invariant.1, c.loop-g-test.true),
      refl,
      rw d (c.put_four.ensures
          ∙ four-more (side_with s.a.now s.p s.m s.x.now s.k s.n s.diagonal s.o) g _ _
          (c.add_rows.ensures ∙ rw (c.add_row.ensures, d)
          (four-with s.a.now s.p s.m s.x.now s.k s.n s.diagonal s.o (4 * g)))
          (rw d at c.loop-g.invariant.2)),
    )
