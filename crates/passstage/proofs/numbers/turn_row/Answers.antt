-- The first l numbers are turned.
use Rattle.std.proofs.Common.{◌≡◌, sym, ◌+◌, arith, pos, ◌-ℤ◌, ◌*ℤ◌, to_z-of_z, w32, to_z, of_z}
use Rattle.factor.specs.Rounding.{sign_below, sign_above}
use Rattle.passstage.specs.RowLaws.{row-ahead, row_next, row-still}
use Rattle.rules.specs.Numbers.{at}
use Rattle.whole.specs.Machine.{fits, reads, within-sign}
use Rattle.passstage.proofs.numbers.turn_row.Goals as goal
use Rattle.passstage.proofs.numbers.turn_row.Goals.{In-loop-l}

-- the number, which is not turned yet, and the same turned
number : (c : In-loop-l) → let l = c.loop-l in
    to_z w32 (of_z w32 (at l.x (c.args.k + l.l))) ≡ at c.args.x.now (c.args.k + l.l)
number c =
    let l = c.loop-l in
    rw (row-ahead c.args.k l.l _ c.args.x.now l.invariant.1) (reads w32 (c.requires.small.small (c.args.k + l.l)) tt)

flips : (c : In-loop-l) → let z = at c.args.x.now
    (c.args.k + c.loop-l.l) in c.args.d *ℤ z ≡ pos 0 -ℤ z
flips c = sign_below _ c.requires.sign (rw (to_z-of_z c.ranges.d) at c.if-d-lt0.true)

pub overflow_sub-x : goal.overflow_sub-x
overflow_sub-x c =
    rw (number (goal.at.overflow_sub-x c).In-loop-l, sym (flips (goal.at.overflow_sub-x c).In-loop-l)) (fits (within-sign c.requires.sign (c.requires.small.small (c.args.k + c.loop-l.l))) tt)

pub loop-l-preserved : goal.loop-l-preserved
loop-l-preserved c =
    let l = c.loop-l in (
      omega arith,
      rw (
        number (goal.at.loop-l-preserved c).In-loop-l,
        sym (flips (goal.at.loop-l-preserved c).In-loop-l),
        reads w32 (within-sign c.requires.sign (c.requires.small.small (c.args.k + l.l))) tt,
        to_z-of_z c.ranges.d,
      ) (row_next c.args.k l.l (λ e. c.args.d *ℤ at c.args.x.now (c.args.k + e))
          c.args.x.now (rw (to_z-of_z c.ranges.d) at l.invariant.1)),
    )

pub returns-else-d-lt0 : goal.returns-else-d-lt0
returns-else-d-lt0 c =
    sym (row-still c.args.k c.args.w _ c.args.x.now
    (λ l. sign_above _ c.requires.sign (rw (to_z-of_z c.ranges.d) at c.if-d-lt0.false)))
