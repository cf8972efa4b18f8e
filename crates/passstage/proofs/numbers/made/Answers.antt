-- A sign by its test; a number and the rounded sum are small, and so is what is made of them.
use Rattle.std.proofs.Common.{to_z-of_z, w32}
use Rattle.passstage.specs.RowLaws.{made-below, made-back, made-forth}
use Rattle.whole.specs.Machine.{within-+, within--, reads}
use Rattle.passstage.proofs.numbers.made.Goals as goal

pub returns-then-d-lt0 : goal.returns-then-d-lt0
returns-then-d-lt0 c =
    rw (to_z-of_z c.ranges.q, to_z-of_z c.ranges.x, reads w32 (within-- c.requires.2 c.requires.1) tt)
    (made-below c.args.back c.args.x c.args.q c.requires.0 (rw (to_z-of_z c.ranges.d) at c.if-d-lt0.true))

pub returns-then-back : goal.returns-then-back
returns-then-back c =
    rw (to_z-of_z c.ranges.q, to_z-of_z c.ranges.x, reads w32 (within-- c.requires.1 c.requires.2) tt, c.if-back.true)
    (made-back c.args.x c.args.q c.requires.0 (rw (to_z-of_z c.ranges.d) at c.if-d-lt0.false))

pub returns-else-back : goal.returns-else-back
returns-else-back c =
    rw (to_z-of_z c.ranges.q, to_z-of_z c.ranges.x, reads w32 (within-+ c.requires.1 c.requires.2) tt, c.if-back.false)
    (made-forth c.args.x c.args.q c.requires.0 (rw (to_z-of_z c.ranges.d) at c.if-d-lt0.false))
