-- All columns at once, the own terms first, or by fours: the sums start from nothing.
use Rattle.std.proofs.Common.{◌∙◌, arith, pos, replicate, to_z-of_z}
use Rattle.joint.specs.Sums.{side-adding, own-small, added_twice}
use Rattle.rules.proofs.Laws.Lists.{length-fill}
use Rattle.joint.proofs.sums.side_sums_with.Goals as goal

pub add_rows-requires : goal.add_rows-requires
add_rows-requires c =
    let n = c.args.n in
    rw (c.add_row.ensures, c.requires.1, to_z-of_z c.ranges.diagonal)
    (side-adding c.requires.0 c.args.k n 1 (omega arith) (omega (arith, c.requires.2)) c.requires.0.wide
    (own-small n c.args.o c.requires.0.wide c.requires.0.numbers c.requires.4) (length-fill n _ (replicate 16 (pos 0))))

pub returns-else-is_by_fours : goal.returns-else-is_by_fours
returns-else-is_by_fours c =
    c.add_rows.ensures
    ∙ rw (c.add_row.ensures, c.requires.1, to_z-of_z c.ranges.diagonal)
    (added_twice c.args.n _ _ (replicate 16 (pos 0)) c.requires.0.wide)
