-- Row m itself goes in after the others (`column-rows`).
use Rattle.std.proofs.Common.{◌∙◌, suc, ◌+◌, ◌*◌, ◌≤◌, mul-le-mul, arith, to_z-of_z}
use Rattle.joint.specs.Sums.{rest-sums-small, column-rows}
use Rattle.joint.proofs.sums.column_sums.Goals as goal
use Rattle.joint.proofs.sums.column_sums.Goals.{Start}

room : (s : Start) → s.args.m * s.args.n + s.args.n ≤ 256
room s =
    let d : suc s.args.m ≤ 16 = let h = s.requires.0.row.right in omega arith in
    omega (arith, mul-le-mul d s.requires.1)

pub add_row-requires : goal.add_row-requires
add_row-requires c =
    rw (c.rest_sums.ensures, to_z-of_z c.ranges.diagonal)
    (c.requires.1, room (goal.at.add_row-requires c).Start, c.requires.0.small, c.requires.2, rest-sums-small c.args.n c.requires.0.row c.requires.2)

pub returns : goal.returns
returns c =
    c.add_row.ensures ∙ rw (c.rest_sums.ensures, to_z-of_z c.ranges.diagonal)
    (column-rows c.requires.0.row c.requires.1 c.requires.2 c.args.diagonal)
