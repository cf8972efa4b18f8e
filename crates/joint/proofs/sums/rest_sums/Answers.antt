-- The rows above, then the rows below (`rest-rows`).
use Rattle.std.proofs.Common.{◌∙◌}
use Rattle.joint.specs.Sums.{above, below, rest-rows}
use Rattle.joint.proofs.sums.rest_sums.Goals as goal

pub add_rows-requires : goal.add_rows-requires
add_rows-requires c = rw c.requires.3 (above c.requires.0 c.requires.1 c.requires.2)

pub add_rows-requires-2 : goal.add_rows-requires-2
add_rows-requires-2 c =
    rw (c.add_rows.ensures, c.requires.3) (below c.requires.0 c.requires.1 c.requires.2)

pub returns : goal.returns
returns c =
    c.add_rows-2.ensures ∙ rw (c.add_rows.ensures, c.requires.3) (rest-rows c.requires.0 c.requires.1 c.requires.2)
