-- The entries of the row are as the sums ask (`lower-side`), and there are no others (`lower-rest`).
use Rattle.std.proofs.Common.{◌∙◌}
use Rattle.joint.specs.Triangles.{lower-side, lower-rest}
use Rattle.trianglerows.proofs.lower.LowerTriangle.rest_sums.Goals as goal

pub side_sums-requires : goal.side_sums-requires
side_sums-requires c =
    let h = c.requires.0 in
    (lower-side h.0 h.1 h.3 h.2 c.first.ensures c.requires.1, h.4)

pub returns : goal.returns
returns c =
    let h = c.requires.0 in
    c.side_sums.ensures ∙ lower-rest h.0 h.1 h.3 h.2 c.first.ensures c.requires.1
