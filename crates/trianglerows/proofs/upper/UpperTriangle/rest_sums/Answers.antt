-- The entries of the row are as the sums ask (`upper-side`), and there are no others (`upper-rest`).
use Rattle.std.proofs.Common.{refl, ◌∙◌}
use Rattle.joint.specs.Triangles.{upper-side, upper-rest}
use Rattle.trianglerows.proofs.upper.UpperTriangle.rest_sums.Goals as goal

pub side_sums-requires : goal.side_sums-requires
side_sums-requires c =
    let h = c.requires.0 in
    (upper-side h.0 h.1 h.3 h.2 c.first.ensures c.requires.1 refl, h.4)

pub returns : goal.returns
returns c =
    let h = c.requires.0 in
    c.side_sums.ensures ∙ upper-rest h.0 h.1 h.3 h.2 c.first.ensures c.requires.1 refl
