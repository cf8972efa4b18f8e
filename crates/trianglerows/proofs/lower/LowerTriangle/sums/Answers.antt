-- The entries of the row are as the sums ask (`lower-side`). With the row's own numbers they make its sums (`with-own`).
use Rattle.std.proofs.Common.{◌≡◌, ap, ◌∙◌, ◌+◌, ◌*◌, ◌≤◌, arith, w32, to_z, of_z}
use Rattle.joint.specs.Elements.{sign_at, diagonal_of, diagonal-small}
use Rattle.joint.specs.RowsInPlace.{row_room}
use Rattle.joint.specs.Triangles.{lower-side, lower-rest, with-own}
use Rattle.whole.specs.Machine.{back}
use Rattle.trianglerows.proofs.lower.LowerTriangle.sums.Goals as goal
use Rattle.trianglerows.proofs.lower.LowerTriangle.sums.Goals.{After-diagonal_of, After-sign_at, Start}

-- the row lies in the block
room : (s : Start) → s.args.i * s.args.n + s.args.n ≤ 256
room s = row_room s.requires.0.0.order s.requires.0.2 s.requires.0.1

sign : (c : After-sign_at) →
    to_z w32 (of_z w32 c.sign_at.result) ≡ sign_at c.args.col.now c.args.f c.args.i
sign c = back w32 _ c.sign_at.type_inv ∙ c.sign_at.ensures

diagonal : (c : After-diagonal_of) →
    to_z w32 (of_z w32 c.diagonal_of.result) ≡ diagonal_of (sign_at c.args.col.now c.args.f c.args.i)
diagonal c = back w32 _ c.diagonal_of.type_inv ∙ c.diagonal_of.ensures ∙ ap diagonal_of (sign c.before)

pub side_sums_with-requires : goal.side_sums_with-requires
side_sums_with-requires c =
    let h = c.requires.0 in
    rw (diagonal (goal.at.side_sums_with-requires c).After-diagonal_of) (
      lower-side h.0 h.1 h.3 h.2 c.first.ensures c.requires.1,
      h.4,
      (let l = h.1 in let e = h.0.order in omega arith),
      room (goal.at.side_sums_with-requires c).Start,
      diagonal-small (h.0.sign c.args.i h.1),
    )

pub returns : goal.returns
returns c =
    let h = c.requires.0 in
    c.side_sums_with.ensures
    ∙ rw (diagonal (goal.at.returns c).After-diagonal_of)
    (with-own h.0 h.1 h.3 h.2 c.first.ensures c.args.i 0
    (lower-rest h.0 h.1 h.3 h.2 c.first.ensures c.requires.1))
