-- Beside column q there are no entries (`total-beside`).
use Rattle.std.proofs.Common.{◌≡◌, ◌∙◌, w32, w64, to_z, of_z}
use Rattle.joint.specs.Elements.{sign_at}
use Rattle.singlerows.specs.SingleRows.{total-beside}
use Rattle.whole.specs.Machine.{reads, back}
use Rattle.singlerows.proofs.crossing_total.Goals as goal
use Rattle.singlerows.proofs.crossing_total.Goals.{After-sign_at}

sign : (c : After-sign_at) → to_z w32 (of_z w32 c.sign_at.result) ≡ sign_at c.args.row.now c.args.f c.args.j
sign c = back w32 _ c.sign_at.type_inv ∙ c.sign_at.ensures

pub returns : goal.returns
returns c =
    back w64 _ c.with_diagonal.type_inv ∙ c.with_diagonal.ensures
    ∙ rw (sign (goal.at.returns c).After-sign_at, reads w64 (c.requires.0.2.small c.args.j) tt)
    (total-beside c.args.row.now c.args.f c.args.j c.args.v.now c.requires.1
    c.if-j-q.false)
