-- Each shape is a line of `sign_by`, from the signs of its factors.
use Rattle.std.proofs.Common.{◌≡◌, ◌∙◌, ◌*ℤ◌, w32, to_z, of_z}
use Rattle.offender.specs.RefusedBounds.{first, in_row_lem, in_spot, sign-one}
use Rattle.offender.specs.RefusedStages.{sign_by, sign_of}
use Rattle.rules.specs.Shapes.{joint_sign}
use Rattle.whole.specs.Machine.{fits, reads, back, sign-within}
use Rattle.offender.proofs.weights.sign_at.Goals as goal
use Rattle.offender.proofs.weights.sign_at.Goals.{After-sign_of-in-Joint}

pub sign_of-requires : goal.sign_of-requires
sign_of-requires c =
    (first c.requires.0, in_row_lem c.requires.0 c.in-Joint.is c.args.e c.requires.1)

both : (c : After-sign_of-in-Joint) →
    to_z w32 (of_z w32 c.sign_of.result) *ℤ to_z w32 (of_z w32 c.sign_of-in-Joint.result) ≡ sign_of c.args.q
    c.args.col.now c.args.row.now c.args.e
unfolding sign_by joint_sign
both c =
    rw (
      back w32 _ c.sign_of.type_inv ∙ c.sign_of.ensures,
      back w32 _ c.sign_of-in-Joint.type_inv ∙ c.sign_of-in-Joint.ensures,
      c.in-Joint.is,
    )

pub overflow_mul-result : goal.overflow_mul-result
overflow_mul-result c =
    rw (both (goal.at.overflow_mul-result c).After-sign_of-in-Joint)
    (fits (sign-within (sign-one c.requires.0 c.args.e c.requires.1)) tt)

pub returns-in-Joint : goal.returns-in-Joint
returns-in-Joint c =
    rw (both (goal.at.returns-in-Joint c).After-sign_of-in-Joint)
    (reads w32 (sign-within (sign-one c.requires.0 c.args.e c.requires.1)) tt)

pub sign_of-requires-in-Pass : goal.sign_of-requires-in-Pass
sign_of-requires-in-Pass c =
    let l = in_spot c.requires.0 c.in-Pass.is c.args.e c.requires.1 in
    (first c.requires.0, rw c.spot_of.ensures l)
