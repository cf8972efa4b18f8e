-- Each shape is a line of `weight_by`, from the matrices of its factors.
use Rattle.std.proofs.Common.{◌≡◌, ◌∙◌, ◌*ℤ◌, w64, to_z, of_z}
use Rattle.offender.specs.RefusedBounds.{first, in_row_lem, in-pass, weight-small}
use Rattle.offender.specs.RefusedStages.{weight_by, weight_of}
use Rattle.rules.specs.Shapes.{joint_weight}
use Rattle.whole.specs.Machine.{fits, reads, back}
use Rattle.offender.proofs.weights.weight_at.Goals as goal
use Rattle.offender.proofs.weights.weight_at.Goals.{After-matrix_at-in-Joint}

pub matrix_at-requires : goal.matrix_at-requires
matrix_at-requires c =
    let t = c.in-Joint.is in
    (first c.requires.0, in_row_lem c.requires.0 t c.args.e c.requires.1, in_row_lem c.requires.0 t c.args.k c.requires.2)

both : (c : After-matrix_at-in-Joint) →
    to_z w64 (of_z w64 c.matrix_at.result) *ℤ to_z w64 (of_z w64 c.matrix_at-in-Joint.result) ≡ weight_of c.args.q
    c.args.col.now c.args.row.now c.args.e c.args.k
unfolding weight_by joint_weight
both c =
    rw (
      back w64 _ c.matrix_at.type_inv ∙ c.matrix_at.ensures,
      back w64 _ c.matrix_at-in-Joint.type_inv ∙ c.matrix_at-in-Joint.ensures,
      c.in-Joint.is,
    )

pub overflow_mul-result : goal.overflow_mul-result
overflow_mul-result c =
    rw (both (goal.at.overflow_mul-result c).After-matrix_at-in-Joint)
    (fits (weight-small c.requires.0 c.args.e c.args.k c.requires.1 c.requires.2) tt)

pub returns-in-Joint : goal.returns-in-Joint
returns-in-Joint c =
    rw (both (goal.at.returns-in-Joint c).After-matrix_at-in-Joint)
    (reads w64 (weight-small c.requires.0 c.args.e c.args.k c.requires.1 c.requires.2) tt)

pub pass_weight-requires : goal.pass_weight-requires
pass_weight-requires c =
    let t = c.in-Pass.is in
    let p = c.requires.0.placed in (
      first c.requires.0,
      p.some1,
      p.some2,
      in-pass c.requires.0 t c.args.e c.requires.1,
      in-pass c.requires.0 t c.args.k c.requires.2,
    )
