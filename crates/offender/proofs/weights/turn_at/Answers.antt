-- One turn, or each shape a line of `turn_by`.
use Rattle.offender.specs.RefusedBounds.{small, in-joint, in-pass}
use Rattle.offender.proofs.weights.turn_at.Goals as goal

pub joint_turn-requires : goal.joint_turn-requires
joint_turn-requires c =
    let t = c.in-Joint.is in
    (c.requires.0.placed.pair t, in-joint c.requires.0 t c.args.e c.requires.1)

pub pass_turn-requires : goal.pass_turn-requires
pass_turn-requires c =
    let p = c.requires.0.placed in (
      small p,
      p.column,
      p.some1,
      p.some2,
      in-pass c.requires.0 c.in-Pass.is c.args.e c.requires.1,
    )
