-- The layouts have the kind and the rows (`joint-turn`).
use Rattle.std.proofs.Common.{◌∙◌}
use Rattle.offender.specs.ElementTurns.{joint-turn}
use Rattle.offender.proofs.weights.joint_turn.Goals as goal

pub returns : goal.returns
returns c =
    c.turn_of.ensures
    ∙ (rw (c.in_row.ensures.0, c.in_row-2.ensures.0)
    (joint-turn c.requires.0 c.layout_at-f.ensures c.layout_at-g.ensures c.args.e))
