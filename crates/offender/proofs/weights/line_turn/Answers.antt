-- The layout has the kind and the row (`line-turn`).
use Rattle.std.proofs.Common.{◌∙◌}
use Rattle.offender.specs.ElementTurns.{line-turn}
use Rattle.offender.proofs.weights.line_turn.Goals as goal

pub returns : goal.returns
returns c =
    c.turn_of.ensures ∙ (rw c.in_row.ensures.0 (line-turn c.requires.0 c.layout_at-f.ensures c.args.m))
