-- The sum and its rounding fit 64 bits, and two signs are a sign.
use Rattle.std.proofs.Common.{◌≡◌, ◌∙◌, arith, ◌*ℤ◌, to_z-of_z, w32, w64, to_z, of_z}
use Rattle.factor.specs.Rounding.{rule_by, rounded-within}
use Rattle.rules.specs.Numbers.{unit²}
use Rattle.rules.specs.Stages.{R}
use Rattle.whole.specs.Laws.{signs-times}
use Rattle.whole.specs.Machine.{fits, back, within--, within-*, sign-within}
use Rattle.joint.proofs.elements.undone_whole.Goals as goal
use Rattle.joint.proofs.elements.undone_whole.Goals.{After-both_signs, After-round_joint}

sign : (c : After-both_signs) → to_z w32 (of_z w32 c.both_signs.result) ≡ c.args.d *ℤ c.args.e
sign c = back w32 _ c.both_signs.type_inv ∙ c.both_signs.ensures ∙ rw (to_z-of_z c.ranges.d, to_z-of_z c.ranges.e)

rounded : (c : After-round_joint) →
    to_z w64 (of_z w64 c.round_joint.result) ≡ R (rule_by c.args.down c.args.even) unit²
    c.args.s
rounded c = back w64 _ c.round_joint.type_inv ∙ c.round_joint.ensures.0 ∙ rw (to_z-of_z c.ranges.s)

pub undone-requires : goal.undone-requires
undone-requires c =
    let g = signs-times c.requires.1 c.requires.2 in
    let w = within-- c.requires.3 (rounded-within (rule_by c.args.down c.args.even) unit² (omega arith) (omega arith)
    c.requires.0) in
    rw (sign (goal.at.undone-requires c).After-both_signs, rounded (goal.at.undone-requires c).After-round_joint, to_z-of_z c.ranges.x)
    (g, fits c.requires.3 tt, fits w tt, fits (within-* (sign-within g) w) tt)
