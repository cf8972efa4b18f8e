-- The sum is small (`sum-small`), and the shape says at which scale it is rounded.
use Rattle.std.proofs.Common.{◌≡◌, ap, ◌∙◌, arith, w64, to_z, of_z}
use Rattle.factor.specs.Rounding.{most_roundable, by_tests}
use Rattle.offender.specs.RefusedBounds.{sum-small}
use Rattle.offender.specs.RefusedStages.{cells, scale_by, weight_of}
use Rattle.rules.specs.Stages.{off, weighed}
use Rattle.whole.specs.Diff.{Within}
use Rattle.whole.specs.Machine.{back, within-le}
use Rattle.offender.proofs.elements.rounded_sum.Goals as goal
use Rattle.offender.proofs.elements.rounded_sum.Goals.{After-off_sum-s}

-- the sum, as it was read
sum : (c : After-off_sum-s) →
    to_z w64 (of_z w64 c.off_sum-s.result) ≡ weighed (cells c.args.q)
    (off (weight_of c.args.q c.args.col.now c.args.row.now) c.args.e) c.args.x.now
sum c = back w64 _ c.off_sum-s.type_inv ∙ c.off_sum-s.ensures

roundable : (c : After-off_sum-s) → Within most_roundable (to_z w64 (of_z w64 c.off_sum-s.result))
roundable c =
    rw (sum c) (within-le (omega arith) (sum-small c.requires.0 c.args.e c.requires.1))

pub round_joint-requires : goal.round_joint-requires
round_joint-requires c = roundable (goal.at.round_joint-requires c).After-off_sum-s

pub returns-in-Joint : goal.returns-in-Joint
unfolding scale_by
returns-in-Joint c =
    rw (ap scale_by c.in-Joint.is)
    (back w64 _ c.round_joint.type_inv
    ∙ (rw (sum (goal.at.returns-in-Joint c).After-off_sum-s, c.is_down-down.ensures, c.is_even-even.ensures, by_tests c.args.rule) at
    c.round_joint.ensures.0))

pub round_line-requires : goal.round_line-requires
round_line-requires c = roundable (goal.at.round_line-requires c).After-off_sum-s

pub returns-in-Pass : goal.returns-in-Pass
unfolding scale_by
returns-in-Pass c =
    rw (ap scale_by c.in-Pass.is)
    (back w64 _ c.round_line.type_inv
    ∙ (rw (sum (goal.at.returns-in-Pass c).After-off_sum-s, c.is_down-down.ensures, c.is_even-even.ensures, by_tests c.args.rule) at
    c.round_line.ensures.0))
