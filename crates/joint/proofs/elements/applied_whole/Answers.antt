-- The own number comes back out of the rounding (`own-term`).
use Rattle.std.proofs.Common.{◌≡◌, ◌∙◌, ◌*ℤ◌, to_z-of_z, w64, to_z, of_z}
use Rattle.joint.specs.Elements.{applied_from, own-term}
use Rattle.whole.specs.Machine.{back}
use Rattle.joint.proofs.elements.applied_whole.Goals as goal
use Rattle.joint.proofs.elements.applied_whole.Goals.{After-own}

own : (c : After-own) → to_z w64 (of_z w64 c.own.result) ≡ (c.args.d *ℤ c.args.e) *ℤ c.args.x
own c = back w64 _ c.own.type_inv ∙ c.own.ensures ∙ rw (to_z-of_z c.ranges.d, to_z-of_z c.ranges.e, to_z-of_z c.ranges.x)

pub returns : goal.returns
unfolding applied_from
returns c =
    back w64 _ c.round_past.type_inv ∙ c.round_past.ensures
    ∙ rw (own (goal.at.returns c).After-own, to_z-of_z c.ranges.s, own-term c.args.d c.args.e c.args.x)
