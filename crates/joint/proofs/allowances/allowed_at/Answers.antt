-- The sum with magnitudes, raised, and the share are small, and so is what is made of them.
use Rattle.std.proofs.Common.{◌≡◌, ◌∙◌, ◌+◌, ◌-◌, ℤ, to_z-of_z, w64, to_z, of_z}
use Rattle.joint.specs.Allowances.{magnitude_sum, whole_row, share_of, magnitude-sum-small, share-small}
use Rattle.joint.specs.Elements.{most_joint}
use Rattle.rules.specs.Numbers.{unit²}
use Rattle.rules.specs.Stages.{ceiling}
use Rattle.whole.specs.Diff.{Within}
use Rattle.whole.specs.Machine.{fits, back, within-+, within-pos, within-shr}
use Rattle.joint.proofs.allowances.allowed_at.Goals as goal
use Rattle.joint.proofs.allowances.allowed_at.Goals.{After-magnitude_sum_at, After-raise_joint, After-share_unless_whole, Start}

abbrev S : Start → ℤ
S s = magnitude_sum s.args.row.now s.args.f s.args.j s.args.v.now s.args.b

small : (s : Start) → Within most_joint (S s)
small s = magnitude-sum-small s.requires.0 s.args.j s.requires.1 s.requires.2 s.requires.3

value : (c : After-magnitude_sum_at) → to_z w64 (of_z w64 c.magnitude_sum_at.result) ≡ S c.before
value c = back w64 _ c.magnitude_sum_at.type_inv ∙ c.magnitude_sum_at.ensures ∙ rw (to_z-of_z c.ranges.b)

quotient-small : (s : Start) → Within (most_joint + (unit² - 1)) (ceiling unit² (S s))
unfolding ceiling
quotient-small s = within-shr unit² (within-+ (small s) (within-pos (unit² - 1)))

pub raise_joint-requires : goal.raise_joint-requires
raise_joint-requires c =
    let t = small (goal.at.raise_joint-requires c).Start in
    rw (value (goal.at.raise_joint-requires c).After-magnitude_sum_at) (fits (within-+ t (within-pos (unit² - 1))) tt, fits (quotient-small (goal.at.raise_joint-requires c).Start) tt)

quotient : (c : After-raise_joint) →
    to_z w64 (of_z w64 c.raise_joint.result) ≡ ceiling unit² (S c.before.before)
quotient c = back w64 _ c.raise_joint.type_inv ∙ c.raise_joint.ensures ∙ rw (value c.before)

share : (c : After-share_unless_whole) →
    to_z w64 (of_z w64 c.share_unless_whole.result) ≡ share_of c.args.rule
    c.args.whole (whole_row c.args.row.now
    c.args.f c.args.j)
share c = back w64 _ c.share_unless_whole.type_inv ∙ c.share_unless_whole.ensures ∙ rw c.is_whole_row.ensures

pub raised-requires : goal.raised-requires
raised-requires c =
    let b = c.requires.3 in
    let u = quotient-small (goal.at.raised-requires c).Start in
    let w = share-small c.args.rule c.args.whole (whole_row c.args.row.now c.args.f c.args.j) in
    rw (quotient (goal.at.raised-requires c).After-raise_joint, share (goal.at.raised-requires c).After-share_unless_whole, to_z-of_z c.ranges.b)
    (fits b tt, fits (within-+ b u) tt, fits (within-+ (within-+ b u) w) tt)
