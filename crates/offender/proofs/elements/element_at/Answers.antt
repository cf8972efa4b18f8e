-- The sign, the number and the rounded sum are small, and so is what is made of them.
use Rattle.std.proofs.Common.{◌≡◌, ◌∙◌, ℤ, w32, w64, to_z, of_z}
use Rattle.offender.specs.RefusedBounds.{most_rounded, sign-one, rounded-small}
use Rattle.offender.specs.RefusedStages.{cells, scale_by, sign_of, weight_of}
use Rattle.rules.specs.Numbers.{bound, at}
use Rattle.rules.specs.Stages.{R, off, weighed}
use Rattle.whole.specs.Diff.{Within}
use Rattle.whole.specs.Machine.{fits, reads, back, within-+, within--, sign-within, within-sign}
use Rattle.whole.specs.Stated.{Sign}
use Rattle.offender.proofs.elements.element_at.Goals as goal
use Rattle.offender.proofs.elements.element_at.Goals.{After-rounded_sum-s, After-sign_at-d, Start}

-- the sign, the number and the rounded sum; what is known of them
abbrev D : Start → ℤ
D s = sign_of s.args.q s.args.col.now s.args.row.now s.args.e

abbrev S : Start → ℤ
S s =
    R s.args.rule (scale_by s.args.q.shape)
    (weighed (cells s.args.q) (off (weight_of s.args.q s.args.col.now s.args.row.now) s.args.e)
    s.args.x.now)

d-is : (s : Start) → Sign (D s)
d-is s = sign-one s.requires.0.stage s.args.e s.requires.1

x-small : (s : Start) → Within bound (at s.args.x.now s.args.e)
x-small s = s.requires.0.small.small s.args.e

s-small : (s : Start) → Within most_rounded (S s)
s-small s = rounded-small s.requires.0 s.args.e s.requires.1 s.args.rule

-- as they were read
d-read : (c : After-sign_at-d) → to_z w32 (of_z w32 c.sign_at-d.result) ≡ D c.before
d-read c = back w32 _ c.sign_at-d.type_inv ∙ c.sign_at-d.ensures

s_read : (c : After-rounded_sum-s) → to_z w64 (of_z w64 c.rounded_sum-s.result) ≡ S c.before.before
s_read c = back w64 _ c.rounded_sum-s.type_inv ∙ c.rounded_sum-s.ensures

pub undone-requires : goal.undone-requires
undone-requires c =
    let y = within-- (x-small (goal.at.undone-requires c).Start) (s-small (goal.at.undone-requires c).Start) in
    rw (d-read (goal.at.undone-requires c).After-sign_at-d, s_read (goal.at.undone-requires c).After-rounded_sum-s, reads w32 (x-small (goal.at.undone-requires c).Start) tt)
    (d-is (goal.at.undone-requires c).Start, fits (x-small (goal.at.undone-requires c).Start) tt, fits y tt, fits (within-sign (d-is (goal.at.undone-requires c).Start) y) tt)

pub applied-requires : goal.applied-requires
applied-requires c =
    let y = within-sign (d-is (goal.at.applied-requires c).Start) (x-small (goal.at.applied-requires c).Start) in
    rw (d-read (goal.at.applied-requires c).After-sign_at-d, s_read (goal.at.applied-requires c).After-rounded_sum-s, reads w32 (x-small (goal.at.applied-requires c).Start) tt)
    (fits (sign-within (d-is (goal.at.applied-requires c).Start)) tt, fits (x-small (goal.at.applied-requires c).Start) tt, fits y tt, fits (within-+ y (s-small (goal.at.applied-requires c).Start)) tt)
