-- The own term comes off the column's sum (`diagonal-first`), and what is left is small.
use Rattle.std.proofs.Common.{◌≡◌, ◌∙◌, ℤ, ◌-ℤ◌, ◌*ℤ◌, w32, w64, to_z, of_z}
use Rattle.joint.specs.Sums.{most_rest, diagonal-first}
use Rattle.rules.specs.Numbers.{at}
use Rattle.whole.specs.Diff.{Within}
use Rattle.whole.specs.Machine.{fits, reads, back, within--, within-*}
use Rattle.joint.proofs.sums.joint_sum.Goals as goal
use Rattle.joint.proofs.sums.joint_sum.Goals.{After-without, Start}

abbrev W : Start → ℤ
W s = at s.args.v.now s.args.m -ℤ (s.args.other *ℤ s.args.x)

small : (s : Start) → Within most_rest (W s)
small s = within-- (s.requires.2.small s.args.m) (within-* s.requires.1 s.requires.3)

pub without-requires : goal.without-requires
without-requires c =
    rw (reads w64 (c.requires.2.small c.args.m) tt, reads w32 c.requires.1 tt, reads w32 c.requires.3 tt) (
      fits c.requires.1 tt,
      fits c.requires.3 tt,
      fits (within-* c.requires.1 c.requires.3) tt,
      fits (small (goal.at.without-requires c).Start) tt,
    )

left :
    (c : After-without) →
    to_z w64 (of_z w64 c.without.result) ≡ at c.args.v.now c.args.m -ℤ (c.args.other *ℤ c.args.x)
left c =
    back w64 _ c.without.type_inv ∙ c.without.ensures
    ∙ rw (reads w64 (c.requires.2.small c.args.m) tt, reads w32 c.requires.1 tt, reads w32 c.requires.3 tt)

pub whole_sum-requires : goal.whole_sum-requires
whole_sum-requires c =
    rw (left (goal.at.whole_sum-requires c).After-without, reads w32 c.requires.0.small tt)
    (c.requires.0, c.requires.2, small (goal.at.whole_sum-requires c).Start)

pub returns : goal.returns
returns c =
    back w64 _ c.whole_sum.type_inv ∙ c.whole_sum.ensures
    ∙ rw (left (goal.at.returns c).After-without, reads w32 c.requires.0.small tt) (diagonal-first _ _ _ _ _ _ _)
