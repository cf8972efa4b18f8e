-- The two runs of entries and the own term are small together (`across-small`).
use Rattle.std.proofs.Common.{◌≡◌, ◌∙◌, ap₂, ◌+ℤ◌, w32, w64, to_z, of_z, ◌*◌}
use Rattle.joint.specs.Sums.{entries_sum, most_column, right-wide, wide_runs, entries-small}
use Rattle.rules.specs.Numbers.{at, most_entry}
use Rattle.whole.specs.Diff.{Within}
use Rattle.whole.specs.Machine.{fits, reads, back, within-+, within-*}
use Rattle.joint.proofs.sums.whole_sum.Goals as goal
use Rattle.joint.proofs.sums.whole_sum.Goals.{After-wide_sum-2, Start}

pub wide_sum-requires-2 : goal.wide_sum-requires-2
wide_sum-requires-2 c = right-wide c.requires.0 c.requires.1

value :
    (c : After-wide_sum-2) →
    to_z w64 (of_z w64 c.wide_sum.result) +ℤ to_z w64 (of_z w64 c.wide_sum-2.result)
    ≡ entries_sum c.args.a.now c.args.r c.args.m (at c.args.v.now)
value c =
    ap₂ ◌+ℤ◌ (back w64 _ c.wide_sum.type_inv ∙ c.wide_sum.ensures)
    (back w64 _ c.wide_sum-2.type_inv ∙ c.wide_sum-2.ensures)
    ∙ wide_runs c.args.a.now c.args.r c.args.m c.args.v.now

small : (s : Start) → Within (15 * (most_entry * most_column)) (entries_sum s.args.a.now s.args.r s.args.m (at s.args.v.now))
small s = entries-small s.requires.0 (at s.args.v.now) s.requires.1.small

pub overflow_add-sum : goal.overflow_add-sum
overflow_add-sum c =
    rw (value (goal.at.overflow_add-sum c).After-wide_sum-2) (fits (small (goal.at.overflow_add-sum c).Start) tt)

pub with_sum-requires : goal.with_sum-requires
with_sum-requires c =
    let a = c.requires.0.small in
    let w = c.requires.2 in
    let t = small (goal.at.with_sum-requires c).Start in
    rw (value (goal.at.with_sum-requires c).After-wide_sum-2, reads w64 t tt, reads w32 a tt, reads w64 w tt)
    (fits a tt, fits (within-* a w) tt, fits (within-+ t (within-* a w)) tt)

pub returns : goal.returns
returns c =
    let t = small (goal.at.returns c).Start in
    back w64 _ c.with_sum.type_inv ∙ c.with_sum.ensures
    ∙ rw (value (goal.at.returns c).After-wide_sum-2, reads w64 t tt, reads w32 c.requires.0.small tt, reads w64 c.requires.2 tt)
