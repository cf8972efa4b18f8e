-- The sum of magnitudes is small (`magnitudes-small`), and so is what is added to the allowance.
use Rattle.std.proofs.Common.{Bool, true, false, cond, ◌≡◌, ◌∙◌, ◌+◌, ◌-◌, arith, ℤ, pos, w32, w64, to_z, of_z}
use Rattle.factor.specs.Layouts.{row_of, along}
use Rattle.factor.specs.Magnitudes.{magnitude_at, whole, magnitudes-small}
use Rattle.factor.specs.Rounding.{share-most}
use Rattle.linerun.specs.LineBounds.{most_sum, row-of-16}
use Rattle.rules.specs.Numbers.{unit}
use Rattle.rules.specs.Stages.{ceiling, share}
use Rattle.rules.specs.declared.Rule.{Rule}
use Rattle.whole.specs.Diff.{Within}
use Rattle.whole.specs.Machine.{fits, reads, back, within-+, within-le, within-pos, within-shr}
use Rattle.linerun.proofs.steps.allowed_at.Goals as goal
use Rattle.linerun.proofs.steps.allowed_at.Goals.{After-magnitude_sum_at, After-raise_line, After-row_share, Start}

-- the sum of magnitudes, its quotient upward, and what the rounding adds
abbrev A : Start → ℤ
A s = along (magnitude_at s.args.sheet.now) (row_of s.args.f s.args.m) s.args.m s.args.b.now

abbrev Q : Start → ℤ
Q s = ceiling unit (A s)

abbrev W : Start → Bool
W s =
    whole s.args.sheet.now (row_of s.args.f s.args.m).at
    ((row_of s.args.f s.args.m).left + (row_of s.args.f s.args.m).right)

abbrev H : Start → ℤ
H s = cond (W s) (pos 0) (pos (share s.args.rule))

magnitudes : (c : After-magnitude_sum_at) →
    to_z w64 (of_z w64 c.magnitude_sum_at.result)
    ≡ along (magnitude_at c.args.sheet.now) (row_of c.args.f c.args.m) c.args.m c.args.b.now
magnitudes c =
    back w64 _ c.magnitude_sum_at.type_inv ∙ c.magnitude_sum_at.ensures ∙ rw c.row_of-r.ensures

small : (s : Start) → Within most_sum (A s)
small s = magnitudes-small (row-of-16 s.requires.0 s.args.m s.requires.1) s.requires.2

quotient-small : (s : Start) → Within (most_sum + (unit - 1)) (Q s)
unfolding ceiling
quotient-small s = within-shr unit (within-+ (small s) (within-pos (unit - 1)))

share-small : (rule : Rule) (b : Bool) → Within 4096 (cond b (pos 0) (pos (share rule)))
share-small rule true = within-le (omega arith) (within-pos 0)
share-small rule false = within-le (share-most rule) (within-pos (share rule))

quotient : (c : After-raise_line) →
    let a = along (magnitude_at c.args.sheet.now) (row_of c.args.f c.args.m) c.args.m c.args.b.now in
    to_z w64 (of_z w64 c.magnitude_sum_at.result) ≡ a → to_z w64 (of_z w64 c.raise_line.result) ≡ ceiling unit a
quotient c e = back w64 _ c.raise_line.type_inv ∙ c.raise_line.ensures ∙ rw e

added : (c : After-row_share) →
    let r = row_of c.args.f c.args.m in
    to_z w64 (of_z w64 c.row_share.result)
    ≡ cond (whole c.args.sheet.now r.at (r.left + r.right)) (pos 0) (pos (share c.args.rule))
added c = back w64 _ c.row_share.type_inv ∙ c.row_share.ensures ∙ rw c.row_of-r.ensures

pub raise_line-requires : goal.raise_line-requires
raise_line-requires c =
    let here = goal.at.raise_line-requires c in
    rw (magnitudes here.After-magnitude_sum_at)
    (fits (within-+ (small here.Start) (within-pos (unit - 1))) tt, fits (quotient-small here.Start) tt)

pub raised-requires : goal.raised-requires
raised-requires c =
    let here = goal.at.raised-requires c in
    let b = c.requires.2.small c.args.m in
    let h : Within 4096 (H here.Start) = share-small c.args.rule (W here.Start) in
    let m = magnitudes here.After-magnitude_sum_at in
    rw (quotient here.After-raise_line m, added here.After-row_share, reads w32 b tt)
    (fits b tt, fits (within-+ b (quotient-small here.Start)) tt, fits (within-+ (within-+ b (quotient-small here.Start)) h) tt)
