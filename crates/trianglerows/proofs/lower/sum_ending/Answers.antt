-- The last term comes last (`sum-last`).
use Rattle.std.proofs.Common.{◌≡◌, ap, ◌∙◌, ℕ, ◌+◌, ◌-◌, ◌*◌, le_refl, arith, ℤ, ◌+ℤ◌, ◌*ℤ◌, to_z-of_z, w32, w64, to_z, of_z}
use Rattle.joint.specs.Sums.{Wide, most_column, wide-small}
use Rattle.rules.specs.Numbers.{most_entry, at}
use Rattle.trianglerows.specs.TrianglesUndone.{recent-some, sum-last, wide-less}
use Rattle.whole.specs.Diff.{lia, Within}
use Rattle.whole.specs.Machine.{fits, reads, back, within-+, within-*}
use Rattle.whole.specs.Stated.{sum}
use Rattle.trianglerows.proofs.lower.sum_ending.Goals as goal
use Rattle.trianglerows.proofs.lower.sum_ending.Goals.{After-wide_sum, Else-m-eq0, Start}

-- all but the last
fewer : (c : Else-m-eq0) → let a = c.args in Wide a.a.now a.p a.v.now 0 (a.m - 1)
fewer c = wide-less _ (omega arith) c.requires.0

-- a term
abbrev T : Start → ℕ → ℤ
T s j = at s.args.a.now (s.args.p + j) *ℤ at s.args.v.now (0 + j)

sum_is : (c : After-wide_sum) →
    to_z w64 (of_z w64 c.wide_sum.result) ≡ sum (c.args.m - 1) (T c.before.before)
sum_is c = back w64 _ c.wide_sum.type_inv ∙ c.wide_sum.ensures

sum-small :
    (c : After-wide_sum) → Within (16 * (most_entry * most_column)) (sum (c.args.m - 1) (T c.before.before))
sum-small c = wide-small (fewer c.before) _ (le_refl _)

pub overflow_add-own : goal.overflow_add-own
overflow_add-own c =
    let g = goal.at.overflow_add-own c in
    rw (sum_is g.After-wide_sum, to_z-of_z c.ranges.own) (fits (within-+ c.requires.1 (sum-small g.After-wide_sum)) tt)

-- the last entry, and the sum that it meets
entry : (c : Else-m-eq0) → Within most_entry (at c.args.a.now (c.args.p + (c.args.m - 1)))
entry c = c.requires.0.entries (c.args.m - 1) (let h = c.if-m-eq0.false in omega arith)

latest : (c : Else-m-eq0) → to_z w64 (of_z w64 c.args.last) ≡ at c.args.v.now (0 + (c.args.m - 1))
latest c =
    to_z-of_z c.ranges.last ∙ c.requires.2 ∙ recent-some _ _ c.args.m c.if-m-eq0.false
    ∙ (let e : c.args.m - 1 ≡ 0 + (c.args.m - 1) = omega arith in ap (at c.args.v.now) e)

pub with_sum-requires : goal.with_sum-requires
with_sum-requires c =
    let g = goal.at.with_sum-requires c in
    rw (
      sum_is g.After-wide_sum,
      to_z-of_z c.ranges.own,
      latest g.Else-m-eq0,
      reads w32 (entry g.Else-m-eq0) tt,
      reads w64 (within-+ c.requires.1 (sum-small g.After-wide_sum)) tt,
    ) (
      fits (entry g.Else-m-eq0) tt,
      fits (within-* (entry g.Else-m-eq0) (c.requires.0.numbers.small _)) tt,
      fits
          (within-+ (within-+ c.requires.1 (sum-small g.After-wide_sum))
          (within-* (entry g.Else-m-eq0) (c.requires.0.numbers.small _)))
          tt,
    )

pub returns : goal.returns
returns c =
    back w64 _ c.with_sum.type_inv ∙ c.with_sum.ensures
    ∙ rw (
      sum_is (goal.at.returns c).After-wide_sum,
      to_z-of_z c.ranges.own,
      latest (goal.at.returns c).Else-m-eq0,
      reads w32 (entry (goal.at.returns c).Else-m-eq0) tt,
      reads w64 (within-+ c.requires.1 (sum-small (goal.at.returns c).After-wide_sum)) tt,
    )
    (apart-last c.args.own (sum (c.args.m - 1) (T (goal.at.returns c).Start)) (T (goal.at.returns c).Start (c.args.m - 1))
    ∙ ap (λ (z : ℤ). c.args.own +ℤ z) (sum-last c.args.m (T (goal.at.returns c).Start) c.if-m-eq0.false))
  where
    apart-last : (o a b : ℤ) → (o +ℤ a) +ℤ b ≡ o +ℤ (a +ℤ b)
    apart-last o a b = simp lia (omega arith)
