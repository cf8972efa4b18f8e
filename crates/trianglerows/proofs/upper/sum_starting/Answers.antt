-- The first term comes last (`sum_head`).
use Rattle.std.proofs.Common.{◌≡◌, sym, ap, ◌∙◌, ℕ, suc, ◌+◌, ◌-◌, ◌*◌, le_refl, arith, ℤ, ◌+ℤ◌, ◌*ℤ◌, to_z-of_z, w32, w64, to_z, of_z}
use Rattle.joint.specs.Sums.{Wide, most_column, wide-small}
use Rattle.rules.specs.Numbers.{most_entry, at}
use Rattle.trianglerows.specs.TrianglesUndone.{sum_head, wide-after}
use Rattle.whole.specs.Diff.{lia, Within}
use Rattle.whole.specs.Machine.{fits, reads, back, within-+, within-*}
use Rattle.whole.specs.Stated.{sum}
use Rattle.whole.specs.Sum.{sum-cong}
use Rattle.trianglerows.proofs.upper.sum_starting.Goals as goal
use Rattle.trianglerows.proofs.upper.sum_starting.Goals.{After-wide_sum, Else-m-eq0, Start}

-- all but the first
fewer : (c : Else-m-eq0) → let a = c.args in Wide a.a.now (a.p + 1) a.v.now (a.k + 1) (a.m - 1)
fewer c = wide-after c.if-m-eq0.false c.requires.0

pub wide_sum-requires : goal.wide_sum-requires
wide_sum-requires c = fewer (goal.at.wide_sum-requires c).Else-m-eq0

-- a term
abbrev T : Start → ℕ → ℤ
T s j = at s.args.a.now (s.args.p + j) *ℤ at s.args.v.now (s.args.k + j)

sum_is : (c : After-wide_sum) →
    to_z w64 (of_z w64 c.wide_sum.result) ≡ sum (c.args.m - 1) (λ j. T c.before.before (suc j))
sum_is c =
    back w64 _ c.wide_sum.type_inv ∙ c.wide_sum.ensures
    ∙ sum-cong (c.args.m - 1) _ _
    (λ j l.
    let e : c.args.p + 1 + j ≡ c.args.p + suc j = omega arith in
    let f : c.args.k + 1 + j ≡ c.args.k + suc j = omega arith in
    rw (e, f))

sum-small : (c : After-wide_sum) →
    Within (16 * (most_entry * most_column)) (sum (c.args.m - 1) (λ j. T c.before.before (suc j)))
sum-small c =
    rw (sym (sum_is c), back w64 _ c.wide_sum.type_inv, c.wide_sum.ensures) (wide-small (fewer c.before) _ (le_refl _))

pub overflow_add-own : goal.overflow_add-own
overflow_add-own c =
    let g = goal.at.overflow_add-own c in
    rw (sum_is g.After-wide_sum, to_z-of_z c.ranges.own) (fits (within-+ c.requires.1 (sum-small g.After-wide_sum)) tt)

-- the first entry, and the sum that it meets
entry : (c : Else-m-eq0) → Within most_entry (at c.args.a.now c.args.p)
entry c =
    let e : c.args.p + 0 ≡ c.args.p = omega arith in
    rw e at (c.requires.0.entries 0 (let h = c.if-m-eq0.false in omega arith))

latest : (c : Else-m-eq0) → to_z w64 (of_z w64 c.args.first) ≡ at c.args.v.now c.args.k
latest c = to_z-of_z c.ranges.first ∙ c.requires.2 (let h = c.if-m-eq0.false in omega arith)

pub with_sum-requires : goal.with_sum-requires
with_sum-requires c =
    let g = goal.at.with_sum-requires c in
    rw (
      sum_is g.After-wide_sum,
      to_z-of_z c.ranges.own,
      latest g.Else-m-eq0,
      reads w32 (entry g.Else-m-eq0) tt,
      reads w64 (within-+ c.requires.1 (sum-small g.After-wide_sum)) tt,
    ) (
      fits (entry g.Else-m-eq0) tt,
      fits (within-* (entry g.Else-m-eq0) (c.requires.0.numbers.small _)) tt,
      fits
          (within-+ (within-+ c.requires.1 (sum-small g.After-wide_sum))
          (within-* (entry g.Else-m-eq0) (c.requires.0.numbers.small _)))
          tt,
    )

pub returns : goal.returns
returns c =
    let g = goal.at.returns c in
    back w64 _ c.with_sum.type_inv ∙ c.with_sum.ensures
    ∙ rw (
      sum_is g.After-wide_sum,
      to_z-of_z c.ranges.own,
      latest g.Else-m-eq0,
      reads w32 (entry g.Else-m-eq0) tt,
      reads w64 (within-+ c.requires.1 (sum-small g.After-wide_sum)) tt,
    )
    (first-apart g.Start ∙ ap (λ (z : ℤ). c.args.own +ℤ z) (sum_head c.args.m (T g.Start) c.if-m-eq0.false))
  where
    first-apart : (s : Start) →
        (s.args.own +ℤ sum (s.args.m - 1) (λ j. T s (suc j))) +ℤ (at s.args.a.now s.args.p *ℤ at s.args.v.now s.args.k)
        ≡ s.args.own +ℤ (T s 0 +ℤ sum (s.args.m - 1) (λ j. T s (suc j)))
    first-apart s =
        let e : s.args.p + 0 ≡ s.args.p = omega arith in
        let f : s.args.k + 0 ≡ s.args.k = omega arith in
        rw (e, f) (turned s.args.own _ _)
      where
        turned : (o a b : ℤ) → (o +ℤ a) +ℤ b ≡ o +ℤ (b +ℤ a)
        turned o a b = simp lia (omega arith)
