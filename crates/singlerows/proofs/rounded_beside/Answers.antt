-- The sum is small (`turned-sum-small`), so it and its rounding fit 64 bits.
use Rattle.std.proofs.Common.{◌≡◌, sym, ap₂, subst, ◌∙◌, arith, ◌*ℤ◌, to_z-of_z, w64, SFits, to_z, of_z}
use Rattle.singlerows.specs.SingleRows.{narrow_sum, turned-sum-small}
use Rattle.whole.specs.Machine.{fits, back, within-le}
use Rattle.whole.specs.Stated.{Sign}
use Rattle.singlerows.proofs.rounded_beside.Goals as goal
use Rattle.singlerows.proofs.rounded_beside.Goals.{After-narrow_sum, After-turned}

sum_is : (c : After-narrow_sum) → to_z w64 (of_z w64 c.narrow_sum.result) ≡ narrow_sum c.args.w.now c.args.x.now c.args.k c.args.n
sum_is c = back w64 _ c.narrow_sum.type_inv ∙ c.narrow_sum.ensures

pub turned-requires : goal.turned-requires
turned-requires c =
    let e = to_z-of_z c.ranges.d in (
      subst Sign (sym e) c.requires.1,
      subst (SFits w64) (sym (ap₂ ◌*ℤ◌ e (sum_is (goal.at.turned-requires c).After-narrow_sum)))
          (fits (turned-sum-small c.requires.0 c.requires.1) tt),
    )

value : (c : After-turned) → to_z w64 (of_z w64 c.turned.result)
    ≡ c.args.d *ℤ narrow_sum c.args.w.now c.args.x.now c.args.k c.args.n
value c =
    back w64 _ c.turned.type_inv ∙ c.turned.ensures
    ∙ ap₂ ◌*ℤ◌ (to_z-of_z c.ranges.d) (sum_is c.before)

pub round_line-requires : goal.round_line-requires
round_line-requires c =
    rw (value (goal.at.round_line-requires c).After-turned) (within-le (omega arith) (turned-sum-small c.requires.0 c.requires.1))
