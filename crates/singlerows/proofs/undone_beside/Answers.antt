-- The signs, the number and the rounded sum are small, and so is what is made of them.
use Rattle.std.proofs.Common.{◌≡◌, ◌∙◌, ◌*ℤ◌, to_z-of_z, w32, w64, to_z, of_z}
use Rattle.factor.specs.Rounding.{rule_by}
use Rattle.rules.specs.Numbers.{unit, at}
use Rattle.rules.specs.Stages.{R}
use Rattle.singlerows.specs.SingleRows.{narrow_sum, both-sign, rounded-sum-small}
use Rattle.whole.specs.Machine.{fits, back, within-sign, within--}
use Rattle.whole.specs.Stated.{Sign}
use Rattle.singlerows.proofs.undone_beside.Goals as goal
use Rattle.singlerows.proofs.undone_beside.Goals.{After-rounded_beside, After-sign_in, Start}

product : (s : Start) → Sign (s.args.d *ℤ at s.args.g.now s.args.q)
product s = both-sign s.requires.0 s.args.q s.requires.2

sign : (c : After-sign_in) → to_z w32 (of_z w32 c.sign_in.result) ≡ c.args.d *ℤ at c.args.g.now c.args.q
sign c = back w32 _ c.sign_in.type_inv ∙ c.sign_in.ensures ∙ rw (to_z-of_z c.ranges.d)

rounded : (c : After-rounded_beside) → to_z w64 (of_z w64 c.rounded_beside.result)
    ≡ R (rule_by c.args.down c.args.even) unit (c.args.d *ℤ narrow_sum c.args.w.now c.args.x.now c.args.k
    c.args.n)
rounded c =
    back w64 _ c.rounded_beside.type_inv ∙ c.rounded_beside.ensures ∙ rw (to_z-of_z c.ranges.d)

pub undone-requires : goal.undone-requires
undone-requires c =
    let e = product (goal.at.undone-requires c).Start in
    let y = c.requires.3 in
    let q = within-- y (rounded-sum-small c.requires.1 c.requires.0.sign (rule_by c.args.down c.args.even)) in
    let g = goal.at.undone-requires c in
    rw (rounded g.After-rounded_beside, sign g.After-sign_in, to_z-of_z c.ranges.y)
    (e, fits y tt, fits q tt, fits (within-sign e q) tt)
