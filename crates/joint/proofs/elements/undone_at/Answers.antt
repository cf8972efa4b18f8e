-- The signs, the number and the rounded sum are small, and so is what is made of them.
use Rattle.std.proofs.Common.{◌≡◌, ◌∙◌, ◌*ℤ◌, to_z-of_z, w32, w64, to_z, of_z}
use Rattle.factor.specs.Rounding.{rule_by}
use Rattle.joint.specs.Elements.{sign_at, rounded_rest, rounded-rest-small}
use Rattle.whole.specs.Laws.{signs-times}
use Rattle.whole.specs.Machine.{fits, back, within--, within-sign}
use Rattle.whole.specs.Stated.{Sign}
use Rattle.joint.proofs.elements.undone_at.Goals as goal
use Rattle.joint.proofs.elements.undone_at.Goals.{After-both_signs, After-rounded_rest_at, After-sign_at, Start}

sign : (c : After-sign_at) →
    to_z w32 (of_z w32 c.sign_at.result) ≡ sign_at c.args.row.now c.args.f c.args.j
sign c = back w32 _ c.sign_at.type_inv ∙ c.sign_at.ensures

product : (s : Start) → Sign (s.args.d *ℤ sign_at s.args.row.now s.args.f s.args.j)
product s = signs-times s.requires.2 (s.requires.0.sign s.args.j s.requires.1)

signs : (c : After-both_signs) →
    to_z w32 (of_z w32 c.both_signs.result) ≡ c.args.d *ℤ sign_at c.args.row.now
    c.args.f c.args.j
signs c = back w32 _ c.both_signs.type_inv ∙ c.both_signs.ensures ∙ rw (sign c.before, to_z-of_z c.ranges.d)

told : (c : After-rounded_rest_at) →
    to_z w64 (of_z w64 c.rounded_rest_at.result) ≡ rounded_rest (rule_by c.args.down
    c.args.even)
    c.args.row.now c.args.f c.args.j
    c.args.v.now
told c = back w64 _ c.rounded_rest_at.type_inv ∙ c.rounded_rest_at.ensures

pub undone-requires : goal.undone-requires
undone-requires c =
    let e = product (goal.at.undone-requires c).Start in
    let x = c.requires.4 in
    let q = rounded-rest-small c.requires.0 c.args.j c.requires.1 c.requires.3 (rule_by c.args.down c.args.even) in
    rw (told (goal.at.undone-requires c).After-rounded_rest_at, signs (goal.at.undone-requires c).After-both_signs, to_z-of_z c.ranges.x)
    (e, fits x tt, fits (within-- x q) tt, fits (within-sign e (within-- x q)) tt)
