-- The sum of an element is small (`rest-element-small`), so it and its rounding fit 64 bits.
use Rattle.std.proofs.Common.{◌≡◌, ◌∙◌, ap, arith, w32, w64, to_z, of_z}
use Rattle.factor.specs.Layouts.{row_of}
use Rattle.joint.specs.Elements.{sign_at, diagonal_of, rest-element-small}
use Rattle.joint.specs.Sums.{across}
use Rattle.rules.specs.Numbers.{at}
use Rattle.whole.specs.Machine.{reads, back, within-le}
use Rattle.joint.proofs.elements.rounded_rest_at.Goals as goal
use Rattle.joint.proofs.elements.rounded_rest_at.Goals.{After-diagonal_of, After-sign_at, After-whole_sum-s}

sign : (c : After-sign_at) →
    to_z w32 (of_z w32 c.sign_at.result) ≡ sign_at c.args.row.now c.args.f
    c.args.j
sign c = back w32 _ c.sign_at.type_inv ∙ c.sign_at.ensures

diagonal : (c : After-diagonal_of) →
    to_z w32 (of_z w32 c.diagonal_of.result) ≡ diagonal_of
    (sign_at c.args.row.now c.args.f c.args.j)
diagonal c = back w32 _ c.diagonal_of.type_inv ∙ c.diagonal_of.ensures ∙ ap diagonal_of (sign c.before)

value :
    (c : After-whole_sum-s) →
    to_z w64 (of_z w64 c.whole_sum-s.result)
    ≡ across c.args.row.now (row_of c.args.f c.args.j) c.args.j
    (diagonal_of (sign_at c.args.row.now c.args.f c.args.j)) (at c.args.v.now)
value c =
    back w64 _ c.whole_sum-s.type_inv ∙ c.whole_sum-s.ensures
    ∙ rw (diagonal c.before.before, c.row_of.ensures, reads w64 (c.requires.2.small c.args.j) tt)

pub round_joint-requires : goal.round_joint-requires
round_joint-requires c =
    let t = rest-element-small c.requires.0 c.args.j c.requires.1 c.requires.2 in
    rw (value (goal.at.round_joint-requires c).After-whole_sum-s) (within-le (omega arith) t)
