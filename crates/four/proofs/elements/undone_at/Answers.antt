-- The sign, the number and the rounded sum are small, and so is what is made of them.
use Rattle.std.proofs.Common.{◌≡◌, ap, ◌∙◌, true, set, w32, w64, to_z, of_z}
use Rattle.factor.specs.Rounding.{rule_by}
use Rattle.four.specs.TurnLaws.{rounded-sum-small, turned_as}
use Rattle.four.specs.Turns.{element_by}
use Rattle.whole.specs.Machine.{fits, reads, back, within--, sign-within, within-sign}
use Rattle.four.proofs.elements.undone_at.Goals as goal
use Rattle.four.proofs.elements.undone_at.Goals.{After-undone}

pub undone-requires : goal.undone-requires
undone-requires c =
    let h = c.requires in
    let d = h.0.sign in
    let x = h.1.small c.args.m in
    let q = rounded-sum-small h.0 h.2 (rule_by c.args.down c.args.even) in
    rw (c.rounded_sum-q.ensures, reads w64 q tt, reads w32 (sign-within d) tt, reads w32 x tt)
    (d, fits x tt, fits (within-- x q) tt, fits (within-sign d (within-- x q)) tt)

-- what is made of them
value :
    (c : After-undone) →
    let a = c.args in
    to_z w64 (of_z w64 c.undone.result)
    ≡ element_by (rule_by a.down a.even) a.sheet.now a.p true a.m a.a a.b a.c a.d a.y a.v.block
unfolding element_by
value c =
    let h = c.requires in
    let q = rounded-sum-small h.0 h.2 (rule_by c.args.down c.args.even) in
    back w64 _ c.undone.type_inv ∙ c.undone.ensures
    ∙ rw (
      c.rounded_sum-q.ensures,
      reads w64 q tt,
      reads w32 (sign-within h.0.sign) tt,
      reads w32 (h.1.small c.args.m) tt,
    )

pub returns : goal.returns
returns c =
    let a = c.args in
    turned_as (ap (set a.v.block a.m) (value (goal.at.returns c).After-undone)) c.with_number.ensures
