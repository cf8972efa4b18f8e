-- Something is added and the floor is taken (`rounds-as`).
use Rattle.std.proofs.Common.{◌≡◌, ◌∙◌, arith, ◌+◌, ◌/◌, pos, ◌+ℤ◌, to_z-of_z, w64, to_z, of_z}
use lib.Signed.{shr_z}
use Rattle.factor.specs.Rounding.{most_roundable, rule_by, lift_by, lift-most, rounds-as, rounded}
use Rattle.rules.specs.Numbers.{unit}
use Rattle.whole.specs.Diff.{Within}
use Rattle.whole.specs.Machine.{within-le, within-pos, within-+, within-shr, fits, reads, back}
use Rattle.factor.proofs.rounding.round_line.Goals as goal
use Rattle.factor.proofs.rounding.round_line.Goals.{After-lift-a, Start}

-- the floor, read back from its bits
floor : (s : Start) → to_z w64 (of_z w64 (shr_z (to_z w64 (of_z w64 s.args.s)) unit)) ≡ shr_z s.args.s unit
floor s = rw (to_z-of_z s.ranges.s) (reads w64 (within-shr unit s.requires) tt)

told : (c : After-lift-a) →
    to_z w64 (of_z w64 c.lift-a.result)
    ≡ pos (lift_by c.args.down c.args.even (unit / 2) (shr_z c.args.s unit))
told c = back w64 _ c.lift-a.type_inv ∙ c.lift-a.ensures ∙ rw (floor c.before)

small : (c : After-lift-a) → Within (most_roundable + unit / 2)
    (c.args.s +ℤ pos (lift_by c.args.down c.args.even (unit / 2) (shr_z c.args.s unit)))
small c =
    let m = lift-most c.args.down c.args.even (unit / 2) (shr_z c.args.s unit) (omega arith) in
    within-+ c.requires (within-le m (within-pos _))

pub overflow_add-result : goal.overflow_add-result
overflow_add-result c =
    rw (told (goal.at.overflow_add-result c).After-lift-a, to_z-of_z c.ranges.s) (fits (small (goal.at.overflow_add-result c).After-lift-a) tt)

pub returns : goal.returns
returns c =
    rounded (rule_by c.args.down c.args.even) unit c.args.s (omega arith)
    (rw (told (goal.at.returns c).After-lift-a, to_z-of_z c.ranges.s, reads w64 (small (goal.at.returns c).After-lift-a) tt, reads w64 (within-shr unit (small (goal.at.returns c).After-lift-a)) tt)
    (rounds-as unit c.args.s (omega arith) (omega arith) c.args.down c.args.even))
