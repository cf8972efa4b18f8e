-- Something is added and the floor is taken (`rounds-past`).
use Rattle.std.proofs.Common.{◌≡◌, ◌∙◌, arith, ℕ, ◌+◌, ◌/◌, pos, ◌+ℤ◌, ◌-ℤ◌, to_z-of_z, w64, to_z, of_z}
use lib.Signed.{shr_z}
use Rattle.factor.specs.Rounding.{most_roundable, lift_by, lift-most, rounds-past, floor-small}
use Rattle.rules.specs.Numbers.{unit²}
use Rattle.whole.specs.Diff.{Within}
use Rattle.whole.specs.Machine.{within-le, within-pos, within-+, within--, within-shr, fits, reads, back}
use Rattle.factor.proofs.rounding.round_past.Goals as goal
use Rattle.factor.proofs.rounding.round_past.Goals.{After-lift-a, Start}

-- the floor, and what it is without k, read back from their bits
floor : (s : Start) → to_z w64 (of_z w64 (shr_z (to_z w64 (of_z w64 s.args.s)) unit²)) ≡ shr_z s.args.s unit²
floor s = rw (to_z-of_z s.ranges.s) (reads w64 (within-shr unit² s.requires.0) tt)

without : (s : Start) →
    to_z w64 (of_z w64 (to_z w64 (of_z w64 (shr_z (to_z w64 (of_z w64 s.args.s)) unit²)) -ℤ to_z w64 (of_z w64 s.args.k)))
    ≡ shr_z s.args.s unit² -ℤ s.args.k
without s = rw (floor s, to_z-of_z s.ranges.k) (reads w64 (within-- (floor-small s.requires.0) s.requires.1) tt)

abbrev added : Start → ℕ
added s = lift_by s.args.down s.args.even (unit² / 2) (shr_z s.args.s unit² -ℤ s.args.k)

told : (c : After-lift-a) → to_z w64 (of_z w64 c.lift-a.result) ≡ pos (added c.before)
told c = back w64 _ c.lift-a.type_inv ∙ c.lift-a.ensures ∙ rw (without c.before)

small : (c : After-lift-a) → Within (most_roundable + unit² / 2) (c.args.s +ℤ pos (added c.before))
small c =
    let m = lift-most c.args.down c.args.even (unit² / 2) (shr_z c.args.s unit² -ℤ c.args.k) (omega arith) in
    within-+ c.requires.0 (within-le m (within-pos _))

pub overflow_add-result : goal.overflow_add-result
overflow_add-result c =
    rw (told (goal.at.overflow_add-result c).After-lift-a, to_z-of_z c.ranges.s) (fits (small (goal.at.overflow_add-result c).After-lift-a) tt)

pub returns : goal.returns
returns c =
    rw (told (goal.at.returns c).After-lift-a, to_z-of_z c.ranges.s, reads w64 (small (goal.at.returns c).After-lift-a) tt, reads w64 (within-shr unit² (small (goal.at.returns c).After-lift-a)) tt)
    (rounds-past unit² c.args.s c.args.k (omega arith) (omega arith) c.args.down c.args.even)
