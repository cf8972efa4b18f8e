-- Whole units pass through the floor (`rounds-parts`), and all that is added is small.
use Rattle.std.proofs.Common.{◌≡◌, ◌∙◌, ℕ, ◌+◌, ◌/◌, arith, pos, ◌+ℤ◌, to_z-of_z, w32, w64, to_z, of_z}
use lib.Signed.{shr_z}
use Rattle.factor.specs.Rounding.{lift_by, lift-most}
use Rattle.passstage.specs.Parts.{most_parts, most_new, carry-small, rounds-parts}
use Rattle.rules.specs.Numbers.{unit}
use Rattle.whole.specs.Diff.{Within}
use Rattle.whole.specs.Machine.{within-le, within-pos, within-+, within-shr, fits, reads, back}
use Rattle.passstage.proofs.numbers.rounded.Goals as goal
use Rattle.passstage.proofs.numbers.rounded.Goals.{After-lift-a, After-wide, Start}

-- whole units of the rests
carry : (s : Start) → to_z w32 (of_z w32 (shr_z (to_z w32 (of_z w32 s.args.l)) unit)) ≡ shr_z s.args.l unit
carry s = rw (to_z-of_z s.ranges.l) (reads w32 (within-shr unit s.requires.1) tt)

floor-small : (s : Start) → Within most_new (s.args.h +ℤ shr_z s.args.l unit)
floor-small s = within-+ s.requires.0 (carry-small (within-le (omega arith) s.requires.1))

-- the floor of the whole sum
floor : (c : After-wide) → to_z w64 (of_z w64 c.wide.result) ≡ c.args.h +ℤ shr_z c.args.l unit
floor c =
    back w64 _ c.wide.type_inv ∙ c.wide.ensures ∙ rw (carry c.before, to_z-of_z c.ranges.h) (reads w32 (floor-small c.before) tt)

abbrev start : After-lift-a → Start
start c = c.before.before

abbrev A : Start → ℕ
A s = lift_by s.args.down s.args.even (unit / 2) (s.args.h +ℤ shr_z s.args.l unit)

lifted : (c : After-lift-a) → to_z w64 (of_z w64 c.lift-a.result) ≡ pos (A (start c))
lifted c = back w64 _ c.lift-a.type_inv ∙ c.lift-a.ensures ∙ rw (floor c.before)

lift-small : (s : Start) → Within (unit / 2) (pos (A s))
lift-small s =
    within-le (lift-most s.args.down s.args.even (unit / 2) (s.args.h +ℤ shr_z s.args.l unit) (omega arith))
    (within-pos _)

pub overflow_cast-a : goal.overflow_cast-a
overflow_cast-a c =
    rw (lifted (goal.at.overflow_cast-a c).After-lift-a) (fits (lift-small (start (goal.at.overflow_cast-a c).After-lift-a)) tt)

sum-small : (s : Start) → Within (most_parts + unit / 2) (s.args.l +ℤ pos (A s))
sum-small s = within-+ s.requires.1 (lift-small s)

pub overflow_add-result : goal.overflow_add-result
overflow_add-result c =
    let s = start (goal.at.overflow_add-result c).After-lift-a in
    rw (lifted (goal.at.overflow_add-result c).After-lift-a, reads w32 (lift-small s) tt, to_z-of_z s.ranges.l) (fits (sum-small s) tt)

new-small : (s : Start) → Within most_new (s.args.h +ℤ shr_z (s.args.l +ℤ pos (A s)) unit)
new-small s = within-+ s.requires.0 (carry-small (sum-small s))

pub overflow_add-result-2 : goal.overflow_add-result-2
overflow_add-result-2 c =
    let s = start (goal.at.overflow_add-result-2 c).After-lift-a in
    rw (
      lifted (goal.at.overflow_add-result-2 c).After-lift-a,
      reads w32 (lift-small s) tt,
      to_z-of_z s.ranges.l,
      reads w32 (sum-small s) tt,
      reads w32 (within-shr unit (sum-small s)) tt,
      to_z-of_z s.ranges.h,
    ) (fits (new-small s) tt)

pub returns : goal.returns
returns c =
    let s = start (goal.at.returns c).After-lift-a in
    rw (
      lifted (goal.at.returns c).After-lift-a,
      reads w32 (lift-small s) tt,
      to_z-of_z s.ranges.l,
      reads w32 (sum-small s) tt,
      reads w32 (within-shr unit (sum-small s)) tt,
      to_z-of_z s.ranges.h,
      reads w32 (new-small s) tt,
    )
    (rounds-parts s.args.down s.args.even s.args.h s.args.l, new-small s)
