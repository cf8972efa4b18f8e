-- By the sign's test (`sign_below`, `sign_above`).
use Rattle.std.proofs.Common.{◌≡◌, sym, pos, ◌-ℤ◌, ◌*ℤ◌, to_z-of_z, w32, w64, to_z, of_z}
use Rattle.factor.specs.Rounding.{sign_below}
use Rattle.factor.proofs.rounding.undone.Goals as goal
use Rattle.factor.proofs.rounding.undone.Goals.{Start, Then-d-lt0}

-- y - q, read back from its bits
value :
    (s : Start) →
    to_z w64 (of_z w64 (to_z w64 (of_z w64 (to_z w32 (of_z w32 s.args.y))) -ℤ to_z w64 (of_z w64 s.args.q)))
    ≡ s.args.y -ℤ s.args.q
value s = rw (to_z-of_z s.ranges.y, to_z-of_z s.requires.1, to_z-of_z s.ranges.q) (to_z-of_z s.requires.2)

-- the product is the number, its sign turned
flips : (c : Then-d-lt0) → let a = c.args in a.d *ℤ (a.y -ℤ a.q) ≡ pos 0 -ℤ (a.y -ℤ a.q)
flips c = sign_below _ c.requires.0 (rw (to_z-of_z c.ranges.d) at c.if-d-lt0.true)

pub returns-then-d-lt0 : goal.returns-then-d-lt0
returns-then-d-lt0 c =
    rw (value (goal.at.returns-then-d-lt0 c).Start, sym (flips (goal.at.returns-then-d-lt0 c).Then-d-lt0)) (to_z-of_z c.requires.3)
