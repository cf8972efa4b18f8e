-- The number of a code: half of it, or below zero one less than minus that half. Both fit, since a code is a u32.
use Rattle.std.proofs.Common.{◌≡◌, sym, ◌∙◌, ℕ, ◌/◌, ◌^◌, ◌<◌, arith, pos, negsuc, ◌-ℤ◌, w32, to_z, of_z, to_z-of_z}
use Rattle.recipebytes.specs.Codes.{value-even, value-odd, minus-one-less}
use Rattle.whole.specs.Diff.{lia}
use Rattle.recipebytes.proofs.number.value_of.Goals as goal

read_pos : (n : ℕ) → n < 2 ^ 31 → to_z w32 n ≡ pos n
read_pos n h = to_z-of_z {w = w32} {z = pos n} (record { sfits = h })

read-minus : (n : ℕ) → n < 2 ^ 31 → to_z w32 (of_z w32 (pos 0 -ℤ pos n)) ≡ pos 0 -ℤ pos n
read-minus n h = to_z-of_z {w = w32} {z = pos 0 -ℤ pos n} (simp lia (omega arith))

pub returns-then-u-eq0 : goal.returns-then-u-eq0
returns-then-u-eq0 c = read_pos (c.args.u / 2) (omega arith) ∙ sym (value-even c.args.u c.if-u-eq0.true)

pub returns-else-u-eq0 : goal.returns-else-u-eq0
returns-else-u-eq0 c =
    let u = c.args.u in
    let l : u / 2 < 2 ^ 31 = omega arith in
    rw (
      read_pos (u / 2) l,
      read-minus (u / 2) l,
      minus-one-less (u / 2),
      to_z-of_z {w = w32} {z = negsuc (u / 2)} (record { sfits = l }),
    )
    (sym (value-odd u c.if-u-eq0.false))
