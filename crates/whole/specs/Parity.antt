-- Even and odd numbers: what is left of a number when its half, downward, is taken off twice. Assumes nothing.
use Rattle.std.specs.Prelude.{◌≡◌, ℕ, suc, ◌+◌, ◌%◌, ◌<◌, ℤ, pos, negsuc, nat_abs, ◌+ℤ◌, ◌-ℤ◌, ◌*ℤ◌}
use Rattle.std.proofs.Common.{ap, ◌∙◌, mod-lt, arith}
use Rattle.std.proofs.Math.Nat.{div-add-mod}
use Rattle.std.specs.Int.Signed.{shr_z}
use Rattle.whole.specs.Diff.{lia, Within}

-- 0 or 1, and which of the two says whether the number is even
pub left_over : (q : ℤ) → q -ℤ (pos 2 *ℤ shr_z q 2) ≡ pos (nat_abs q % 2)
left_over (pos n) = simp lia (omega (arith, div-add-mod n 2))
left_over (negsuc n) = simp lia (omega (arith, div-add-mod n 2, div-add-mod (suc n) 2, mod-lt n two, mod-lt (suc n) two))
  where
    two : 0 < 2
    two = omega arith

pub parity-small : (q : ℤ) → Within 1 (pos (nat_abs q % 2))
parity-small q = record { within = omega (arith, mod-lt (nat_abs q) two) }
  where
    two : 0 < 2
    two = omega arith

-- of two numbers that follow each other one is even
pub next-parity : (q : ℤ) → nat_abs (q +ℤ pos 1) % 2 + nat_abs q % 2 ≡ 1
next-parity (pos n) = ap (λ (k : ℕ). k % 2 + n % 2) size ∙ omega arith
  where
    size : nat_abs (pos n +ℤ pos 1) ≡ n + 1
    size = simp lia (omega arith)
next-parity (negsuc n) = ap (λ (k : ℕ). k % 2 + suc n % 2) size ∙ omega arith
  where
    size : nat_abs (negsuc n +ℤ pos 1) ≡ n
    size = simp lia (omega arith)
