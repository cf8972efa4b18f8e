-- Division by any positive divisor, over the kit's shr_z: the floor, also below zero; the ceiling.
use Rattle.std.specs.Prelude.{◌≡◌, refl, ℕ, zero, suc, ◌+◌, ◌-◌, ◌<◌, ℤ, pos, negsuc, ◌+ℤ◌, ◌-ℤ◌, ◌*ℤ◌, nat_abs, ◌≤ℤ◌, ◌<ℤ◌}
use Rattle.std.proofs.Math.Nat.{div-add-mod}
use Rattle.std.proofs.Common.{mod-lt, arith}
use Rattle.std.specs.Int.Signed.{shr_z}
use Rattle.whole.specs.Diff.{lia, given₁, given₂}

-- ---- the floor q of s / m: m·q ≤ s < m·q + m, and no other number
pub shr-lo : (s : ℤ) (m : ℕ) → 0 < m → (pos m *ℤ shr_z s m) ≤ℤ s
shr-lo (pos n) m h = simp lia (omega (arith, div-add-mod n m))
shr-lo (negsuc n) m h = simp lia (omega (arith, div-add-mod n m, mod-lt n h))

pub shr-hi : (s : ℤ) (m : ℕ) → 0 < m → s <ℤ (pos m *ℤ shr_z s m +ℤ pos m)
shr-hi (pos n) m h = simp lia (omega (arith, div-add-mod n m, mod-lt n h))
shr-hi (negsuc n) m h = simp lia (omega (arith, div-add-mod n m))

-- a multiple of m strictly between -m and m is 0
small-multiple : (m : ℕ) (a : ℤ) → (pos m *ℤ a) <ℤ pos m → pos 0 <ℤ (pos m *ℤ a +ℤ pos m) → a ≡ pos 0
small-multiple m (pos zero) = λ h k. refl
small-multiple m (pos (suc n)) = simp lia (omega arith)
small-multiple m (negsuc n) = simp lia (omega arith)

pub shr-unique : (s : ℤ) (m : ℕ) (q : ℤ) → (pos m *ℤ q) ≤ℤ s → s <ℤ (pos m *ℤ q +ℤ pos m) → shr_z s m ≡ q
shr-unique s m q lo hi =
    let h : 0 < m = given₂ lo hi (simp lia (omega arith)) in
    let e = small-multiple m (shr_z s m -ℤ q) (given₂ (shr-lo s m h) hi (simp lia (omega arith)))
    (given₂ lo (shr-hi s m h) (simp lia (omega arith))) in
    given₁ e (simp lia (omega arith))

-- what is missing to the next number, and what is left over the floor
pub over-next : (m : ℕ) (s q : ℤ) → (pos m *ℤ q) ≤ℤ s → s <ℤ (pos m *ℤ q +ℤ pos m) →
    nat_abs (s -ℤ (pos m *ℤ (q +ℤ pos 1))) + nat_abs (s -ℤ (pos m *ℤ q)) ≡ m
over-next m s q lo hi = given₂ lo hi (simp lia (omega arith))

-- ---- the ceiling
pub ceiling-up : (S : ℕ) (s : ℤ) → 0 < S → s ≤ℤ (pos S *ℤ shr_z (s +ℤ pos (S - 1)) S)
ceiling-up S s h = given₁ (shr-hi (s +ℤ pos (S - 1)) S h) (simp lia (omega arith))
