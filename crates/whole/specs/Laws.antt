-- Laws of the whole numbers: products, the order, magnitudes, signs; and `distrib`, which multiplies products out. Assumes
-- nothing.
use Rattle.std.specs.Prelude.{◌≡◌, refl, suc, ◌+◌, ◌*◌, ◌≤◌, ℤ, pos, negsuc, neg_ℤ, ◌+ℤ◌, ◌*ℤ◌, nat_abs, ◌≤ℤ◌}
use Rattle.std.proofs.Common.{inl, inr, arith}
use Rattle.std.proofs.Math.Nat as NatL
use Rattle.whole.specs.Stated.{Sign}
use Rattle.whole.specs.Diff.{lia, zarith, le_read}

-- ---- products. A sum's own laws are `simp lia (omega arith)`, or +ℤ-comm and its like in lib.IntN
pub mul_comm : (a b : ℤ) → a *ℤ b ≡ b *ℤ a
mul_comm a b = simp lia (omega arith)

pub mul_assoc : (a b c : ℤ) → (a *ℤ b) *ℤ c ≡ a *ℤ (b *ℤ c)
mul_assoc a b c = simp lia (omega arith)

pub mul_left_comm : (a b c : ℤ) → a *ℤ (b *ℤ c) ≡ b *ℤ (a *ℤ c)
mul_left_comm a b c = simp lia (omega arith)

pub mul-add : (a b c : ℤ) → a *ℤ (b +ℤ c) ≡ a *ℤ b +ℤ a *ℤ c
mul-add a b c = simp lia (omega arith)

pub add-mul : (a b c : ℤ) → (a +ℤ b) *ℤ c ≡ a *ℤ c +ℤ b *ℤ c
add-mul a b c = simp lia (omega arith)

pub neg-mul : (a b : ℤ) → neg_ℤ a *ℤ b ≡ neg_ℤ (a *ℤ b)
neg-mul a b = simp lia (omega arith)

pub mul-neg : (a b : ℤ) → a *ℤ neg_ℤ b ≡ neg_ℤ (a *ℤ b)
mul-neg a b = simp lia (omega arith)

-- products multiplied out, their factors sorted. A ring equation: `simp distrib (simp lin (omega arith))`
pub ruleset distrib = (mul-add, add-mul, neg-mul, mul-neg, mul_assoc, mul_comm, mul_left_comm)

-- ---- the order
pub le_trans : {a b c : ℤ} → a ≤ℤ b → b ≤ℤ c → a ≤ℤ c
le_trans {a} {b} {c} h k = simp lia (omega zarith)

pub mul_le_mul_left : {a b : ℤ} (c : ℤ) → pos 0 ≤ℤ c → a ≤ℤ b → (c *ℤ a) ≤ℤ (c *ℤ b)
mul_le_mul_left {a} {b} (pos n) p h = simp lia (omega (arith, NatL.mul-le-mul_right n (le_read h)))
mul_le_mul_left {a} {b} (negsuc n) p h = absurd p.le

pub mul_le_mul_right : {a b : ℤ} (c : ℤ) → pos 0 ≤ℤ c → a ≤ℤ b → (a *ℤ c) ≤ℤ (b *ℤ c)
mul_le_mul_right {a} {b} c p h = rw (mul_comm a c, mul_comm b c) (mul_le_mul_left c p h)

-- ---- magnitudes
pub abs-add : (a b : ℤ) → nat_abs (a +ℤ b) ≤ nat_abs a + nat_abs b
abs-add a b = simp lia (omega arith)

pub abs_neg : (a : ℤ) → nat_abs (neg_ℤ a) ≡ nat_abs a
abs_neg a = simp lia (omega arith)

pub abs-mul : (a b : ℤ) → nat_abs (a *ℤ b) ≡ nat_abs a * nat_abs b
abs-mul (pos m) (pos n) = refl
abs-mul (pos m) (negsuc n) = abs_neg (pos (m * suc n))
abs-mul (negsuc m) (pos n) = abs_neg (pos (suc m * n))
abs-mul (negsuc m) (negsuc n) = refl

-- ---- signs: 1 or -1
pub signs-times : {d e : ℤ} → Sign d → Sign e → Sign (d *ℤ e)
signs-times (inl i) (inl j) = inl (rw (i, j))
signs-times (inl i) (inr j) = inr (rw (i, j))
signs-times (inr i) (inl j) = inr (rw (i, j))
signs-times (inr i) (inr j) = inl (rw (i, j))

pub sign-sign : (d z : ℤ) → Sign d → d *ℤ (d *ℤ z) ≡ z
sign-sign d z (inl e) = rw e (simp lia (omega arith))
sign-sign d z (inr e) = rw e (simp lia (omega arith))

pub sign-abs : (d z : ℤ) → Sign d → nat_abs (d *ℤ z) ≡ nat_abs z
sign-abs d z (inl e) = rw e (simp lia (omega arith))
sign-abs d z (inr e) = rw e (simp lia (omega arith))
