-- The machine's signed integers: a bound is computed with the number (`within-..`), and a number so bounded fits its width and is
-- read back from its bits: `fits (within-+ h (within-* a x)) tt`. Assumes nothing.
use Rattle.std.specs.Prelude.{◌≡◌, ℕ, ◌+◌, ◌*◌, ◌^◌, ◌≤◌, ◌<◌, ℤ, pos, negsuc, neg_ℤ, nat_abs, ◌+ℤ◌, ◌-ℤ◌, ◌*ℤ◌, T, ltb}
use Rattle.std.proofs.Common.{inl, inr, le_trans, lt_of_le_of_lt, mul-le-mul, div-le_self, arith, lit<, to_z-of_z}
use Rattle.std.specs.Int.Signed.{shr_z, mag}
use Rattle.std.specs.Int.{Width, w32, w64}
use mir.Val.{SFits, hbits, to_z, of_z}
use Rattle.whole.specs.Diff.{lia, zarith, Within}
use Rattle.whole.specs.Stated.{Sign}
use Rattle.whole.specs.Laws.{abs-mul, sign-abs}

-- ---- bounds
pub within-le : {A B : ℕ} {z : ℤ} → A ≤ B → Within A z → Within B z
within-le l h = record { within = le_trans h.within l }

pub within-pos : (n : ℕ) → Within n (pos n)
within-pos n = record { within = omega arith }

pub within-neg : {B : ℕ} {z : ℤ} → Within B z → Within B (neg_ℤ z)
within-neg {B} {z} h = simp lia (omega zarith)

pub within-+ : {A B : ℕ} {a b : ℤ} → Within A a → Within B b → Within (A + B) (a +ℤ b)
within-+ {A} {B} {a} {b} h k = simp lia (omega zarith)

pub within-- : {A B : ℕ} {a b : ℤ} → Within A a → Within B b → Within (A + B) (a -ℤ b)
within-- h k = within-+ h (within-neg k)

pub within-* : {A B : ℕ} {a b : ℤ} → Within A a → Within B b → Within (A * B) (a *ℤ b)
within-* {a} {b} h k = record { within = rw (abs-mul a b) (mul-le-mul h.within k.within) }

-- 1 or -1, and times it
pub sign-within : {d : ℤ} → Sign d → Within 1 d
sign-within (inl e) = rw e (within-pos 1)
sign-within (inr e) = rw e (within-neg (within-pos 1))

pub within-sign : {B : ℕ} {d z : ℤ} → Sign d → Within B z → Within B (d *ℤ z)
within-sign {d} {z} s h = record { within = rw (sign-abs d z s) h.within }

-- a floor and a nearest are no larger than what is divided
pub within-shr : {B : ℕ} {z : ℤ} (m : ℕ) → Within B z → Within B (shr_z z m)
within-shr {z = pos n} m h = record { within = omega (arith, div-le_self n m, h.within) }
within-shr {z = negsuc n} m h = record { within = omega (arith, div-le_self n m, h.within) }

-- ---- widths
pub abs-fits : {w : Width} {z : ℤ} → nat_abs z < 2 ^ hbits w → SFits w z
abs-fits {w} {z} = simp lia (omega arith)

pub fits : {w : Width} {B : ℕ} {z : ℤ} → Within B z → T (ltb B (2 ^ hbits w)) → SFits w z
fits h t = abs-fits (lt_of_le_of_lt h.within (lit< t))

pub widen : {z : ℤ} → SFits w32 z → SFits w64 z
widen {z} = simp lia (omega arith)

-- ---- read back from the bits: a number of a known bound, and a call's result (its `.ok` is the bare bound)
pub reads : (w : Width) {B : ℕ} {z : ℤ} → Within B z → T (ltb B (2 ^ hbits w)) → to_z w (of_z w z) ≡ z
reads w h t = to_z-of_z {w = w} (fits h t)

pub back : (w : Width) (z : ℤ) → mag z < 2 ^ hbits w → to_z w (of_z w z) ≡ z
back w z h = to_z-of_z (record { sfits = h })
