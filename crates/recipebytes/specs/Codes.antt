-- A NUMBER AND ITS CODE: each gives the other back. Then both by the tests that the code of src/ makes.
use Rattle.std.specs.Prelude.{true, false, ◌≡◌, refl, ℕ, suc, ◌+◌, ◌-◌, ◌*◌, ◌/◌, ◌%◌, ◌<◌, T, ℤ, pos, negsuc, nat_abs, ◌+ℤ◌, ◌-ℤ◌}
use Rattle.std.proofs.Common.{ap, ◌∙◌, arith, ltb-true, ne_eqb}
use Rattle.std.proofs.Math.Decide.{ℕ_discrete}
use Rattle.std.specs.Int.Signed.{lt_z, non_neg, mag}
use Rattle.whole.specs.Diff.{lia, Within}
use Rattle.rules.specs.Numbers.{most_entry}
use Rattle.rules.specs.Recipes.{code, value}
use Rattle.laws.specs.Tests.{apart}

-- how many codes have at most three groups
abbrev pub codes : ℕ
codes = 2097152

-- a number whose code has at most three groups
pub record Codable (v : ℤ) : Type 0 where
  pub fits : code v < codes

pub small-codable : (v : ℤ) → Within most_entry v → Codable v
unfolding code
small-codable (pos n) h = let a = h.within in record { fits = omega arith }
small-codable (negsuc n) h = let a = h.within in record { fits = omega arith }

-- ---- a code by its last bit
pub value-even : (u : ℕ) → u % 2 ≡ 0 → value u ≡ pos (u / 2)
unfolding value
value-even u h = rw h

pub value-odd : (u : ℕ) → (u % 2 ≡ 0 → ⊥) → value u ≡ negsuc (u / 2)
unfolding value
value-odd u h = rw (ne_eqb (u % 2) 0 h)

-- how the code of src/ comes to it
pub minus-one-less : (h : ℕ) → (pos 0 -ℤ pos h) -ℤ pos 1 ≡ negsuc h
minus-one-less h = simp lia (omega arith)

-- ---- there and back
pub value-code : (v : ℤ) → value (code v) ≡ v
unfolding code
value-code (pos n) = let e : 2 * n / 2 ≡ n = omega arith in value-even (2 * n) (omega arith) ∙ ap pos e
value-code (negsuc n) =
    let e : (2 * suc n - 1) / 2 ≡ n = omega arith in
    value-odd (2 * suc n - 1) (λ z. omega arith) ∙ ap negsuc e

pub code-value : (u : ℕ) → code (value u) ≡ u
unfolding code
code-value u = split (ℕ_discrete (u % 2) 0)
  where
    split : Dec (u % 2 ≡ 0) → code (value u) ≡ u
    split (yes e) = rw (value-even u e) (omega arith)
    split (no n) = rw (value-odd u n) (omega arith)

-- ---- a number by its sign
-- below zero: -(v + 1), which fits where -v may not, is h, and the code is 2h + 1
pub record Below (v : ℤ) (h : ℕ) : Type 0 where
  pub less_one : pos 0 -ℤ (v +ℤ pos 1) ≡ pos h
  pub code_is : code v ≡ 2 * h + 1
  pub mag_is : mag v ≡ h

pub below-zero : (v : ℤ) → lt_z v (pos 0) ≡ true → Below v (nat_abs v - 1)
unfolding code
below-zero (pos m) h = let l : m < 0 = ltb-true m 0 h in absurd (omega arith)
below-zero (negsuc n) h = record { less_one = simp lia (omega arith); code_is = omega arith; mag_is = omega arith }

-- not below zero: the code is twice the number
pub record Above (v : ℤ) : Type 0 where
  pub sign : T (non_neg v)
  pub code_is : code v ≡ 2 * nat_abs v
  pub mag_is : mag v ≡ nat_abs v

pub above_zero : (v : ℤ) → lt_z v (pos 0) ≡ false → Above v
unfolding code
above_zero (pos m) h = record { sign = tt; code_is = refl; mag_is = refl }
above_zero (negsuc n) h = apart h
