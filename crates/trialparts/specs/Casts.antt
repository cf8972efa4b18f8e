-- CASTS of words: to counts and bytes where they are at least 0, and to the number that their bits are.
use Rattle.std.specs.Prelude.{◌≡◌, ℕ, suc, ◌-◌, ◌^◌, ◌<◌, Bool, true, false, cond, T, ℤ, pos, negsuc, ◌+ℤ◌, FitsSigned, int_lt, unsigned_abs}
use Rattle.std.proofs.Common.{ap, ◌∙◌, subst, arith, ltb-true, ltb-false, le-ltb}
use Rattle.std.specs.Int.Signed.{non_neg}
use Rattle.std.specs.Int.{w8, w32, w64}
use mir.Val.{Fits, to_z, sel}
use Rattle.std.proofs.Math.Facts.{to_z_pos, sfits_widen}

pub count_fits : (z : ℤ) → FitsSigned w32 z → int_lt z (pos 0) ≡ false → T (non_neg z) × Fits w64 (unsigned_abs z)
count_fits (pos n) f t = (tt, record { fits = omega (arith, f.sfits) })
count_fits (negsuc n) f t = absurd (subst T t tt)

pub byte_fits : (z : ℤ) → int_lt z (pos 0) ≡ false → int_lt (pos 255) z ≡ false → T (non_neg z) × Fits w8 (unsigned_abs z)
byte_fits (pos n) t u = (tt, record { fits = omega (arith, ltb-false 255 n u) })
byte_fits (negsuc n) t u = absurd (subst T t tt)

-- ---- the bits of a word: the word itself, or 2 ^ 32 more than one below zero
pub record Bits (z v : ℤ) : Type 0 where
  pub wide : FitsSigned w64 v
  pub sign : T (non_neg v)
  pub fits : Fits w32 (unsigned_abs v)
  pub stand-for : to_z w32 (unsigned_abs v) ≡ z

pub itself : (z : ℤ) → FitsSigned w32 z → int_lt z (pos 0) ≡ false → Bits z z
itself (pos n) f t =
    record {
      wide = sfits_widen {w = w32} tt f;
      sign = tt;
      fits = record { fits = omega (arith, f.sfits) };
      stand-for = to_z_pos w32 {n = n} f.sfits;
    }
itself (negsuc n) f t = absurd (subst T t tt)

more : (n : ℕ) → n < 2147483648 → negsuc n +ℤ pos 4294967296 ≡ pos (4294967296 - suc n)
more n l =
    ap (λ (t : Bool). cond t (negsuc (suc n - suc 4294967296)) (pos (4294967296 - suc n)))
    (le-ltb 4294967296 (suc n) (omega arith))

high : (n : ℕ) → n < 2147483648 → to_z w32 (4294967296 - suc n) ≡ negsuc n
high n l =
    let u = 4294967296 - suc n in
    ap (λ (t : Bool). sel t (pos u) (negsuc (2 ^ 32 - suc u))) (le-ltb u (2 ^ 31) (omega arith)) ∙ ap negsuc (omega arith)

pub more-below : (z : ℤ) → FitsSigned w32 z → int_lt z (pos 0) ≡ true → Bits z (z +ℤ pos 4294967296)
more-below (pos n) f t = let l : n < 0 = ltb-true n 0 t in absurd (omega arith)
more-below (negsuc n) f t =
    rw (more n f.sfits) (record {
      wide = record { sfits = omega arith };
      sign = tt;
      fits = record { fits = omega arith };
      stand-for = high n f.sfits;
    })
