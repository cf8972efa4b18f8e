-- WHAT STATEMENTS USE of whole numbers: sums and signs. Laws of both stand in `Sum` and `Laws`.
use Rattle.std.specs.Prelude.{◌⊎◌, ◌≡◌, ℕ, zero, suc, ℤ, pos, negsuc, ◌+ℤ◌}

-- f 0 + .. + f (n - 1)
unfoldable pub sum : ℕ → (ℕ → ℤ) → ℤ
sum zero f = pos 0
sum (suc n) f = sum n f +ℤ f n

-- 1 or -1
abbrev pub Sign : ℤ → Type 0
Sign d = (d ≡ pos 1) ⊎ (d ≡ negsuc 0)
