-- REQUEST R-2: how far a recipe of four points is from the transpose of the DCT that source 001 prints in section 5.
use Rattle.std.specs.Prelude.{Bool, true, false, cond, List, [], ◌∷◌, ℕ, zero, suc, ◌+◌, ◌*◌, ◌/◌, ◌%◌, eqb, leb, ℤ, pos, neg_ℤ, nat_abs, ◌-ℤ◌, ◌*ℤ◌, replicate}
use Rattle.rules.specs.Numbers.{at}
use Rattle.rules.specs.Factors.{factors}
use Rattle.rules.specs.Stages.{Stage, fill, exact_product, exact_scale}
use Rattle.rules.specs.Shapes.{line_stages}

abbrev neg : ℕ → ℤ
neg n = neg_ℤ (pos n)

-- "DCT" as printed, row by row, in ten-thousandths
abbrev pub printed_dct : List ℤ
printed_dct =
    pos 5000 ∷ pos 5000 ∷ pos 5000 ∷ pos 5000
    ∷ pos 6533 ∷ pos 2706 ∷ neg 2706 ∷ neg 6533
    ∷ pos 5000 ∷ neg 5000 ∷ neg 5000 ∷ pos 5000
    ∷ pos 2706 ∷ neg 6533 ∷ pos 6533 ∷ neg 2706
    ∷ []

-- a recipe of four points, and its stages
abbrev pub stages_of_four : List ℤ → List Stage
stages_of_four s = line_stages 4 (factors s)

-- element (i,j) of the exact product of a recipe of four points: where 1 at place j, 0 elsewhere, goes at place i; and its scale
unfoldable pub element : List ℤ → ℕ → ℕ → ℤ
element s i j = at (exact_product 4 (stages_of_four s) (fill 4 (λ k. cond (eqb k j) (pos 1) (pos 0)) (replicate 4 (pos 0)))) i

abbrev pub scale_of : List ℤ → ℕ
scale_of s = exact_scale (stages_of_four s)

-- how far it is from element (j,i) of the DCT, in ten-thousandths of the scale
abbrev pub distance : List ℤ → ℕ → ℕ → ℕ
distance s i j = nat_abs ((pos 10000 *ℤ element s i j) -ℤ (pos (scale_of s) *ℤ at printed_dct (j * 4 + i)))

-- THE TEST: each of the sixteen elements is within 50/10000
unfoldable pub all : ℕ → (ℕ → Bool) → Bool
all zero f = true
all (suc n) f = cond (f n) (all n f) false

-- and a recipe that passes it
unfoldable pub is_cosine : List ℤ → Bool
is_cosine s = all 16 (λ e. leb (distance s (e / 4) (e % 4)) (50 * scale_of s))
