-- THE BUILT-IN RECIPE IS CLOSE TO THE COSINE TRANSFORM, element by element. `cosine` stands in a file of its own, so that a wrong
-- table under it is refused there.
use Rattle.std.specs.Prelude.{Bool, true, false, cond, ◌≡◌, refl, ℕ, zero, suc, ◌+◌, ◌*◌, ◌/◌, ◌%◌, ◌≤◌, ◌<◌, leb}
use Rattle.std.proofs.Common.{ap, ◌∙◌, arith, leb-true}
use Rattle.std.proofs.Math.Decide.{ℕ_discrete}
use Rattle.rules.specs.Calls.{built_in}
use Rattle.rules.specs.Cosine.{scale_of, distance, all, is_cosine}
use Rattle.rules.proofs.Laws.Rectangles.{row-of, col-of, element-below}
use Rattle.rules.proofs.Laws.CosineClose.{cosine}

-- what the test says of each element
all-at : (n : ℕ) (f : ℕ → Bool) → all n f ≡ true → (e : ℕ) → e < n → f e ≡ true
unfolding all
all-at zero f h e l = absurd (omega arith)
all-at (suc n) f h e l = go (f n) refl h (λ k m. all-at n f k e m) (ℕ_discrete e n)
  where
    go : (b : Bool) → f n ≡ b → cond b (all n f) false ≡ true → (all n f ≡ true → e < n → f e ≡ true) → Dec (e ≡ n) → f e ≡ true
    go true q k ih (yes i) = ap f i ∙ q
    go true q k ih (no i) = ih k (omega arith)
    go false q k ih d = let z : ◌≡◌ {A = ℕ} 0 1 = cc in absurd (omega arith)

-- EACH ELEMENT of the corrected recipe's exact product is within 50/10000 of the transposed DCT
pub cosine-close : (i j : ℕ) → i < 4 → j < 4 → distance built_in i j ≤ 50 * scale_of built_in
unfolding is_cosine
cosine-close i j a b =
    let e : leb (distance built_in ((i * 4 + j) / 4) ((i * 4 + j) % 4)) (50 * scale_of built_in) ≡ true =
    all-at 16 (λ e. leb (distance built_in (e / 4) (e % 4)) (50 * scale_of built_in)) cosine (i * 4 + j)
    (element-below 4 4 i j a b) in
    leb-true _ _ (rw (row-of 0 4 i j b, col-of 0 4 i j b) at e)
