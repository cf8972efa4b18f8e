-- LAWS OF FINITE SUMS of whole numbers, as a loop makes them: the last term is added last. Assumes nothing.
use Rattle.std.specs.Prelude.{◌≡◌, refl, ◌≢◌, ℕ, zero, suc, ◌+◌, ◌*◌, ◌≤◌, ◌<◌, ℤ, pos, ◌+ℤ◌, ◌*ℤ◌, nat_abs}
use Rattle.std.proofs.Common.{sym, ap₂, add-suc, arith}
use Rattle.std.proofs.Math.Numerals.{unary_clauses}
use Rattle.std.proofs.Math.Decide.{ℕ_discrete}
use Rattle.whole.specs.Stated.{sum}
use Rattle.whole.specs.Diff.{lia, Within}
use Rattle.whole.specs.Laws.{abs-add}

pub sum-cong : (n : ℕ) (f g : ℕ → ℤ) → ((i : ℕ) → i < n → f i ≡ g i) → sum n f ≡ sum n g
unfolding sum
sum-cong zero f g h = refl
sum-cong (suc n) f g h = ap₂ ◌+ℤ◌ (sum-cong n f g (λ i p. h i (omega arith))) (h n (omega arith))

pub sum-add : (n : ℕ) (f g : ℕ → ℤ) → sum n (λ i. f i +ℤ g i) ≡ sum n f +ℤ sum n g
unfolding sum
sum-add zero f g = refl
sum-add (suc n) f g = rw (sum-add n f g) (simp lia (omega arith))

pub sum-scale : (n : ℕ) (c : ℤ) (f : ℕ → ℤ) → sum n (λ i. c *ℤ f i) ≡ c *ℤ sum n f
unfolding sum
sum-scale zero c f = simp lia (omega arith)
sum-scale (suc n) c f = rw (sum-scale n c f) (simp lia (omega arith))

pub sum-scaled : (n : ℕ) (c : ℤ) (f : ℕ → ℤ) → sum n (λ i. f i *ℤ c) ≡ sum n f *ℤ c
unfolding sum
sum-scaled zero c f = simp lia (omega arith)
sum-scaled (suc n) c f = rw (sum-scaled n c f) (simp lia (omega arith))

pub sum-none : (n : ℕ) (f : ℕ → ℤ) → ((i : ℕ) → i < n → f i ≡ pos 0) → sum n f ≡ pos 0
unfolding sum
sum-none zero f h = refl
sum-none (suc n) f h = rw (sum-none n f (λ i p. h i (omega arith)), h n (omega arith))

pub sum-split : (m n : ℕ) (f : ℕ → ℤ) → sum (m + n) f ≡ sum m f +ℤ sum n (λ i. f (m + i))
unfolding sum
sum-split m zero f = simp unary_clauses (simp lia (omega arith))
sum-split m (suc n) f = rw (add-suc m n, sum-split m n f) (simp lia (omega arith))

pub sum_first : (n : ℕ) (f : ℕ → ℤ) → sum (suc n) f ≡ f 0 +ℤ sum n (λ i. f (suc i))
unfolding sum
sum_first zero f = simp lia (omega arith)
sum_first (suc n) f = rw (sum_first n f) (simp lia (omega arith))

pub sum-single : (n k : ℕ) (f : ℕ → ℤ) → k < n → ((i : ℕ) → i < n → i ≢ k → f i ≡ pos 0) → sum n f ≡ f k
unfolding sum
sum-single zero k f p h = absurd (omega arith)
sum-single (suc n) k f p h = go (sum-single n k f) (ℕ_discrete n k)
  where
    go : (k < n → ((i : ℕ) → i < n → i ≢ k → f i ≡ pos 0) → sum n f ≡ f k) → Dec (n ≡ k) → sum n f +ℤ f n ≡ f k
    go r (yes e) = rw (sum-none n f (λ i q. h i (omega arith) (omega arith)), e) (simp lia (omega arith))
    go r (no e) = rw (r (omega arith) (λ i q. h i (omega arith)), h n (omega arith) e) (simp lia (omega arith))

-- the order of a double sum
pub sum-swap : (m n : ℕ) (f : ℕ → ℕ → ℤ) → sum m (λ i. sum n (λ j. f i j)) ≡ sum n (λ j. sum m (λ i. f i j))
unfolding sum
sum-swap zero n f = sym (sum-none n (λ j. pos 0) (λ i p. refl))
sum-swap (suc m) n f = rw (sum-swap m n f) (sym (sum-add n (λ j. sum m (λ i. f i j)) (f m)))

-- ---- bounds

pub sum_bound : (n B : ℕ) (f : ℕ → ℤ) → ((i : ℕ) → i < n → nat_abs (f i) ≤ B) → nat_abs (sum n f) ≤ n * B
unfolding sum
sum_bound zero B f h = omega arith
sum_bound (suc n) B f h = omega (arith, abs-add (sum n f) (f n), sum_bound n B f (λ i p. h i (omega arith)), h n (omega arith))

pub sum-within : (n : ℕ) (f : ℕ → ℤ) {B : ℕ} → ((i : ℕ) → i < n → Within B (f i)) → Within (n * B) (sum n f)
sum-within n f {B} h = record { within = sum_bound n B f (λ i p. (h i p).within) }
