-- Laws of the first place at which a test holds, and of the positions of two sheets whose kinds are compared.
-- Assumes nothing.
use Rattle.std.specs.Prelude.{Bool, true, false, not, cond, ◌≡◌, refl, ℕ, zero, suc, ◌<◌, eqb}
use Rattle.std.proofs.Common.{sym, ap, ◌∙◌, arith, eq-eqb, ne_eqb}
use Rattle.rules.specs.Answers.{first}

pub first-none : (t : ℕ → Bool) (m : ℕ) → ((k : ℕ) → k < m → t k ≡ false) → first t m ≡ m
unfolding first
first-none t zero h = refl
first-none t (suc m) h =
    rw (h 0 (omega arith)) (ap suc (first-none (λ k. t (suc k)) m (λ k l. h (suc k) (omega arith))))

pub first-here :
    (t : ℕ → Bool) (m f : ℕ) → f < m → ((k : ℕ) → k < f → t k ≡ false) → t f ≡ true → first t m ≡ f
unfolding first
first-here t zero f l h e = absurd (omega arith)
first-here t (suc m) zero l h e = rw e
first-here t (suc m) (suc f) l h e =
    rw (h 0 (omega arith)) (ap suc (first-here (λ k. t (suc k)) m f (omega arith) (λ k b. h (suc k) (omega arith)) e))

-- the test fails before that place
pub first-before : (t : ℕ → Bool) (m k : ℕ) → k < first t m → t k ≡ false
unfolding first
first-before t zero k l = absurd (omega arith)
first-before t (suc m) k l = split (λ k. first-before (λ j. t (suc j)) m k) (t 0) refl k l
  where
    split :
        ((k : ℕ) → k < first (λ j. t (suc j)) m → t (suc k) ≡ false) →
        (b : Bool) → t 0 ≡ b → (k : ℕ) → k < cond b 0 (suc (first (λ j. t (suc j)) m)) → t k ≡ false
    split again true e k l = absurd (omega arith)
    split again false e zero l = e
    split again false e (suc k) l = again k (omega arith)

-- two kind numbers that were compared
pub kinds-differ : {a b : ℕ} (x y : ℕ) → a ≡ x → b ≡ y → (a ≡ b → ⊥) → not (eqb x y) ≡ true
kinds-differ x y p q h = rw (ne_eqb x y (λ e. h (p ∙ e ∙ sym q)))

pub kinds-same : {a b : ℕ} (x y : ℕ) → a ≡ x → b ≡ y → a ≡ b → not (eqb x y) ≡ false
kinds-same x y p q h = rw (eq-eqb x y (sym p ∙ h ∙ q))
