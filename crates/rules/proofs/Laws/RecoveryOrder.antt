-- The order by turns recovers a weighing whose weights are 0 at every other element of the same or a later turn.
use Rattle.std.specs.Prelude.{Bool, false, cond, List, [], ◌∷◌, ◌++◌, ◌≢◌, ◌⊎◌, ◌≡◌, refl, ℤ}
use Rattle.std.proofs.Math.Bool.{true}
use Rattle.std.proofs.Common.{inl, inr, sym, ◌∙◌}
use Rattle.std.proofs.Math.Path.{ap}
use Prim.Native.Nat.{ℕ, zero, suc, ◌≤◌, ◌<◌}
use Rattle.std.proofs.Math.Decide.{ℕ_discrete}
use native.Mathlib.Omega.{arith}
use borrow.Author.Tests.{eq-eqb, ne_eqb, eqb-true}
use Rattle.std.proofs.Math.Dec.{eqb}
use Rattle.std.proofs.Math.IntN.{pos}
use Rattle.whole.specs.Stated.{Sign}
use Rattle.rules.specs.Stages.{those}
use Rattle.rules.specs.Shapes.{by_turn, turn}
use Rattle.rules.specs.GoodStages.{has, InOrder, end, next, Recovers}
use Rattle.rules.proofs.Laws.Membership.{true-false, has-none, has_first, has_more, has_left, has_right, has_either}

-- ---- lists end to end
module _ (w : ℕ → ℕ → ℤ) where
  order-append : {a b : List ℕ} → InOrder w a → InOrder w b →
      ((e k : ℕ) → has e a ≡ true → has k b ≡ true → (k ≢ e) × (w e k ≡ pos 0)) → InOrder w (a ++ b)
  order-append end q h = q
  order-append {b} (next {e} {es} g p) q h =
      next (λ k l. go k (has_either k es b l)) (order-append p q (λ i k x y. h i k (has_more i e es x) y))
    where
      go : (k : ℕ) → (has k es ≡ true) ⊎ (has k b ≡ true) → (k ≢ e) × (w e k ≡ pos 0)
      go k (inl x) = g k x
      go k (inr y) = h e k (has_first e es) y

-- ---- those that pass a test
has_one : (k n : ℕ) (t : Bool) → has k (cond t (n ∷ []) []) ≡ true → (k ≡ n) × (t ≡ true)
unfolding has
has_one k n true h = (go (eqb k n) refl h, refl)
  where
    go : (b : Bool) → eqb k n ≡ b → cond b true false ≡ true → k ≡ n
    go true e h = eqb-true k n e
    go false e h = absurd (true-false h refl)
has_one k n false h = absurd (true-false h refl)

pub has-those : (test : ℕ → Bool) (n k : ℕ) → has k (those test n) ≡ true → (k < n) × (test k ≡ true)
unfolding those
has-those test zero k h = absurd (has-none k h)
has-those test (suc n) k h = go (has-those test n k) (has_either k (those test n) _ h)
  where
    go : (has k (those test n) ≡ true → (k < n) × (test k ≡ true)) →
        (has k (those test n) ≡ true) ⊎ (has k (cond (test n) (n ∷ []) []) ≡ true) → (k < suc n) × (test k ≡ true)
    go ih (inl x) = let p = ih x in (omega arith, p.1)
    go ih (inr y) = let p = has_one k n (test n) y in (omega arith, ap test p.0 ∙ p.1)

pub those-has : (test : ℕ → Bool) (n k : ℕ) → k < n → test k ≡ true → has k (those test n) ≡ true
unfolding those
those-has test zero k l h = absurd (omega arith)
those-has test (suc n) k l h = go (λ l'. those-has test n k l' h) (ℕ_discrete k n)
  where
    go : (k < n → has k (those test n) ≡ true) → Dec (k ≡ n) → has k (those test n ++ cond (test n) (n ∷ []) []) ≡ true
    go ih (yes e) = rw (sym (ap test e) ∙ h) (rw e (has_right n (those test n) (n ∷ []) (has_first n [])))
    go ih (no q) = has_left k (those test n) _ (ih (omega arith))

-- what orders need of weights and turns
pub record Ranked (N T : ℕ) (w : ℕ → ℕ → ℤ) (turn : ℕ → ℕ) : Type 0 where
  pub top : (e : ℕ) → e < N → turn e < T
  pub blind : (e k : ℕ) → e < N → k < N → e ≢ k → turn e ≤ turn k → w e k ≡ pos 0

module _ (w : ℕ → ℕ → ℤ) where
  one-order : (n : ℕ) (t : Bool) → InOrder w (cond t (n ∷ []) [])
  one-order n true = next (λ k h. absurd (has-none k h)) end
  one-order n false = end

  those-order : (test : ℕ → Bool) (n : ℕ) →
      ((e k : ℕ) → e < k → k < n → test e ≡ true → test k ≡ true → w e k ≡ pos 0) → InOrder w (those test n)
  unfolding those
  those-order test zero h = end
  those-order test (suc n) h =
      order-append w (those-order test n (λ e k l m. h e k l (omega arith))) (one-order n (test n))
      (λ e k x y. go e k (has-those test n e x) (has_one k n (test n) y))
    where
      go : (e k : ℕ) → (e < n) × (test e ≡ true) → (k ≡ n) × (test n ≡ true) → (k ≢ e) × (w e k ≡ pos 0)
      go e k x y = (omega arith, rw y.0 (h e n x.0 (omega arith) x.1 y.1))

module _ (N : ℕ) (turn : ℕ → ℕ) where
  pub has-turn : (t k : ℕ) → has k (by_turn N t turn) ≡ true → (k < N) × (turn k < t)
  unfolding by_turn
  has-turn zero k h = absurd (has-none k h)
  has-turn (suc t) k h = go (has-turn t k) (has_either k (by_turn N t turn) _ h)
    where
      go : (has k (by_turn N t turn) ≡ true → (k < N) × (turn k < t)) →
          (has k (by_turn N t turn) ≡ true) ⊎ (has k (those (λ e. eqb (turn e) t) N) ≡ true) → (k < N) × (turn k < suc t)
      go ih (inl x) = let p = ih x in (p.0, omega arith)
      go ih (inr y) = let p = has-those (λ e. eqb (turn e) t) N k y in let q = eqb-true (turn k) t p.1 in (p.0, omega arith)

  pub turn-has : (t k : ℕ) → k < N → turn k < t → has k (by_turn N t turn) ≡ true
  unfolding by_turn
  turn-has zero k l h = absurd (omega arith)
  turn-has (suc t) k l h = go (turn-has t k l) (ℕ_discrete (turn k) t)
    where
      go : (turn k < t → has k (by_turn N t turn) ≡ true) → Dec (turn k ≡ t) →
          has k (by_turn N t turn ++ those (λ e. eqb (turn e) t) N) ≡ true
      go ih (yes e) = has_right k (by_turn N t turn) _ (those-has (λ e. eqb (turn e) t) N k l (eq-eqb (turn k) t e))
      go ih (no q) = has_left k (by_turn N t turn) _ (ih (omega arith))

module _ {N T : ℕ} {w : ℕ → ℕ → ℤ} {turn : ℕ → ℕ} (r : Ranked N T w turn) where
  turn-order : (t : ℕ) → InOrder w (by_turn N t turn)
  unfolding by_turn
  turn-order zero = end
  turn-order (suc t) =
      order-append w (turn-order t)
      (those-order w (λ e. eqb (turn e) t) N
      (λ e k l m x y. r.blind e k (omega arith) m (omega arith) (omega (arith, eqb-true (turn e) t x, eqb-true (turn k) t y))))
      (λ e k x y. go e k (has-turn N turn t e x) (has-those (λ e. eqb (turn e) t) N k y))
    where
      go : (e k : ℕ) → (e < N) × (turn e < t) → (k < N) × (eqb (turn k) t ≡ true) → (k ≢ e) × (w e k ≡ pos 0)
      go e k x y =
          let q = eqb-true (turn k) t y.1 in
          (λ z. omega (arith, ap turn z), r.blind e k x.0 y.0 (λ z. omega (arith, ap turn z)) (omega arith))

  pub turns-recover : {d : ℕ → ℤ} → ((e : ℕ) → e < N → Sign (d e)) → Recovers N d w (by_turn N T turn)
  turns-recover s = record {
    signs = s;
    all = λ e l. turn-has N turn T e l (r.top e l);
    only = λ e h. (has-turn N turn T e h).0;
    in_order = turn-order T;
  }

-- ---- for the code: the orders step by step
those-none : (test : ℕ → Bool) (n : ℕ) → ((e : ℕ) → e < n → test e ≡ false) → those test n ≡ []
unfolding those
those-none test zero h = refl
those-none test (suc n) h = rw (those-none test n (λ e l. h e (omega arith)), h n (omega arith))

those-one : (test : ℕ → Bool) (n e : ℕ) → e < n → test e ≡ true → ((k : ℕ) → k < n → k ≢ e → test k ≡ false) →
    those test n ≡ e ∷ []
unfolding those
those-one test zero e l h q = absurd (omega arith)
those-one test (suc n) e l h q = go (λ m. those-one test n e m h (λ k b. q k (omega arith))) (ℕ_discrete n e)
  where
    go : (e < n → those test n ≡ e ∷ []) → Dec (n ≡ e) → those test n ++ cond (test n) (n ∷ []) [] ≡ e ∷ []
    go ih (yes i) = rw (those-none test n (λ k b. q k (omega arith) (omega arith)), i, h)
    go ih (no i) = rw (ih (omega arith), q n (omega arith) i)

-- a turn that one element has
pub turn_one : (N t : ℕ) (turn : ℕ → ℕ) (e : ℕ) → e < N → turn e ≡ t → ((k : ℕ) → k < N → turn k ≡ t → k ≡ e) →
    by_turn N (suc t) turn ≡ by_turn N t turn ++ (e ∷ [])
unfolding by_turn
turn_one N t turn e l h q =
    rw (those-one (λ k. eqb (turn k) t) N e l (eq-eqb (turn e) t h) (λ k b i. ne_eqb (turn k) t (λ z. i (q k b z))))
