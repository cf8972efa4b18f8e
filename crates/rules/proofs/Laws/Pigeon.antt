-- A map of the numbers below N to themselves that takes no two to one is a permutation: what the check of a sheet leaves is
-- enough.
use Rattle.std.specs.Prelude.{Bool, true, false, cond, ◌≢◌, ◌⊎◌, ◌≡◌, refl, ℕ, zero, suc, ◌-◌, ◌<◌, eqb, ltb}
use Rattle.std.proofs.Common.{inl, inr, sym, ap, ◌∙◌, arith, eqb-true, ltb-true, ltb-false}
use Rattle.std.proofs.Math.Decide.{ℕ_discrete, dec_lt}
use Rattle.std.proofs.lemmas.Bool.{eqb-false}
use Rattle.rules.specs.GoodStages.{Permutes}

abbrev pub Apart : ℕ → (ℕ → ℕ) → Type 0
Apart n p = (i j : ℕ) → i < j → j < n → p i ≢ p j

-- the numbers other than v, closed up
squeeze : ℕ → ℕ → ℕ
squeeze v x = cond (ltb v x) (x - 1) x

abbrev Squeezed : ℕ → ℕ → ℕ → Type 0
Squeezed v x y = ((x < v) × (y ≡ x)) ⊎ ((v < x) × (suc y ≡ x))

squeeze-is : (v x : ℕ) → x ≢ v → Squeezed v x (squeeze v x)
unfolding squeeze
squeeze-is v x q = go (ltb v x) refl
  where
    go : (b : Bool) → ltb v x ≡ b → Squeezed v x (cond b (x - 1) x)
    go true e = inr (ltb-true v x e, omega (arith, ltb-true v x e))
    go false e = inl (omega (arith, ltb-false v x e), refl)

squeeze-below : (v x n : ℕ) → x ≢ v → x < suc n → v < suc n → squeeze v x < n
squeeze-below v x n q h k = go (squeeze-is v x q)
  where
    go : Squeezed v x (squeeze v x) → squeeze v x < n
    go (inl a) = omega arith
    go (inr a) = omega arith

squeeze-apart : (v x y : ℕ) → x ≢ v → y ≢ v → x ≢ y → squeeze v x ≢ squeeze v y
squeeze-apart v x y p q r e = go (squeeze-is v x p) (squeeze-is v y q)
  where
    go : Squeezed v x (squeeze v x) → Squeezed v y (squeeze v y) → ⊥
    go (inl a) (inl b) = omega arith
    go (inl a) (inr b) = omega arith
    go (inr a) (inl b) = omega arith
    go (inr a) (inr b) = omega arith

-- n + 1 numbers do not go apart into n
too_many_lem : (n : ℕ) (p : ℕ → ℕ) → ((i : ℕ) → i < suc n → p i < n) → Apart (suc n) p → ⊥
too_many_lem zero p h a = omega (arith, h 0 (omega arith))
too_many_lem (suc n) p h a =
    let v = p (suc n) in
    too_many_lem n (λ i. squeeze v (p i))
    (λ i l. squeeze-below v (p i) n (a i (suc n) l (omega arith)) (h i (omega arith)) (h (suc n) (omega arith)))
    (λ i j l m. squeeze-apart v (p i) (p j) (a i (suc n) (omega arith) (omega arith)) (a j (suc n) m (omega arith))
    (a i j l (omega arith)))

-- the number below n that p takes to e
find : (ℕ → ℕ) → ℕ → ℕ → ℕ
find p e zero = 0
find p e (suc n) = cond (eqb (p n) e) n (find p e n)

-- i is below n and goes to e, or none below n does
abbrev Found : (ℕ → ℕ) → ℕ → ℕ → ℕ → Type 0
Found p e n i = ((i < n) × (p i ≡ e)) ⊎ ((i : ℕ) → i < n → p i ≢ e)

find-or-none : (p : ℕ → ℕ) (e n : ℕ) → Found p e n (find p e n)
unfolding find
find-or-none p e zero = inr (λ i l q. omega arith)
find-or-none p e (suc n) = go (find-or-none p e n) (eqb (p n) e) refl
  where
    go : Found p e n (find p e n) → (b : Bool) → eqb (p n) e ≡ b → Found p e (suc n) (cond b n (find p e n))
    go r true h = inl (omega arith, eqb-true (p n) e h)
    go (inl a) false h = inl (omega arith, a.1)
    go (inr f) false h = inr (λ i l q. other i l q (ℕ_discrete i n))
      where
        other : (i : ℕ) → i < suc n → p i ≡ e → Dec (i ≡ n) → ⊥
        other i l q (yes k) = eqb-false (p n) e h (ap p (sym k) ∙ q)
        other i l q (no k) = f i (omega arith) q

module _ (N : ℕ) (p : ℕ → ℕ) (below : (e : ℕ) → e < N → p e < N) (apart : Apart N p) where
  found : (e : ℕ) → e < N → (find p e N < N) × (p (find p e N) ≡ e)
  found e l = go (find-or-none p e N)
    where
      missed : (n : ℕ) → N ≡ suc n → ((i : ℕ) → i < N → p i ≢ e) → ⊥
      missed n q f = too_many_lem n (λ i. squeeze e (p i))
          (λ i h. squeeze-below e (p i) n (f i (omega arith)) (omega (arith, below i (omega arith))) (omega arith))
          (λ i j h k. squeeze-apart e (p i) (p j) (f i (omega arith)) (f j (omega arith)) (apart i j h (omega arith)))

      go : Found p e N (find p e N) → (find p e N < N) × (p (find p e N) ≡ e)
      go (inl a) = a
      go (inr f) = absurd (missed (N - 1) (omega arith) f)

  same : (i j : ℕ) → i < N → j < N → p i ≡ p j → i ≡ j
  same i j h k e = go (dec_lt i j) (dec_lt j i)
    where
      go : Dec (i < j) → Dec (j < i) → i ≡ j
      go (yes l) m = absurd (apart i j l k e)
      go (no l) (yes m) = absurd (apart j i m h (sym e))
      go (no l) (no m) = omega arith

  pub apart-permutes : Permutes N p
  apart-permutes = record {
    from = λ e. find p e N;
    below = below;
    from-below = λ e l. (found e l).0;
    to-from = λ e l. (found e l).1;
    from-to = λ e l. let f = found (p e) (below e l) in same (find p (p e) N) e f.0 l f.1;
  }
