-- THE FIRST ELEMENT BEYOND THE BOUND along an order: which it is, in reading order and in an order by turns. And the orders along
-- which a run looks have elements of the block only.
use Rattle.std.specs.Prelude.{Bool, ◌⊎◌, ◌≡◌, ℤ, nat_abs}
use Rattle.std.proofs.Math.Bool.{true, cond}
use mathlib.Core.List.{List, [], ◌∷◌, ◌++◌}
use Rattle.std.proofs.Common.{inl, inr, ◌∙◌}
use Rattle.std.proofs.Math.Path.{refl, sym}
use Prim.Native.Nat.{ℕ, zero, suc, ◌<◌}
use Rattle.std.proofs.Math.Decide.{ℕ_discrete}
use native.Mathlib.Omega.{arith}
use borrow.Author.Tests.{eq-eqb, eqb-true, le-leb, lt-leb}
use Rattle.std.proofs.Math.Dec.{eqb}
use Rattle.whole.specs.Diff.{Within}
use Rattle.rules.specs.Numbers.{at}
use Rattle.rules.specs.Stages.{those, up_to, offender, Stage, recovery}
use Rattle.rules.specs.Shapes.{by_turn}
use Rattle.rules.specs.GoodStages.{has, Good, moves, weighs}
use Rattle.rules.proofs.Laws.Membership.{has-none, has_first, has_rest, has_more}
use Rattle.rules.proofs.Laws.RecoveryOrder.{has-those, those-has, has-turn, turn-has}

-- ---- the orders of a run
pub read_below : (N e : ℕ) → has e (up_to N) ≡ true → e < N
read_below N e h = (has-those (λ k. true) N e h).0

pub recovered-below : {N : ℕ} {s : Stage} → Good N s → (e : ℕ) → has e (recovery N s) ≡ true → e < N
unfolding recovery
recovered-below {N} (moves c h) e k = read_below N e k
recovered-below (weighs c h) e k = h.only e k

module _ (B : ℕ) (v : List ℤ) where
  -- ---- a part of an order in which no number is beyond, and a part in which one is
  skips : (es ks : List ℕ) → ((k : ℕ) → has k es ≡ true → Within B (at v k)) → offender B (es ++ ks) v ≡ offender B ks v
  unfolding offender
  skips [] ks h = refl
  skips (e ∷ es) ks h =
      rw (le-leb (nat_abs (at v e)) B (h e (has_first e es)).within) (skips es ks (λ k m. h k (has_more k e es m)))

  here : (e : ℕ) (es : List ℕ) → B < nat_abs (at v e) → offender B (e ∷ es) v ≡ e
  unfolding offender
  here e es h = rw (lt-leb (nat_abs (at v e)) B h)

  stays : (es ks : List ℕ) (e : ℕ) → has e es ≡ true → B < nat_abs (at v e) → offender B (es ++ ks) v ≡ offender B es v
  unfolding offender
  stays [] ks e h l = absurd (has-none e h)
  stays (k ∷ es) ks e h l = split (λ m. stays es ks e m l) (ℕ_discrete e k)
    where
      split : (has e es ≡ true → offender B (es ++ ks) v ≡ offender B es v) → Dec (e ≡ k) →
          offender B (k ∷ (es ++ ks)) v ≡ offender B (k ∷ es) v
      split ih (yes q) = rw (← q) (here e (es ++ ks) l ∙ sym (here e es l))
      split ih (no q) = rw (ih (sym (has_rest e k es q) ∙ h))

  -- no number is beyond: the element is 0
  pub none-beyond : (es : List ℕ) → ((k : ℕ) → has k es ≡ true → Within B (at v k)) → offender B es v ≡ 0
  unfolding offender
  none-beyond [] h = refl
  none-beyond (e ∷ es) h =
      rw (le-leb (nat_abs (at v e)) B (h e (has_first e es)).within) (none-beyond es (λ k m. h k (has_more k e es m)))

  -- ---- upward: the first of those that pass a test
  first-of-those : (test : ℕ → Bool) (n e : ℕ) → e < n → test e ≡ true → B < nat_abs (at v e) →
      ((k : ℕ) → k < e → test k ≡ true → Within B (at v k)) → offender B (those test n) v ≡ e
  unfolding those
  first-of-those test zero e l t b h = absurd (omega arith)
  first-of-those test (suc n) e l t b h = split (λ m. first-of-those test n e m t b h) (ℕ_discrete e n)
    where
      split : (e < n → offender B (those test n) v ≡ e) → Dec (e ≡ n) →
          offender B (those test n ++ cond (test n) (n ∷ []) []) v ≡ e
      split ih (yes q) =
          rw (← q, t) (skips (those test e) (e ∷ []) (λ k m. let a = has-those test e k m in h k a.0 a.1) ∙ here e [] b)
      split ih (no q) = stays (those test n) _ e (those-has test n e (omega arith) t) b ∙ ih (omega arith)

  -- in reading order
  pub first_read_lem : (N e : ℕ) → e < N → B < nat_abs (at v e) → ((k : ℕ) → k < e → Within B (at v k)) → offender B (up_to N) v ≡ e
  first_read_lem N e l b h = first-of-those (λ k. true) N e l refl b (λ k m t. h k m)

  -- by turns: no number is beyond in an earlier turn, nor before it in its own
  pub first-by-turn : (N T : ℕ) (turn : ℕ → ℕ) (e : ℕ) → e < N → turn e < T → B < nat_abs (at v e) →
      ((k : ℕ) → k < N → (turn k < turn e) ⊎ ((turn k ≡ turn e) × (k < e)) → Within B (at v k)) →
      offender B (by_turn N T turn) v ≡ e
  unfolding by_turn
  first-by-turn N zero turn e l m b h = absurd (omega arith)
  first-by-turn N (suc t) turn e l m b h = split (λ i. first-by-turn N t turn e l i b h) (ℕ_discrete (turn e) t)
    where
      split : (turn e < t → offender B (by_turn N t turn) v ≡ e) → Dec (turn e ≡ t) →
          offender B (by_turn N t turn ++ those (λ k. eqb (turn k) t) N) v ≡ e
      split ih (yes q) =
          skips (by_turn N t turn) _ (λ k i. let a = has-turn N turn t k i in h k a.0 (inl (omega arith)))
          ∙ first-of-those (λ k. eqb (turn k) t) N e l (eq-eqb (turn e) t q) b
          (λ k i c. let d = eqb-true (turn k) t c in h k (omega arith) (inr (omega arith, i)))
      split ih (no q) = stays (by_turn N t turn) _ e (turn-has N turn t e l (omega arith)) b ∙ ih (omega arith)
