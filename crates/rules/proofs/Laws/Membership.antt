-- Which places stand in a list, and in lists end to end.
use Rattle.std.specs.Prelude.{Bool, true, false, cond, List, [], ◌∷◌, ◌++◌, ◌≢◌, ◌⊎◌, ◌≡◌, refl, ℕ, eqb}
use Rattle.std.proofs.Common.{inl, inr, sym, ◌∙◌, arith, eq-eqb, ne_eqb}
use Rattle.rules.specs.GoodStages.{has}

pub true-false : {b : Bool} → b ≡ true → b ≡ false → ⊥
true-false p q = let z : ◌≡◌ {A = ℕ} 0 1 = cc in omega arith

any-true : (b : Bool) → cond b true true ≡ true
any-true true = refl
any-true false = refl

pub has-none : (k : ℕ) → has k [] ≡ true → ⊥
unfolding has
has-none k h = true-false h refl

pub has_first : (e : ℕ) (es : List ℕ) → has e (e ∷ es) ≡ true
unfolding has
has_first e es = rw (eq-eqb e e refl)

pub has_rest : (k e : ℕ) (es : List ℕ) → k ≢ e → has k (e ∷ es) ≡ has k es
unfolding has
has_rest k e es q = rw (ne_eqb k e q)

pub has_more : (k e : ℕ) (es : List ℕ) → has k es ≡ true → has k (e ∷ es) ≡ true
unfolding has
has_more k e es h = rw h (any-true (eqb k e))

-- ---- lists end to end
has-append : (k : ℕ) (a b : List ℕ) → has k (a ++ b) ≡ cond (has k a) true (has k b)
unfolding has
has-append k [] b = refl
has-append k (e ∷ a) b = rw (has-append k a b) (go (eqb k e))
  where
    go : (t : Bool) → cond t true (cond (has k a) true (has k b)) ≡ cond (cond t true (has k a)) true (has k b)
    go true = refl
    go false = refl

pub has_left : (k : ℕ) (a b : List ℕ) → has k a ≡ true → has k (a ++ b) ≡ true
has_left k a b h = rw (has-append k a b, h)

pub has_right : (k : ℕ) (a b : List ℕ) → has k b ≡ true → has k (a ++ b) ≡ true
has_right k a b h = rw (has-append k a b, h) (any-true (has k a))

pub has_either : (k : ℕ) (a b : List ℕ) → has k (a ++ b) ≡ true → (has k a ≡ true) ⊎ (has k b ≡ true)
has_either k a b h = go (has k a) (has k b) (sym (has-append k a b) ∙ h)
  where
    go : (s t : Bool) → cond s true t ≡ true → (s ≡ true) ⊎ (t ≡ true)
    go true t e = inl refl
    go false t e = inr e
