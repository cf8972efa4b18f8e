-- STAGES THAT CAN BE UNDONE: places that are moved go each to one place, and a weighing has an order in which it is recovered.
use Rattle.std.specs.Prelude.{Bool, true, false, cond, List, [], ◌∷◌, ◌≢◌, ◌≡◌, ℕ, ◌<◌, eqb, ℤ, pos}
use Rattle.whole.specs.Stated.{Sign}
use Rattle.rules.specs.Stages.{Stage, move, weigh}

-- p takes the numbers below N to themselves, each once: `from e` is the one that it takes to e
pub record Permutes (N : ℕ) (p : ℕ → ℕ) : Type 0 where
  pub from : ℕ → ℕ
  pub below : (e : ℕ) → e < N → p e < N
  pub from-below : (e : ℕ) → e < N → from e < N
  pub to-from : (e : ℕ) → e < N → p (from e) ≡ e
  pub from-to : (e : ℕ) → e < N → from (p e) ≡ e

-- whether e stands in the list
unfoldable pub has : ℕ → List ℕ → Bool
has e [] = false
has e (k ∷ ks) = cond (eqb e k) true (has e ks)

-- no place stands twice, and a place's weights are 0 at every later place
pub data InOrder (w : ℕ → ℕ → ℤ) : List ℕ → Type 0 where
  end : InOrder w []
  next : {e : ℕ} {es : List ℕ} → ((k : ℕ) → has k es ≡ true → (k ≢ e) × (w e k ≡ pos 0)) → InOrder w es → InOrder w (e ∷ es)

-- a weighing that can be undone in this order
pub record Recovers (N : ℕ) (d : ℕ → ℤ) (w : ℕ → ℕ → ℤ) (order : List ℕ) : Type 0 where
  pub signs : (e : ℕ) → e < N → Sign (d e)
  pub all : (e : ℕ) → e < N → has e order ≡ true
  pub only : (e : ℕ) → has e order ≡ true → e < N
  pub in_order : InOrder w order

-- a stage of N numbers that can be undone
pub data Good (N : ℕ) : Stage → Type 0 where
  moves : {S : ℕ} {p : ℕ → ℕ} → 0 < S → Permutes N p → Good N (move S p)
  weighs : {S : ℕ} {d : ℕ → ℤ} {w : ℕ → ℕ → ℤ} {o : List ℕ} → 0 < S → Recovers N d w o → Good N (weigh S d w o)

-- and a list of such stages
pub data AllGood (N : ℕ) : List Stage → Type 0 where
  none : AllGood N []
  more : {s : Stage} {ss : List Stage} → Good N s → AllGood N ss → AllGood N (s ∷ ss)
