-- WHAT THE LAWS ASK: of a factor from which a stage that can be undone is made, and of the rounding.
use Rattle.std.specs.Prelude.{true, List, [], ◌∷◌, ◌≢◌, ◌≡◌, refl, ℕ, ◌*◌, ◌≤◌, ◌<◌, ℤ, pos, nat_abs, ◌-ℤ◌, ◌*ℤ◌}
use Rattle.whole.specs.Stated.{Sign}
use Rattle.whole.specs.Diff.{Within}
use Rattle.rules.specs.declared.Kind.TheVariants.{Permutation}
use Rattle.rules.specs.Numbers.{most_entry, unit}
use Rattle.rules.specs.Factors.{Factor, has_entry}
use Rattle.rules.specs.Stages.{weigh}
use Rattle.rules.specs.GoodStages.{Permutes, Recovers, Good, weighs}

-- ---- stages that can be undone
pub same-permutes : (n : ℕ) → Permutes n (λ e. e)
same-permutes n = record { from = λ e. e; below = λ e l. l; from-below = λ e l. l; to-from = λ e l. refl; from-to = λ e l. refl }

pub good-recovers : {N S : ℕ} {d : ℕ → ℤ} {w : ℕ → ℕ → ℤ} {o : List ℕ} → Good N (weigh S d w o) → Recovers N d w o
good-recovers (weighs b h) = h

-- ---- factors
-- a factor of order n that a checked sheet has
pub record Sound (n : ℕ) (f : Factor) : Type 0 where
  pub places : f.kind ≡ Permutation → Permutes n f.place
  pub signs : f.kind ≢ Permutation → (m : ℕ) → m < n → Sign (f.sign m)
  pub entries : (m k : ℕ) → m < n → k < n → m ≢ k → has_entry f.kind f.row m k ≡ true → Within most_entry (f.entry m k)

pub data AllSound (n : ℕ) : List Factor → Type 0 where
  none : AllSound n []
  more : {f : Factor} {fs : List Factor} → Sound n f → AllSound n fs → AllSound n (f ∷ fs)

-- two lists of factors that match: sound, and kind for kind the same
pub data AllMatch (n1 n2 : ℕ) : List Factor → List Factor → Type 0 where
  none : AllMatch n1 n2 [] []
  more : {a b : Factor} {fs bs : List Factor} → Sound n1 a → Sound n2 b → a.kind ≡ b.kind → AllMatch n1 n2 fs bs →
      AllMatch n1 n2 (a ∷ fs) (b ∷ bs)

-- the law of a rounding: off by at most the share, counted in S/4096, and exact at a multiple of S
pub record Rounding (r : ℕ → ℤ → ℤ) (most : ℕ) : Type 0 where
  pub near : (S : ℕ) (s : ℤ) → 0 < S → unit * nat_abs (pos S *ℤ r S s -ℤ s) ≤ most * S
  pub whole : (S : ℕ) (q : ℤ) → 0 < S → r S (pos S *ℤ q) ≡ q
