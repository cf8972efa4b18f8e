-- A STEP OF A RUN as the code holds it: whether every one of the n numbers of the new block is in bound, and then the new block.
use Rattle.std.specs.Prelude.{Bool, true, false, List, ◌≡◌, ℕ, ℤ}
use Rattle.std.proofs.Common.{sym, ◌∙◌, arith}
use Rattle.rules.specs.Stages.{inside}
use Rattle.factor.specs.SumBounds.{Bounded, bounded-inside}

-- a block with a number beyond the bound is not looked at again, so nothing is said of it
pub record Step (most n : ℕ) (new : List ℤ) (ok : Bool) (block : List ℤ) : Type 0 where
  pub tells : ok ≡ inside most n new
  pub takes : ok ≡ true → (block ≡ new) × Bounded most block

module _ {most n : ℕ} {new : List ℤ} where
  -- a number beyond the bound
  pub step-stops : {y : List ℤ} → inside most n new ≡ false → Step most n new false y
  step-stops o = record { tells = sym o; takes = λ e. let z : ◌≡◌ {A = ℕ} 0 1 = cc in absurd (omega arith) }

  -- every number in bound
  pub step-goes : {y : List ℤ} → y ≡ new → Bounded most y → Step most n new true y
  step-goes e h = record { tells = sym (bounded-inside n (rw e at h)); takes = λ t. (e, h) }

  -- what a step told
  pub step-no : {ok : Bool} {block : List ℤ} → Step most n new ok block → ok ≡ false → inside most n new ≡ false
  step-no s h = sym s.tells ∙ h

-- a step that only moves numbers
pub step-moves : {most n : ℕ} {new y z : List ℤ} → y ≡ z → z ≡ new → Bounded most z → Step most n new true y
step-moves e f h = step-goes (e ∙ f) (rw e h)
