-- ALL FACTORS OF A SHEET: their stages one by one, forward and back, as the loops of the code meet them, whatever stage a factor
-- makes.
use mathlib.Core.List.{List, [], ◌∷◌, ◌++◌, reverse, reverse-append}
use Rattle.std.specs.Prelude.{◌≡◌, ℤ}
use Rattle.std.proofs.Common.{ap, ◌∙◌}
use Prim.Native.Nat.{ℕ, suc, ◌+◌, ◌-◌, ◌<◌}
use Rattle.std.proofs.Math.Nat.{sub_self, sub-zero}
use native.Mathlib.Omega.{arith}
use Rattle.rules.specs.Numbers.{count}
use Rattle.rules.specs.Factors.{Factor, factor_at, factors_from, factors}
use Rattle.rules.specs.Stages.{Stage}
use Rattle.rules.specs.Answers.{further, start}
use Rattle.laws.specs.Accepted.{further-next}
use Rattle.laws.specs.Sound.{factors-split}
use Rattle.factor.specs.declared.run.Task.{Task}
use Rattle.factor.specs.declared.run.Task.TheVariants.{Forward, Inverse, Allowance}
use Rattle.factor.specs.Tasks.{is_inverse, nth_stage, in_order}
use Rattle.factor.specs.StageLoops.{Listed}

-- the stages of a list of factors: `one` makes a factor's stage
pub record Staged (one : Factor → Stage) (all : List Factor → List Stage) : Type 0 where
  pub none : all [] ≡ []
  pub more : (f : Factor) (fs : List Factor) → all (f ∷ fs) ≡ one f ∷ all fs

-- the stage of factor number f
abbrev pub stage_at : (Factor → Stage) → List ℤ → ℕ → Stage
stage_at one s f = one (factor_at s (count s 0) (start s f))

module _ {one : Factor → Stage} {all : List Factor → List Stage} (h : Staged one all) where
  all_append : (fs gs : List Factor) → all (fs ++ gs) ≡ all fs ++ all gs
  all_append [] gs = rw h.none
  all_append (f ∷ fs) gs = rw (h.more f (fs ++ gs), h.more f fs, all_append fs gs)

-- the stages that are left after t: forward those from the t-th on; back those before the last t, the last of them first
unfoldable pub left : (List Factor → List Stage) → List ℤ → Task → ℕ → List Stage
left all s Forward t = all (factors_from s (count s 0) (count s 1 - t) (start s t))
left all s Inverse t = reverse (all (factors_from s (count s 0) (count s 1 - t) 2))
left all s Allowance t = all (factors_from s (count s 0) (count s 1 - t) (start s t))

module _ {one : Factor → Stage} {all : List Factor → List Stage} (h : Staged one all) (s : List ℤ) where
  abbrev n : ℕ
  n = count s 0

  abbrev K : ℕ
  K = count s 1

  ahead-listed : Listed K (stage_at one s) (left all s Forward)
  unfolding left factors_from further
  ahead-listed = record {
    next = λ t l. let e : K - t ≡ suc (K - (t + 1)) = omega arith in rw (e, h.more, further-next s n 2 t);
    end = rw (sub_self K, h.none);
  }

  behind-listed : Listed K (λ t. stage_at one s (K - suc t)) (left all s Inverse)
  unfolding left
  behind-listed = record { next = λ t l. one_less t l; end = none_left }
    where
      none_left : reverse (all (factors_from s n (K - K) 2)) ≡ []
      none_left = rw (sub_self K) (unfold factors_from in rw h.none)

      last : (m : ℕ) → all (factors_from s n (m + 1) 2) ≡ all (factors_from s n m 2) ++ (stage_at one s m ∷ [])
      last m =
          ap all (factors-split s n m 1 2) ∙ all_append h (factors_from s n m 2) (factors_from s n 1 (start s m))
          ∙ (unfold factors_from in rw (h.more, h.none))

      one_less : (t : ℕ) → t < K →
          reverse (all (factors_from s n (K - t) 2)) ≡ stage_at one s (K - suc t) ∷ reverse (all (factors_from s n (K - (t + 1)) 2))
      one_less t l =
          let e : K - t ≡ (K - suc t) + 1 = omega arith in
          let d : K - (t + 1) ≡ K - suc t = omega arith in
          rw (e, d, last (K - suc t), reverse-append)

  pub left-listed : (task : Task) → Listed (count s 1) (λ t. stage_at one s (nth_stage task (count s 1) t)) (left all s task)
  unfolding left nth_stage is_inverse
  left-listed Forward = ahead-listed
  left-listed Inverse = behind-listed
  left-listed Allowance = ahead-listed

-- before the first, all are left
pub left-all : (all : List Factor → List Stage) (s : List ℤ) (task : Task) → in_order task (all (factors s)) ≡ left all s task 0
unfolding left in_order factors further
left-all all s Forward = rw sub-zero
left-all all s Inverse = rw sub-zero
left-all all s Allowance = rw sub-zero
