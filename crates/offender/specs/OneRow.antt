-- A LINE IS A PASS ALONG ONE ROW: a stage of either names the same element.
use Rattle.std.specs.Prelude.{Bool, true, false, ◌≢◌, ◌≡◌, eqb, ℤ, pos, ◌*ℤ◌}
use Rattle.std.proofs.Math.Bool.{cond}
use mathlib.Core.List.{List, [], ◌∷◌}
use Rattle.std.proofs.Math.Path.{refl, sym, ap, ap₂}
use Rattle.std.proofs.Common.{◌∙◌, subst, arith}
use Prim.Native.Nat.{ℕ, zero, suc, ◌+◌, ◌*◌, ◌%◌, ◌<◌}
use Rattle.std.proofs.Math.Nat as NatL
use Rattle.whole.specs.Sum.{sum-cong}
use Rattle.rules.specs.declared.Kind.TheVariants.{Permutation}
use Rattle.rules.specs.declared.Rule.{Rule}
use Rattle.rules.specs.Numbers.{unit, bound, at}
use Rattle.rules.specs.Factors.{Factor, matrix}
use Rattle.rules.specs.Stages.{those, offender, Stage, weigh, R, off, weighed, recover, forward, undo, recovery, first_read}
use Rattle.rules.specs.Shapes.{by_turn, turn, in_row, order, line_stage, rows, pass_sign, pass_weight, pass_turn, pass_stage}
use Rattle.rules.specs.GoodStages.{has, Good}
use Rattle.rules.proofs.Laws.SoundFactors.{Sound, good-recovers}
use Rattle.rules.proofs.Laws.Kinds.{line-good, by_kind, stage-moves, stage-weighs}
use Rattle.rules.proofs.Laws.Lists.{fill-same}
use Rattle.rules.proofs.Laws.Membership.{has_first, has_more}
use Rattle.factor.specs.declared.run.Task.{Task}
use Rattle.factor.specs.declared.run.Task.TheVariants.{Forward, Inverse, Allowance}
use Rattle.factor.specs.SumBounds.{Bounded}
use Rattle.factor.specs.PassLines.{lines_by}
use Rattle.factor.specs.Tasks.{limit_of, name_after, stage_by}
use Rattle.offender.specs.NamedElements.{moved_none}

-- ---- orders by turns that are the same below N
those-same : (N : ℕ) (f g : ℕ → Bool) → ((e : ℕ) → e < N → f e ≡ g e) → those f N ≡ those g N
unfolding those
those-same zero f g h = refl
those-same (suc N) f g h = rw (those-same N f g (λ e l. h e (omega arith)), h N (omega arith))

turns_same : (N T : ℕ) (f g : ℕ → ℕ) → ((e : ℕ) → e < N → f e ≡ g e) → by_turn N T f ≡ by_turn N T g
unfolding by_turn
turns_same N zero f g h = refl
turns_same N (suc T) f g h =
    rw (turns_same N T f g h, those-same N _ (λ e. eqb (g e) T) (λ e l. ap (λ (t : ℕ). eqb t T) (h e l)))

-- ---- signs and weights that are the same below N
module _ (rule : Rule) (N S : ℕ) {d c : ℕ → ℤ} {w u : ℕ → ℕ → ℤ} (signs : (e : ℕ) → e < N → d e ≡ c e)
    (weights : (e k : ℕ) → e < N → k < N → w e k ≡ u e k) where
  rounded-same : (e : ℕ) → e < N → (v : List ℤ) → R rule S (weighed N (off w e) v) ≡ R rule S (weighed N (off u e) v)
  unfolding weighed off
  rounded-same e l v =
      ap (R rule S)
      (sum-cong N _ _ (λ k m. ap (λ (x : ℤ). cond (eqb e k) (pos 0) x *ℤ at v k) (weights e k l m)))

  recover-same : (es : List ℕ) → ((k : ℕ) → has k es ≡ true → k < N) → (v : List ℤ) →
      recover rule N S d w es v ≡ recover rule N S c u es v
  unfolding recover
  recover-same [] l v = refl
  recover-same (e ∷ es) l v =
      let b = l e (has_first e es) in
      rw (signs e b, rounded-same e b v) (recover-same es (λ k m. l k (has_more k e es m)) _)

  names_same : (task : Task) (o : List ℕ) → ((k : ℕ) → has k o ≡ true → k < N) → (v : List ℤ) →
      name_after task N (weigh S d w o) (stage_by task rule N (weigh S d w o) v)
      ≡ name_after task N (weigh S c u o) (stage_by task rule N (weigh S c u o) v)
  unfolding name_after stage_by forward undo recovery
  names_same Forward o l v = ap (first_read N) (fill-same N _ _ v (λ e b. rw (signs e b, rounded-same e b v)))
  names_same Inverse o l v = ap (offender bound o) (recover-same o l v)
  names_same Allowance o l v = refl

-- ---- the one row
module _ (n : ℕ) (f : Factor) where
  abbrev line : Stage
  line = line_stage n f

  abbrev pass : Stage
  pass = pass_stage (lines_by false 1 n) f

  -- its element e is number e of line 0
  sign_same : (e : ℕ) → e < n → pass_sign (rows 1 n) f e ≡ f.sign e
  unfolding pass_sign
  sign_same e l = ap f.sign (NatL.mod-eq_of_lt l)

  weight-same : (e k : ℕ) → e < n → k < n → pass_weight (rows 1 n) f e k ≡ matrix f e k
  unfolding pass_weight
  weight-same e k l m =
      ap₂ (λ (i j : ℕ). cond (eqb i j) (matrix f (e % n) (k % n)) (pos 0)) (NatL.div-eq_of_lt l) (NatL.div-eq_of_lt m)
      ∙ ap₂ (matrix f) (NatL.mod-eq_of_lt l) (NatL.mod-eq_of_lt m)

  turn-same : (e : ℕ) → e < n → pass_turn (rows 1 n) f e ≡ turn f.kind n (in_row f e) e
  unfolding pass_turn
  turn-same e l = rw (NatL.div-eq_of_lt l, NatL.mod-eq_of_lt l) (omega arith)

  order_same : by_turn (1 * n) (1 * (n + 4)) (pass_turn (rows 1 n) f) ≡ order f.kind n (in_row f)
  unfolding order
  order_same = rw (NatL.one-mul n, NatL.one-mul (n + 4)) (turns_same n (n + 4) _ _ turn-same)

  only : Sound n f → f.kind ≢ Permutation → (k : ℕ) → has k (order f.kind n (in_row f)) ≡ true → k < n
  unfolding line_stage
  only sound q = (good-recovers (subst (Good n) (stage-weighs f.kind _ _ q) (line-good n f sound))).only

  pub one-row : Sound n f → (task : Task) (rule : Rule) {v : List ℤ} → Bounded (limit_of task) v →
      name_after task (1 * n) pass (stage_by task rule (1 * n) pass v) ≡ name_after task n line (stage_by task rule n line v)
  unfolding lines_by pass_stage line_stage
  one-row sound task rule {v} h =
      by_kind (λ s. name (1 * n) s ≡ name n line) f.kind _ _
      (λ q.
      moved_none task rule (1 * n) unit _ h ∙ sym (ap (name n) (stage-moves f.kind _ _ q) ∙ moved_none task rule n unit _ h))
      (λ q.
      rw (order_same, NatL.one-mul n)
      (names_same rule n unit sign_same weight-same task _ (only sound q) v ∙ sym (ap (name n) (stage-weighs f.kind _ _ q))))
    where
      name : ℕ → Stage → ℕ
      name N s = name_after task N s (stage_by task rule N s v)
