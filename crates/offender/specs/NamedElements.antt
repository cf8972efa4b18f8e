-- THE ELEMENT THAT IS FOUND is the one that the document names: a stage of any shape, moved, applied and undone.
use Rattle.std.specs.Prelude.{Bool, true, false, List, ◌≢◌, ◌≡◌, refl, ℕ, ◌+◌, ◌*◌, ◌≤◌, ℤ, length}
use Rattle.std.proofs.Common.{sym, subst, arith}
use Rattle.rules.specs.declared.Kind.TheVariants.{Permutation}
use Rattle.rules.specs.declared.Rule.{Rule}
use Rattle.rules.specs.Numbers.{unit, bound, count}
use Rattle.rules.specs.Sheets.{kind_of}
use Rattle.rules.specs.Factors.{Factor, factor_at}
use Rattle.rules.specs.Stages.{Stage, move, weigh, up_to, forward, undo, recovery}
use Rattle.rules.specs.Shapes.{by_turn, order, joint_stage, pass_sign, pass_weight, pass_turn, pass_stage}
use Rattle.rules.specs.GoodStages.{Good, Recovers}
use Rattle.rules.proofs.Laws.SoundFactors.{good-recovers}
use Rattle.rules.proofs.Laws.Kinds.{joint-good, stage-moves, stage-weighs}
use Rattle.rules.proofs.Laws.Offenders.{read_below, none-beyond}
use Rattle.rules.proofs.Laws.Passes.{pass-good}
use Rattle.laws.specs.Tests.{apart}
use Rattle.laws.specs.Sound.{factor-sound}
use Rattle.factor.specs.declared.run.Task.{Task}
use Rattle.factor.specs.declared.run.Task.TheVariants.{Forward, Inverse, Allowance}
use Rattle.factor.specs.SumBounds.{Bounded, bounded-fill, bounded-put}
use Rattle.factor.specs.PassLines.{lines_by, lines_long, tiles-by}
use Rattle.factor.specs.Tasks.{is_inverse, limit_of, name_after, stage_by}
use Rattle.offender.specs.declared.weights.Shape.{Shape}
use Rattle.offender.specs.declared.weights.Shape.TheVariants.{Joint, Pass}
use Rattle.offender.specs.declared.weights.Refused.{Refused}
use Rattle.offender.specs.Search.{applied-is, undone-is}
use Rattle.offender.specs.RefusedStages.{cells_by, turns_by, scale_by, sign_by, weight_by, turn_by, stage_shaped}
use Rattle.offender.specs.RefusedStages.{cells, sign_of, weight_of, stage_of, order_of, search_of}
use Rattle.offender.specs.RefusedStages.{Weighed}

-- ---- whether a run of a task names an element
unfoldable pub is_naming : Task → Bool
is_naming Forward = true
is_naming Inverse = true
is_naming Allowance = false

pub naming-limit : (task : Task) → is_naming task ≡ true → limit_of task ≡ bound
unfolding is_naming limit_of
naming-limit Forward t = refl
naming-limit Inverse t = refl
naming-limit Allowance t = apart (sym t)

pub none_named : (task : Task) (N : ℕ) (s : Stage) (v : List ℤ) → is_naming task ≡ false → 0 ≡ name_after task N s v
unfolding is_naming name_after
none_named Forward N s v t = apart t
none_named Inverse N s v t = apart t
none_named Allowance N s v t = refl

-- ---- a permutation: moved numbers stay in bound
pub moved_none : (task : Task) (rule : Rule) (N S : ℕ) (p : ℕ → ℕ) {v : List ℤ} → Bounded (limit_of task) v →
    name_after task N (move S p) (stage_by task rule N (move S p) v) ≡ 0
unfolding limit_of name_after stage_by forward undo recovery
moved_none Forward rule N S p h =
    none-beyond bound _ (up_to N) (λ k m. (bounded-fill N _ h (λ e. h.small (p e))).small k)
moved_none Inverse rule N S p h = none-beyond bound _ (up_to N) (λ k m. (bounded-put N p h).small k)
moved_none Allowance rule N S p h = refl

pub none-moved : (task : Task) (rule : Rule) (q : Refused) (c r : List ℤ) {v : List ℤ} →
    kind_of (count c q.i) ≡ Permutation → Bounded (limit_of task) v →
    name_after task (cells q) (stage_of q c r) (stage_by task rule (cells q) (stage_of q c r) v) ≡ 0
none-moved task rule q c r {v} k h = go q.shape
  where
    moving : (N : ℕ) {s t : Stage} → s ≡ t → name_after task N t (stage_by task rule N t v) ≡ 0 →
        name_after task N s (stage_by task rule N s v) ≡ 0
    moving N e z = rw e z

    go : (s : Shape) →
        let t = stage_shaped q (factor_at c q.n1 q.i) (factor_at r q.n2 q.j) s in
        name_after task (cells q) t (stage_by task rule (cells q) t v) ≡ 0
    go Joint =
        unfold stage_shaped joint_stage factor_at in moving (cells q) (stage-moves _ _ _ k) (moved_none task rule (cells q) _ _ h)
    go (Pass down) =
        unfold stage_shaped pass_stage factor_at in moving (cells q) (stage-moves _ _ _ k) (moved_none task rule (cells q) _ _ h)

-- ---- a stage with weights
pass-weighs : (down : Bool) (many n : ℕ) (f : Factor) → f.kind ≢ Permutation →
    let r = lines_by down many n in
    pass_stage r f ≡ weigh unit (pass_sign r f) (pass_weight r f) (by_turn (many * n) (many * (n + 4)) (pass_turn r f))
unfolding lines_by pass_stage
pass-weighs true many n f q = stage-weighs _ _ _ q
pass-weighs false many n f q = stage-weighs _ _ _ q

module _ {q : Refused} {c r : List ℤ} (h : Weighed q c r) where
  abbrev A : Factor
  A = factor_at c q.n1 q.i

  abbrev B : Factor
  B = factor_at r q.n2 q.j

  -- it is the document's
  weighing : stage_of q c r ≡ weigh (scale_by q.shape) (sign_of q c r) (weight_of q c r) (order_of true q c r)
  weighing = go q.shape
    where
      go : (s : Shape) →
          stage_shaped q A B s ≡ weigh (scale_by s) (sign_by q A B s) (weight_by q A B s)
          (by_turn (cells_by q s) (turns_by q s) (turn_by q A B s))
      go Joint =
          unfold cells_by turns_by scale_by sign_by weight_by turn_by stage_shaped joint_stage order factor_at in
          stage-weighs _ _ _ h.weighs
      go (Pass down) =
          unfold cells_by turns_by scale_by sign_by weight_by turn_by stage_shaped factor_at in
          pass-weighs down q.n2 q.n1 A h.weighs

  good : Good (cells q) (stage_of q c r)
  good = go q.shape refl
    where
      go : (s : Shape) → q.shape ≡ s → Good (cells_by q s) (stage_shaped q A B s)
      go Joint e =
          unfold cells_by stage_shaped in
          joint-good q.n1 q.n2 A B (unfold factor_at in (h.placed.pair e).match) (factor-sound h.placed.column)
          (factor-sound (h.placed.pair e).row)
      go (Pass down) e =
          unfold cells_by stage_shaped in
          pass-good (tiles-by down q.n2 q.n1) A
          (rw (lines_long down q.n2 q.n1) (factor-sound h.placed.column))

  recovers : Recovers (cells q) (sign_of q c r) (weight_of q c r) (order_of true q c r)
  recovers = good-recovers (subst (Good (cells q)) weighing good)

  -- applied in reading order, undone in the recovery order
  pub found-named : (task : Task) (rule : Rule) (v : List ℤ) → is_naming task ≡ true → cells q ≤ length v →
      search_of rule (is_inverse task) q c r (order_of (is_inverse task) q c r) v
      ≡ name_after task (cells q) (stage_of q c r) (stage_by task rule (cells q) (stage_of q c r) v)
  unfolding is_naming is_inverse name_after stage_by forward undo recovery by_turn
  found-named Forward rule v t room =
      rw weighing
      (applied-is rule (cells q) (scale_by q.shape) (sign_of q c r) (weight_of q c r) (up_to (cells q)) v (read_below (cells q))
      room)
  found-named Inverse rule v t room =
      rw weighing
      (undone-is rule (cells q) (scale_by q.shape) (sign_of q c r) (weight_of q c r) recovers.in_order v
      (λ k m. omega (arith, recovers.only k m)))
  found-named Allowance rule v t room = apart (sym t)
