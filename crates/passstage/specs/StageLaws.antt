-- THE LINES OF A STAGE, as the code makes them, are the document's: moved, applied, undone, and for allowances.
use Rattle.std.specs.Prelude.{Bool, true, false, List, ◌≢◌, ◌≡◌, ℕ, ◌≤◌, ℤ}
use Rattle.std.proofs.Math.Path.{refl}
use Rattle.std.proofs.Common.{◌∙◌, arith}
use Rattle.rules.specs.declared.Kind.TheVariants.{Permutation}
use Rattle.rules.specs.declared.Rule.{Rule}
use Rattle.rules.specs.Numbers.{most_order, bound, most_allowance, count}
use Rattle.rules.specs.Sheets.{kind_of}
use Rattle.rules.specs.Factors.{Factor, factor_at}
use Rattle.rules.specs.Shapes.{line_stage}
use Rattle.laws.specs.Accepted.{FactorRead}
use Rattle.factor.specs.declared.Layout.{Layout}
use Rattle.factor.specs.declared.run.Run.{Run}
use Rattle.factor.specs.declared.run.Task.{Task}
use Rattle.factor.specs.declared.run.Task.TheVariants.{Forward, Inverse, Allowance}
use Rattle.factor.specs.Tasks.{is_inverse, limit_of, stage_by}
use Rattle.factor.specs.Layouts.{layout_by, layout_at}
use Rattle.factor.specs.LayoutInSheet.{row_inside}
use Rattle.linerun.specs.Steps.{undone_in_place}
use Rattle.linerun.specs.StagesAgree.{moves-are, apply-is, undo-is, allow-is}
use Rattle.passstage.specs.Lanes.{lane, line_made, StageDone}
use Rattle.passstage.specs.LaneSteps.{is_allowance, step_at, turn_of, after_turns, line_moved, line_allowed, LinesMade}
use Rattle.passstage.specs.LaneLaws.{length-lane}
use Rattle.passstage.specs.RowLaws.{applied-in-place}

-- lines by g, which is the stage
stage-done : {most n w : ℕ} {x y : List ℤ} {ok : Bool} (run : Run) (F : Factor) (g : List ℤ → List ℤ) →
    limit_of run.task ≡ most → ((l : ℕ) → g (lane l x) ≡ line_made run n F (lane l x)) → LinesMade most n g w x y ok →
    StageDone run n F w x y ok
stage-done {most} {n} {w} {x} {y} run F g limit same h = record {
  goes = λ t l b. h.goes t l b ∙ same l;
  small = λ t. rw limit (h.small t);
  stops = λ t. let a = h.stops t in
      record { line = a.line; below = a.below; beyond = rw (limit, ← (same a.line)) a.beyond };
  long = h.long;
}

undone-turns : (rule : Rule) (s : List ℤ) (f : Layout) (t : ℕ) (u : List ℤ) →
    after_turns true rule s f t u ≡ undone_in_place rule s f t u
unfolding step_at turn_of
undone-turns rule s f t u = refl

-- the task by the code's test
pub allowance-told : (task : Task) → is_allowance task ≡ true → task ≡ Allowance
unfolding is_allowance
allowance-told Forward e = let z : ◌≡◌ {A = ℕ} 0 1 = cc in absurd (omega arith)
allowance-told Inverse e = let z : ◌≡◌ {A = ℕ} 0 1 = cc in absurd (omega arith)
allowance-told Allowance e = refl

pub limit-taken : (task : Task) → is_allowance task ≡ false → limit_of task ≡ bound
unfolding is_allowance limit_of
limit-taken Forward e = refl
limit-taken Inverse e = refl
limit-taken Allowance e = let z : ◌≡◌ {A = ℕ} 0 1 = cc in absurd (omega arith)

-- applied or undone: the task apart from its record, so that it can be told by cases
turns-are : {s : List ℤ} {n i : ℕ} → 1 ≤ n → n ≤ most_order → FactorRead s n i → kind_of (count s i) ≢ Permutation →
    (task : Task) (rule : Rule) → is_allowance task ≡ false → (l : ℕ) (x : List ℤ) →
    after_turns (is_inverse task) rule s (layout_at s n i) n (lane l x)
    ≡ stage_by task rule n (line_stage n (factor_at s n i)) (lane l x)
unfolding layout_at layout_by is_allowance is_inverse stage_by
turns-are {s} {n} {i} some few h q Forward rule e l x =
    applied-in-place rule s (layout_at s n i) (lane l x) (row_inside some h) (omega (arith, length-lane l x))
    ∙ apply-is rule s n i h q (lane l x)
turns-are {s} {n} {i} some few h q Inverse rule e l x =
    undone-turns rule s (layout_at s n i) n (lane l x)
    ∙ undo-is rule s n i h q (lane l x) (omega (arith, length-lane l x)) (row_inside some h)
turns-are some few h q Allowance rule e l x = let z : ◌≡◌ {A = ℕ} 0 1 = cc in absurd (omega arith)

module _ (run : Run) {s : List ℤ} {n i : ℕ} (some : 1 ≤ n) (few : n ≤ most_order) (h : FactorRead s n i) {w : ℕ} {x y : List ℤ}
    {ok : Bool} where
  pub moved-done : kind_of (count s i) ≡ Permutation →
      LinesMade (limit_of run.task) (layout_at s n i).order (line_moved run.task s (layout_at s n i)) w x y ok →
      StageDone run n (factor_at s n i) w x y ok
  unfolding layout_at layout_by
  moved-done q g =
      stage-done run (factor_at s n i) (line_moved run.task s (layout_at s n i)) refl
      (λ l. moves-are run.rule s n i q run.task (lane l x)) g

  pub taken-done : is_allowance run.task ≡ false → kind_of (count s i) ≢ Permutation →
      LinesMade bound (layout_at s n i).order
      (after_turns (is_inverse run.task) run.rule s (layout_at s n i) (layout_at s n i).order) w x y ok →
      StageDone run n (factor_at s n i) w x y ok
  unfolding layout_at layout_by
  taken-done e q g =
      stage-done run (factor_at s n i) (after_turns (is_inverse run.task) run.rule s (layout_at s n i) n)
      (limit-taken run.task e) (λ l. turns-are some few h q run.task run.rule e l x) g

  pub allowed-done : run.task ≡ Allowance → kind_of (count s i) ≢ Permutation →
      LinesMade most_allowance (layout_at s n i).order (line_allowed run.rule s (layout_at s n i)) w x y ok →
      StageDone run n (factor_at s n i) w x y ok
  unfolding layout_at layout_by limit_of stage_by
  allowed-done t q g =
      stage-done run (factor_at s n i) (line_allowed run.rule s (layout_at s n i)) (rw t)
      (λ l. allow-is run.rule s n i h q (lane l x) ∙ rw t) g
