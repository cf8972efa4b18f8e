-- ALL FACTORS OF A LINE: the stages one by one, forward and back, as the loops of the code meet them.
use Rattle.std.specs.Prelude.{Bool, List, Result, MatchResult, ◌≡◌, refl, ℕ, ◌+◌, ◌-◌, ◌≤◌, ◌<◌, ℤ, length}
use Rattle.std.proofs.Common.{arith}
use Rattle.rules.specs.Numbers.{count}
use Rattle.rules.specs.Factors.{factor_at, factors}
use Rattle.rules.specs.Stages.{Stage, done, beyond}
use Rattle.rules.specs.Shapes.{line_stage, line_stages}
use Rattle.rules.specs.Answers.{further}
use Rattle.rules.specs.GoodStages.{AllGood}
use Rattle.rules.proofs.Laws.Runs.{loop-start}
use Rattle.rules.proofs.Laws.Kinds.{lines-good}
use Rattle.laws.specs.Accepted.{Accepted}
use Rattle.laws.specs.AnswersInTurn.{ran_reply}
use Rattle.laws.specs.Sound.{sheet-sound}
use Rattle.factor.specs.declared.run.Task.{Task}
use Rattle.factor.specs.declared.run.Run.{Run}
use Rattle.factor.specs.declared.run.Place.{Place}
use Rattle.factor.specs.Outcomes.{ended_answer}
use Rattle.factor.specs.SumBounds.{Bounded}
use Rattle.factor.specs.Tasks.{limit_of, inputs_of, number_of, nth_stage, taken_by, name_first}
use Rattle.factor.specs.Tasks.{name_after, run_by, ran}
use Rattle.factor.specs.RunReplies.{GivesAsked}
use Rattle.factor.specs.StageLoops.{Listed, Stands}
use Rattle.factor.specs.SheetStages.{Staged, left, left-listed, left-all}
use Rattle.linerun.specs.declared.runs.Halted.{Halted}

-- the stages of a sheet
abbrev pub line_stages_of : List ℤ → List Stage
line_stages_of s = line_stages (count s 0) (factors s)

pub stages-good : {s : List ℤ} → Accepted s → AllGood (count s 0) (line_stages_of s)
stages-good a = lines-good (sheet-sound a)

-- the stage of factor f
abbrev pub at_stage : List ℤ → ℕ → ℕ → Stage
at_stage s n f = line_stage n (factor_at s n (further s n 2 f))

lines-staged : (n : ℕ) → Staged (line_stage n) (line_stages n)
unfolding line_stages
lines-staged n = record { none = refl; more = λ f fs. refl }

-- the stages that are left after t
abbrev pub line_left : List ℤ → Task → ℕ → List Stage
line_left s task t = left (line_stages (count s 0)) s task t

pub line-listed : (s : List ℤ) (task : Task) →
    Listed (count s 1) (λ t. at_stage s (count s 0) (nth_stage task (count s 1) t)) (line_left s task)
line-listed s task = left-listed (lines-staged (count s 0)) s task

-- ---- the run of a block: what it asks of what is lent, and what it gives
abbrev pub LineAsks : Run → List ℤ → List ℤ → List ℤ → Type 0
LineAsks r s x y = (length x ≡ inputs_of r.task (count s 0)) × (length y ≡ count s 0)

-- the end and the output z, for the numbers x over the output y
abbrev pub LineGives : Bool → Run → List ℤ → List ℤ → List ℤ → Result (Unit {0}) Place → List ℤ → Type 0
LineGives named r s x y end z =
    GivesAsked named (ended_answer (number_of r.task) end) z
    (ran_reply (number_of r.task) (ran r (count s 0) (line_stages_of s) x) y)

-- ---- the run of x that is asked for stands at v after t stages
abbrev pub RunAt : Run → List ℤ → List ℤ → ℕ → List ℤ → Type 0
RunAt r s x t v =
    Stands (limit_of r.task) (count s 0) (taken_by r (count s 0)) (name_after r.task (count s 0))
    (name_first r.task (count s 0)) (line_left s r.task) (run_by r (count s 0) (line_stages_of s) x) t v

pub run-starts : (r : Run) (s : List ℤ) {x : List ℤ} → Bounded (limit_of r.task) x → RunAt r s x 0 x
run-starts r s h = record { small = h; left = rw (left-all (line_stages (count s 0)) s r.task) (loop-start _ _ _ _ _ _) }

-- ---- the end of a run
-- the element that is named where the numbers after the stage in turn t are refused; v is the block before it
abbrev pub named_in : Run → List ℤ → ℕ → List ℤ → ℕ
named_in r s t v =
    let stage = at_stage s (count s 0) (nth_stage r.task (count s 1) t) in
    name_after r.task (count s 0) stage (taken_by r (count s 0) stage v)

-- a stage that a refusal can have, and the block before it
pub record Refusable (r : Run) (s : List ℤ) (h : Halted) : Type 0 where
  pub some : 1 ≤ h.stage
  pub most : h.stage ≤ count s 1
  pub small : Bounded (limit_of r.task) h.before

-- how the code ends a run: the last block, or the stage that is refused and the block before it
abbrev pub RunEnded : Run → List ℤ → List ℤ → Result (List ℤ) Halted → Type 0
RunEnded r s x end =
    let ran = run_by r (count s 0) (line_stages_of s) x in
    MatchResult end (λ v. ran ≡ done v)
    (λ h. (ran ≡ beyond h.stage (named_in r s (h.stage - 1) h.before)) × Refusable r s h)

module _ (r : Run) (s x : List ℤ) {v : List ℤ} where
  -- the refused stage, from its turn
  pub run-ends-stopped : (t : ℕ) → t < count s 1 → RunAt r s x t v →
      run_by r (count s 0) (line_stages_of s) x ≡ beyond (t + 1) (named_in r s t v) →
      (run_by r (count s 0) (line_stages_of s) x ≡ beyond (t + 1) (named_in r s (t + 1 - 1) v))
      × Refusable r s (record { stage = t + 1; before = v })
  run-ends-stopped t l h e =
      let d : t + 1 - 1 ≡ t = omega arith in
      (rw d e, record { some = omega arith; most = omega arith; small = h.small })
