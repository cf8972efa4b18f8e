-- BLOCKS OF FOUR: what the stages of four give to a run, and the reply to an accepted one.
use Rattle.std.specs.Prelude.{true, List, ◌≢◌, ◌≡◌, refl, ℕ, ◌<◌, ℤ, pos, length}
use Rattle.std.proofs.Common.{sym, ap, ◌∙◌, arith}
use Rattle.std.proofs.Math.Decide.{dec_lt}
use Rattle.std.proofs.Math.ListN.{get_or-eq_default}
use Rattle.whole.specs.Diff.{Within}
use Rattle.whole.specs.Machine.{within-le, within-pos}
use Rattle.rules.specs.declared.Answer.{Answer}
use Rattle.rules.specs.declared.Rule.{Rule}
use Rattle.rules.specs.Numbers.{bound, at}
use Rattle.rules.specs.Stages.{Stage, Ran, done, fill, inside, run_forward, run_inverse}
use Rattle.rules.specs.Answers.{accepted}
use Rattle.rules.specs.Calls.{Gives, reply, ran_answer, ran_memory}
use Rattle.rules.proofs.Laws.Lists.{inside-at}
use Rattle.laws.specs.AnswersInTurn.{ran_reply}
use Rattle.factor.specs.declared.run.Task.{Task}
use Rattle.factor.specs.declared.run.Task.TheVariants.{Forward, Inverse, Allowance}
use Rattle.factor.specs.SumBounds.{Bounded}
use Rattle.factor.specs.Steps.{Step, step-goes}
use Rattle.factor.specs.Tasks.{is_inverse, limit_of, inputs_of, in_order, stage_by, name_first, name_after, ran_by, run_by}
use Rattle.four.specs.Turns.{stage_on}
use Rattle.four.specs.Stages.{four-list}

-- ---- a task of numbers: all but allowances
pub limit_is : (task : Task) → task ≢ Allowance → limit_of task ≡ bound
unfolding limit_of
limit_is Forward q = refl
limit_is Inverse q = refl
limit_is Allowance q = absurd (q refl)

pub inputs_are : (task : Task) (n : ℕ) → task ≢ Allowance → inputs_of task n ≡ n
unfolding inputs_of
inputs_are Forward n q = refl
inputs_are Inverse n q = refl
inputs_are Allowance n q = absurd (q refl)

-- the document's run is that of the code
pub ran-is : (task : Task) (rule : Rule) (n : ℕ) (ss : List Stage) (x : List ℤ) → task ≢ Allowance →
    ran_by task rule n ss x ≡ run_by (record { task = task; rule = rule }) n ss x
unfolding ran_by limit_of stage_by name_first name_after in_order run_forward run_inverse
ran-is Forward rule n ss x q = refl
ran-is Inverse rule n ss x q = refl
ran-is Allowance rule n ss x q = absurd (q refl)

-- a stage of four that was accepted is a step
stage_is : (task : Task) (rule : Rule) (n : ℕ) (stage : Stage) (v : List ℤ) → task ≢ Allowance →
    stage_on (is_inverse task) rule n stage v ≡ stage_by task rule n stage v
unfolding stage_on is_inverse stage_by
stage_is Forward rule n stage v q = refl
stage_is Inverse rule n stage v q = refl
stage_is Allowance rule n stage v q = absurd (q refl)

pub stage-steps :
    {y : List ℤ} (task : Task) (rule : Rule) (n : ℕ) (stage : Stage) (v : List ℤ) → task ≢ Allowance →
    Bounded bound y × (y ≡ stage_on (is_inverse task) rule n stage v) →
    Step (limit_of task) n (stage_by task rule n stage v) true y
stage-steps task rule n stage v q b =
    rw (limit_is task q) (step-goes (b.1 ∙ stage_is task rule n stage v q) b.0)

-- ---- a block between the slices and the run
pub fill-four : (v y : List ℤ) → length v ≡ 4 → length y ≡ 4 → fill 4 (at v) y ≡ v
unfolding fill
fill-four v y l k = ap (fill 4 (at v)) (four-list y k) ∙ sym (four-list v l)

pub inside-bounded : (B : ℕ) (x : List ℤ) → inside B (length x) x ≡ true → Bounded B x
inside-bounded B x h = record { small = λ k. go k (dec_lt k (length x)) }
  where
    go : (k : ℕ) → Dec (k < length x) → Within B (at x k)
    go k (yes l) = inside-at B (length x) x h k l
    go k (no l) = rw (get_or-eq_default x (pos 0) {n = k} (omega arith)) (within-le (omega arith) (within-pos 0))

pub replies :
    {ran : Ran} {v m : List ℤ} {a : Answer} (number : ℕ) (y : List ℤ) → ran ≡ done v → a ≡ accepted → m ≡ v →
    Gives a m (ran_reply number ran y)
unfolding reply ran_answer ran_memory
replies number y e f g = rw (e, f, g) (refl, refl)
