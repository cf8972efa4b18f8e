-- HOW A RUN ENDS: over good stages, the run of the block in its room, and what is written, is the run of the lent numbers.
use Rattle.std.specs.Prelude.{Bool, List, [], ◌∷◌, ◌++◌, reverse, refl, ℕ, ◌+◌, ◌-◌, ◌≤◌, ℤ, pos, length}
use Rattle.std.proofs.Math.Bool.{true, false}
use Rattle.std.proofs.Math.Path.{◌≡◌, sym}
use Rattle.std.proofs.Common.{ap, ◌∙◌}
use native.Mathlib.Omega.{arith}
use Rattle.std.proofs.Math.ListN.{replicate}
use Rattle.std.proofs.lemmas.List.{replicate-append-replicate}
use Rattle.rules.specs.declared.Answer.{Answer}
use Rattle.rules.specs.declared.Rule.{Rule}
use Rattle.rules.specs.Numbers.{bound, at}
use Rattle.rules.specs.Stages.{Stage, Ran, done, beyond, fill, inside, first_read, run_forward, run_inverse}
use Rattle.rules.specs.Answers.{accepted, refused_at}
use Rattle.rules.specs.Calls.{Reply, Gives, reply, ran_answer, ran_memory}
use Rattle.rules.specs.GoodStages.{AllGood}
use Rattle.rules.proofs.Laws.Padding.{forward-padded, inverse-padded, allowance-padded}
use Rattle.rules.proofs.Laws.Runs.{loop-start, loop-refused}
use Rattle.laws.specs.AnswersInTurn.{ran_reply}
use Rattle.laws.specs.Plans.{forward-length, inverse-length, allowance-length}
use Rattle.factor.specs.declared.run.Task.{Task}
use Rattle.factor.specs.declared.run.Task.TheVariants.{Forward, Inverse, Allowance}
use Rattle.factor.specs.declared.run.Run.{Run}
use Rattle.factor.specs.SumBounds.{Bounded, bounded-le}
use Rattle.factor.specs.Tasks.{limit_of, inputs_of, number_of, in_order, stage_by, name_first, name_after, run_by}
use Rattle.factor.specs.Tasks.{ran_by, ran}
use Rattle.factor.specs.PaddedBlocks.{ended, ended_is, padding, padded_block, padded-bounded}

-- ---- a reply whose element is left out where it is not asked for
pub record GivesAsked (named : Bool) (a : Answer) (m : List ℤ) (q : Reply ℤ) : Type 0 where
  pub number : a.number ≡ q.answer.number
  pub memory : m ≡ q.memory
  pub whole : named ≡ true → a ≡ q.answer

module _ {a : Answer} {m : List ℤ} {q : Reply ℤ} where
  pub given-all : {named : Bool} → Gives a m q → GivesAsked named a m q
  given-all g = record { number = ap (λ (z : Answer). z.number) g.0; memory = g.1; whole = λ e. g.0 }

  pub given-asked : GivesAsked true a m q → Gives a m q
  given-asked g = (g.whole refl, g.memory)

-- the reply to a run that is refused, and to one that is done
module _ {named : Bool} {ran : Ran} (number : ℕ) (y : List ℤ) where
  pub ended-noted : {s k e : ℕ} → ran ≡ beyond s k → (named ≡ true → ran ≡ beyond s e) →
      GivesAsked named (refused_at number 0 s e) y (ended ran number y)
  unfolding ended
  ended-noted h n = record { number = rw h; memory = rw h; whole = λ z. rw (n z) }

  pub ended-done : {v z : List ℤ} {a : Answer} → ran ≡ done v → a ≡ accepted → z ≡ fill (length y) (at v) y →
      GivesAsked named a z (ended ran number y)
  unfolding ended
  ended-done h e w = rw h (given-all (e, w))

-- ---- the run of the block in its room
none_lent : (x : List ℤ) → length x ≡ 0 → x ≡ []
none_lent [] e = refl
none_lent (z ∷ x) e = absurd (omega arith)

module _ (room : ℕ) {N : ℕ} {ss : List Stage} (good : AllGood N ss) (x y : List ℤ) (ly : length y ≡ N) where
  -- the task apart from its record, so that it can be told by cases
  ends : (task : Task) (rule : Rule) → let r : Run = record { task = task; rule = rule } in length x ≡ inputs_of task N →
      N ≤ room →
      ended (run_by r N ss (padded_block room x)) (number_of task) y ≡ ran_reply (number_of task)
      (ran_by task rule N ss x) y
  unfolding padded_block limit_of stage_by name_first name_after in_order number_of inputs_of ran_by run_forward run_inverse
  ends Forward rule lx few =
      rw (forward-padded rule (padding room (length x)) good x (omega arith))
      (ended_is 10 _ (padding room (length x)) y (λ v e. forward-length rule N ss x v e ∙ lx ∙ sym ly))
  ends Inverse rule lx few =
      rw (inverse-padded rule (padding room (length x)) good x (omega arith))
      (ended_is 10 _ (padding room (length x)) y (λ v e. inverse-length rule N ss x v e ∙ lx ∙ sym ly))
  ends Allowance rule lx few =
      rw (from_zero, allowance-padded rule (padding room N) good)
      (ended_is 12 _ (padding room N) y (λ v e. allowance-length rule N ss v e ∙ sym ly))
    where
      -- allowances start at 0
      zeros : replicate (room - 0) (pos 0) ≡ replicate N (pos 0) ++ padding room N
      zeros = let e : N + (room - N) ≡ room - 0 = omega arith in sym (replicate-append-replicate N (room - N) (pos 0) ∙ rw e)

      from_zero : x ++ padding room (length x) ≡ replicate N (pos 0) ++ padding room N
      from_zero = rw (none_lent x lx) zeros

  pub run_ends : (r : Run) → length x ≡ inputs_of r.task N → N ≤ room →
      ended (run_by r N ss (padded_block room x)) (number_of r.task) y ≡ ran_reply (number_of r.task)
      (ran r N ss x) y
  run_ends r lx few = ends r.task r.rule lx few

-- the lent numbers, in bound, and 0 behind them are within the limit of the task
pub start-bounded : (room : ℕ) (task : Task) (x : List ℤ) → inside bound (length x) x ≡ true →
    Bounded (limit_of task) (padded_block room x)
unfolding limit_of
start-bounded room Forward x h = padded-bounded room bound x h
start-bounded room Inverse x h = padded-bounded room bound x h
start-bounded room Allowance x h = bounded-le (omega arith) (padded-bounded room bound x h)

-- stage 0: a block with a number beyond the bound
module _ (N : ℕ) (ss : List Stage) (x y : List ℤ) (out : inside bound (length x) x ≡ false) {a : Answer} where
  replies : {ran : Ran} → length x ≡ N → ran ≡ beyond 0 (first_read N x) → a ≡ refused_at 11 0 0 (first_read (length x) x) →
      Gives a y (ran_reply 11 ran y)
  unfolding reply ran_answer ran_memory
  replies l h e = rw (h, e, l) (refl, refl)

  out-by : (task : Task) (rule : Rule) → length x ≡ inputs_of task N →
      a ≡ refused_at (number_of task) 0 0 (first_read (length x) x) →
      Gives a y (ran_reply (number_of task) (ran_by task rule N ss x) y)
  unfolding inputs_of number_of ran_by run_forward run_inverse inside
  out-by Forward rule lx e = replies lx (loop-start _ _ _ _ ss x ∙ loop-refused _ _ _ _ 0 ss x (rw lx at out)) e
  out-by Inverse rule lx e =
      replies lx (loop-start _ _ _ _ (reverse ss) x ∙ loop-refused _ _ _ _ 0 (reverse ss) x (rw lx at out)) e
  out-by Allowance rule lx e = let z : true ≡ false = rw lx at out in let w : ◌≡◌ {A = ℕ} 0 1 = cc in absurd (omega arith)

  pub run_out : (r : Run) → length x ≡ inputs_of r.task N →
      a ≡ refused_at (number_of r.task) 0 0 (first_read (length x) x) →
      Gives a y (ran_reply (number_of r.task) (ran r N ss x) y)
  run_out r lx e = out-by r.task r.rule lx e
