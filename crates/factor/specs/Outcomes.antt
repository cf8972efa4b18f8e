-- HOW A RUN ENDED, for the laws of runs: whether every number was in bound; if not, the stage that has one beyond it.
use Rattle.std.specs.Prelude.{Bool, true, false, Result, Ok, Err, List, [], ℕ, ℤ}
use Rattle.rules.specs.declared.Answer.{Answer}
use Rattle.rules.specs.Answers.{accepted, refused_at}
use Rattle.factor.specs.declared.run.Stopped.{Stopped}
use Rattle.factor.specs.declared.run.Place.{Place}

pub record Outcome : Type 0 where
  pub ok : Bool
  pub stage : ℕ

-- of the stages one after another
abbrev pub outcome_of : {T : Type 0} → Result T Stopped → Outcome
outcome_of (Ok x) = record { ok = true; stage = 0 }
outcome_of (Err s) = record { ok = false; stage = s.stage }

-- the answer to a run of a block: accepted, or refused there
abbrev pub ended_answer : {T : Type 0} → ℕ → Result T Place → Answer
ended_answer number (Ok x) = accepted
ended_answer number (Err p) = refused_at number 0 p.stage p.element

-- the block that a run or a stage gave, where it gave one
abbrev pub block_of : {E : Type 0} → Result (List ℤ) E → List ℤ
block_of (Ok v) = v
block_of (Err e) = []
