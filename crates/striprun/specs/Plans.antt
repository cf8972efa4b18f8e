-- THE STRIPS by shape and run: the plan, and the single call.
use Rattle.std.specs.Prelude.{Bool, true, false, Result, Ok, Err, is_ok, List, ◌≡◌, refl, ℕ, ◌<◌, ℤ, length}
use Rattle.std.proofs.Common.{sym, ◌∙◌, mul-le-mul}
use Rattle.rules.specs.declared.Answer.{Answer}
use Rattle.rules.specs.declared.Rule.{Rule}
use Rattle.rules.specs.Calls.{Reply, Plan, line, joint}
use Rattle.rules.specs.Strips.{StripReply, strip, outputs, bytes_of}
use Rattle.laws.specs.Accepted.{accepted-order}
use Rattle.laws.specs.AnswersInTurn.{ran_reply}
use Rattle.laws.specs.Strips.{BlockCall, forward-block, inverse-block}
use Rattle.factor.specs.declared.run.Task.{Task}
use Rattle.factor.specs.declared.run.Task.TheVariants.{Forward, Inverse, Allowance}
use Rattle.factor.specs.declared.run.Run.{Run}
use Rattle.factor.specs.Tasks.{inputs_of, number_of, ran, call_by, call_of}
use Rattle.factor.specs.declared.run.Place.{Place}
use Rattle.factor.specs.Outcomes.{ended_answer}
use Rattle.factor.specs.RunReplies.{GivesAsked}
use Rattle.factor.specs.CallAnswers.{NoneLent, block-is-run, lengths-right}
use Rattle.striprun.specs.declared.blocks.Sheets.{Sheets}
use Rattle.striprun.specs.declared.blocks.Sheets.TheVariants.{Line, Joint}

-- the plan of checked sheets
unfoldable pub plan_of : Sheets → Plan
plan_of (Line s) = line s.numbers.now
plan_of (Joint c r) = joint c.numbers.now r.numbers.now

module _ (sheets : Sheets) (r : Run) where
  -- what k blocks give, and the strip of those sheets and that run
  abbrev pub outputs_by : ℕ → List ℤ → List ℤ → List ℤ
  outputs_by k x y = outputs (plan_of sheets) (call_of r (plan_of sheets)) k x y

  abbrev pub bytes_by : ℕ → List ℤ → List ℤ → List ℕ
  bytes_by k x y = bytes_of (plan_of sheets) (call_of r (plan_of sheets)) k x y

  abbrev pub strip_by : List ℤ → List ℤ → List ℕ → StripReply
  strip_by x y b = strip (plan_of sheets) (call_of r (plan_of sheets)) x y b

-- the strip of a task, of any rule and plan
abbrev pub strip_of : Task → Rule → Plan → List ℤ → List ℤ → List ℕ → StripReply
strip_of task rule p x y b = strip p (call_by task rule p) x y b

-- a strip has blocks to run: forward or inverse
unfoldable pub TakesBlocks : Task → Type 0
TakesBlocks Forward = Unit {0}
TakesBlocks Inverse = Unit {0}
TakesBlocks Allowance = ⊥

call-by : (task : Task) (rule : Rule) → TakesBlocks task → (p : Plan) → BlockCall p (call_by task rule p)
unfolding TakesBlocks call_by
call-by Forward rule h p = forward-block rule p
call-by Inverse rule h p = inverse-block rule p
call-by Allowance rule h p = absurd h

pub block-call : (r : Run) → TakesBlocks r.task → (p : Plan) → BlockCall p (call_of r p)
block-call r h p = call-by r.task r.rule h p

-- a block is lent whole
pub lent-block : (task : Task) → TakesBlocks task → (n : ℕ) → inputs_of task n ≡ n
unfolding TakesBlocks inputs_of
lent-block Forward h n = refl
lent-block Inverse h n = refl
lent-block Allowance h n = absurd h

may-lend : (task : Task) → TakesBlocks task → (x : List ℤ) → NoneLent task x
unfolding TakesBlocks NoneLent
may-lend Forward h x = tt
may-lend Inverse h x = tt
may-lend Allowance h x = absurd h

-- the single call of a checked block is its run
pub block_runs : (r : Run) → TakesBlocks r.task → (p : Plan) (x y : List ℤ) → p.sheets.number ≡ 0 → length x ≡ p.size →
    length y ≡ p.size →
    call_of r p x y ≡ ran_reply (number_of r.task) (ran r p.size p.stages x) y
block_runs r h p x y s l m =
    block-is-run r p x y (may-lend r.task h x) s
    (lengths-right r.task p.size (length x) (length y) (l ∙ sym (lent-block r.task h p.size)) m)

-- a block of checked sheets has some numbers
pub some-numbers : (sheets : Sheets) → (plan_of sheets).sheets.number ≡ 0 → 0 < (plan_of sheets).size
unfolding plan_of line joint
some-numbers (Line s) h = (accepted-order s.faultless).least
some-numbers (Joint c r) h = mul-le-mul (accepted-order c.faultless).least (accepted-order r.faultless).least

-- the byte of a block that is accepted, or not: "in its byte, the number, 0 or 11"
unfoldable pub byte_of : Bool → ℕ
byte_of true = 0
byte_of false = 11

-- a block's byte and its output
pub record GivesByte (b : ℕ) (m : List ℤ) (q : Reply ℤ) : Type 0 where
  pub number : b ≡ q.answer.number
  pub memory : m ≡ q.memory

-- the run of a block ends with it
pub byte-is : {T : Type 0} (task : Task) → TakesBlocks task → (end : Result T Place) →
    byte_of (is_ok end) ≡ (ended_answer (number_of task) end).number
unfolding TakesBlocks byte_of number_of
byte-is Forward h (Ok x) = refl
byte-is Forward h (Err p) = refl
byte-is Inverse h (Ok x) = refl
byte-is Inverse h (Err p) = refl
byte-is Allowance h end = absurd h

pub gives-byte :
    {named : Bool} {a : Answer} {m : List ℤ} {q : Reply ℤ} {b : ℕ} → GivesAsked named a m q → b ≡ a.number → GivesByte b m q
gives-byte g e = record { number = e ∙ g.number; memory = g.memory }
