-- What the calls of the library give back, as answers of "WHAT COMES BACK".
use Rattle.std.specs.Prelude.{Result, Ok, Err, MatchResult, ◌≡◌, ℕ}
use Rattle.rules.specs.declared.Fault.{Fault}
use Rattle.rules.specs.declared.Fault.TheVariants.{Ended, Order, Count, Kind, Place, Repeated, Sign, Entry, Leftover, Length}
use Rattle.rules.specs.declared.Fault.TheVariants.{Sample, Mismatch, Allowance, Spelling, Room, Rule}
use Rattle.rules.specs.declared.Side.{Side}
use Rattle.rules.specs.declared.Side.TheVariants.{First, Second}
use Rattle.rules.specs.declared.Found.{Found}
use Rattle.rules.specs.declared.Refusal.{Refusal}
use Rattle.rules.specs.declared.Answer.{Answer}
use Rattle.rules.specs.Marks.{Mark}
use Rattle.rules.specs.Sheets.{on, stop}
use Rattle.rules.specs.declared.Rule as rule
use Rattle.rules.specs.Calls.{rule_of, rule_checked}
use Rattle.rules.specs.Answers.{accepted, counted, refused_at}

-- "What comes back": the number of each fault
abbrev pub fault_number : Fault → ℕ
fault_number Ended = 1
fault_number Order = 2
fault_number Count = 3
fault_number Kind = 4
fault_number Place = 5
fault_number Repeated = 6
fault_number Sign = 7
fault_number Entry = 8
fault_number Leftover = 9
fault_number Length = 10
fault_number Sample = 11
fault_number Mismatch = 12
fault_number Allowance = 13
fault_number Spelling = 14
fault_number Room = 15
fault_number Rule = 16

-- "Side is 1 for the row sheet of a pair", "and for the output"
abbrev pub side_number : Side → ℕ
side_number First = 0
side_number Second = 1

-- 0, or the number of a fault
abbrev pub faulted : Result (Unit {0}) Fault → ℕ
faulted (Ok x) = 0
faulted (Err f) = fault_number f

-- a reader's next place, or a fault and its place
abbrev pub marked : Result ℕ Found → Mark
marked (Ok i) = on i
marked (Err f) = stop (fault_number f.fault) f.place

-- a refusal as an answer
abbrev pub refused_for : Refusal → Answer
refused_for r = refused_at (fault_number r.fault) (side_number r.side) r.place r.element

-- the answer of a call, or of a check, that counts nothing
abbrev pub answered : {T : Type 0} → Result T Refusal → Answer
answered (Ok x) = accepted
answered (Err r) = refused_for r

-- the answer of a call that counts what it writes
abbrev pub count_answered : Result ℕ Refusal → Answer
count_answered (Ok n) = counted n
count_answered (Err r) = refused_for r

-- the rule of a number, or 16
abbrev pub RuleGiven : ℕ → Result rule.Rule Refusal → Type 0
RuleGiven k r = MatchResult r (λ x. (rule_checked k ≡ accepted) × (rule_of k ≡ x)) (λ f. rule_checked k ≡ refused_for f)
