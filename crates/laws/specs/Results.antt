-- LAWS OF WHAT CALLS GIVE BACK: an Err is a refusal, so it ends a turn of answers or of readers; an Ok gives way to the next one.
-- Assumes nothing.
use Rattle.std.specs.Prelude.{Result, Ok, Err, ◌≡◌, ℕ}
use Rattle.std.specs.Result.{IsErrAnd, OnOk}
use Rattle.std.proofs.Common.{sym, ap, ◌∙◌, refl, arith}
use Rattle.std.proofs.lemmas.Result.{err_from_is_err_and}
use Rattle.rules.specs.declared.Fault.{Fault}
use Rattle.rules.specs.declared.Fault.TheVariants.{Ended, Order, Count, Kind, Place, Repeated, Sign, Entry, Leftover, Length}
use Rattle.rules.specs.declared.Fault.TheVariants.{Sample, Mismatch, Allowance, Spelling, Room, Rule}
use Rattle.rules.specs.declared.Found.{Found}
use Rattle.rules.specs.declared.Refusal.{Refusal}
use Rattle.rules.specs.declared.Answer.{Answer}
use Rattle.rules.specs.Marks.{Mark}
use Rattle.rules.specs.Sheets.{on, ◌then◌}
use Rattle.rules.specs.Answers.{◌or_else◌}
use Rattle.rules.specs.Results.{fault_number, refused_for, marked, answered}
use Rattle.laws.specs.Readers.{stops, goes}
use Rattle.laws.specs.AnswersInTurn.{answer-stops, answer-passes}

-- a fault has a number
pub some-fault : (f : Fault) → fault_number f ≡ 0 → ⊥
some-fault Ended e = omega arith
some-fault Order e = omega arith
some-fault Count e = omega arith
some-fault Kind e = omega arith
some-fault Place e = omega arith
some-fault Repeated e = omega arith
some-fault Sign e = omega arith
some-fault Entry e = omega arith
some-fault Leftover e = omega arith
some-fault Length e = omega arith
some-fault Sample e = omega arith
some-fault Mismatch e = omega arith
some-fault Allowance e = omega arith
some-fault Spelling e = omega arith
some-fault Room e = omega arith
some-fault Rule e = omega arith

-- ---- at the exit of a `?` that passes an error on as it is: r is what the function returns there
pub passed : {T E : Type 0} {r : Result T E} {d : E} → IsErrAnd r (λ y. y ≡ d) → r ≡ Err d
passed {T} {E} {r} h = let p = err_from_is_err_and r h in p.1 ∙ ap (λ (y : E). Err y) p.2

-- what holds anyway holds after an Ok
pub on-any : {T E P : Type 0} (r : Result T E) → P → OnOk r P
on-any (Ok x) p = p
on-any (Err y) p = tt

-- ---- answers: r is what a check gave, a its answer
module _ {T : Type 0} {r : Result T Refusal} {a : Answer} (e : answered r ≡ a) where
  pub ok-fine : {v : T} → r ≡ Ok v → a.number ≡ 0
  ok-fine h = ap (λ (z : Answer). z.number) (sym e ∙ ap (λ (x : Result T Refusal). answered x) h)

  pub err-some : {d : Refusal} → r ≡ Err d → a.number ≡ 0 → ⊥
  err-some {d} h z =
      some-fault d.fault (ap (λ (q : Answer). q.number) (ap (λ (x : Result T Refusal). answered x) (sym h) ∙ e) ∙ z)

  -- the refusal is the answer, whatever would come next
  pub err-stops : {d : Refusal} (b : Answer) → r ≡ Err d → refused_for d ≡ a or_else b
  err-stops b h =
      ap (λ (x : Result T Refusal). answered x) (sym h) ∙ e ∙ sym (answer-stops a b (err-some h))

  -- the same, where a `?` returns the refusal as q
  pub err-returned :
      {U : Type 0} {q : Result U Refusal} {d : Refusal} (b : Answer) → q ≡ Err d → r ≡ Err d → answered q ≡ a or_else b
  err-returned {U} b p h = ap (λ (x : Result U Refusal). answered x) p ∙ err-stops b h

  -- no refusal: what comes next is the answer
  pub ok-passes : {v : T} (b : Answer) → r ≡ Ok v → a or_else b ≡ b
  ok-passes b h = answer-passes a b (ok-fine h)

-- ---- readers: r is what a reader gave, m its mark
module _ {r : Result ℕ Found} {m : Mark} (e : marked r ≡ m) where
  pub read-some : {d : Found} → r ≡ Err d → m.number ≡ 0 → ⊥
  read-some {d} h z = some-fault d.fault (ap (λ (q : Mark). q.number) (ap marked (sym h) ∙ e) ∙ z)

  pub read-on : {i : ℕ} → r ≡ Ok i → on i ≡ m
  read-on h = ap marked (sym h) ∙ e

  pub read-stops : {d : Found} (k : ℕ → Mark) → r ≡ Err d → marked (Err d) ≡ m then k
  read-stops {d} k h = stops k (ap marked (sym h) ∙ e) (λ z. some-fault d.fault z)

  -- the same, where a `?` returns the fault as q
  pub read-returned :
      {q : Result ℕ Found} {d : Found} (k : ℕ → Mark) → q ≡ Err d → r ≡ Err d → marked q ≡ m then k
  read-returned k p h = ap marked p ∙ read-stops k h

  pub read-goes : {i : ℕ} {q : Mark} (k : ℕ → Mark) → r ≡ Ok i → q ≡ k i → q ≡ m then k
  read-goes k h f = goes k (read-on h) refl f
