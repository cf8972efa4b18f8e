-- WHAT A CALL THAT COUNTS GIVES BACK: an Err is a refusal and keeps the lent slice, an Ok counts what was put into its front.
use Rattle.std.specs.Prelude.{Result, Ok, Err, List, ◌++◌, ◌≡◌, ℕ, ◌≤◌, length, take, drop}
use Rattle.std.proofs.Common.{sym, ap, ◌∙◌, length-take-le}
use Rattle.std.proofs.Math.Seq.{take-length}
use Rattle.rules.specs.declared.Answer.{Answer}
use Rattle.rules.specs.declared.Refusal.{Refusal}
use Rattle.rules.specs.Answers.{counted}
use Rattle.rules.specs.Calls.{Gives, reply, over}
use Rattle.rules.specs.Results.{count_answered}
use Rattle.laws.specs.AnswersInTurn.{keeps}
use Rattle.laws.specs.Results.{some-fault}

-- r is what a call gave back, a its answer
module _ {r : Result ℕ Refusal} {a : Answer} (e : count_answered r ≡ a) where
  pub count-is : {n : ℕ} → r ≡ Ok n → counted n ≡ a
  count-is h = ap count_answered (sym h) ∙ e

  pub count-fine : {n : ℕ} → r ≡ Ok n → a.number ≡ 0
  count-fine h = ap (λ (x : Answer). x.number) (sym (count-is h))

  count-some : {d : Refusal} → r ≡ Err d → a.number ≡ 0 → ⊥
  count-some {d} h z = some-fault d.fault (ap (λ (x : Answer). x.number) (ap count_answered (sym h) ∙ e) ∙ z)

  -- a refusal, which a `?` returns as q
  pub count-keeps : {A : Type 0} {q : Result ℕ Refusal} {d : Refusal} (new old : List A) → q ≡ Err d → r ≡ Err d
      → Gives (count_answered q) old (reply a new old)
  count-keeps {A} {q} {d} new old p h =
      let f : count_answered q ≡ a = ap count_answered (p ∙ sym h) ∙ e in
      keeps new old f (λ z. count-some h (sym (ap (λ (x : Answer). x.number) f) ∙ z))

-- the first m numbers were put into a slice of m places
pub front-is : {A : Type 0} (new room : List A) {m : ℕ} {front : List A} → m ≤ length room → front ≡ take (length (take m room)) new
    → front ≡ take m new
front-is new room {m} l e = e ∙ ap (λ (k : ℕ). take k new) (length-take-le m room l)

-- the front of a lent slice, filled with n numbers
pub front-filled : {A : Type 0} (new room : List A) {n : ℕ} {front : List A} → n ≡ length new → n ≤ length room
    → front ≡ take (length (take n room)) new → front ++ drop n room ≡ over new room
front-filled new room h l e = rw (front-is new room l e, h, take-length)
