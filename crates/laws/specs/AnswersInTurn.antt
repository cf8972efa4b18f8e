-- ANSWERS IN TURN: the first that refuses answers, and a call that refuses leaves the lent slice as it was.
use Rattle.std.specs.Prelude.{List, ◌≡◌, ℕ, ℤ}
use Rattle.std.proofs.Common.{sym, ap, ◌∙◌}
use Rattle.std.proofs.Math.Decide.{ℕ_discrete}
use borrow.Author.Tests.{eq-eqb, ne_eqb}
use Rattle.rules.specs.declared.Answer.{Answer}
use Rattle.rules.specs.Stages.{Ran}
use Rattle.rules.specs.Answers.{◌or_else◌}
use Rattle.rules.specs.Calls.{Reply, Gives, reply, ran_answer, ran_memory}

-- ---- two answers
pub answer-stops : (a b : Answer) → (a.number ≡ 0 → ⊥) → a or_else b ≡ a
unfolding ◌or_else◌
answer-stops a b h = rw (ne_eqb a.number 0 h)

pub answer-passes : (a b : Answer) → a.number ≡ 0 → a or_else b ≡ b
unfolding ◌or_else◌
answer-passes a b h = rw (eq-eqb a.number 0 h)

pub in-turn : (a b c : Answer) → a or_else (b or_else c) ≡ (a or_else b) or_else c
in-turn a b c = split (ℕ_discrete a.number 0)
  where
    split : Dec (a.number ≡ 0) → a or_else (b or_else c) ≡ (a or_else b) or_else c
    split (yes e) = answer-passes a (b or_else c) e ∙ ap (λ (z : Answer). z or_else c) (sym (answer-passes a b e))
    split (no d) =
        answer-stops a (b or_else c) d ∙ sym (answer-stops a c d) ∙ ap (λ (z : Answer). z or_else c) (sym (answer-stops a b d))

-- ---- the lent slice after a refusal, and after none
module _ {A : Type 0} {x a : Answer} (new old : List A) (e : x ≡ a) where
  pub keeps : (x.number ≡ 0 → ⊥) → Gives x old (reply a new old)
  unfolding reply
  keeps h = (e, rw (sym e, ne_eqb x.number 0 h))

  pub fills : {memory : List A} → x.number ≡ 0 → memory ≡ new → Gives x memory (reply a new old)
  unfolding reply
  fills h f = (e, rw (sym e, eq-eqb x.number 0 h) f)

-- a refusal that comes first, and a check that passes
module _ {x : Answer} (a b : Answer) (new old : List ℤ) (e : x ≡ a) where
  pub reply-stops : (x.number ≡ 0 → ⊥) → Gives x old (reply (a or_else b) new old)
  reply-stops h = keeps new old (e ∙ sym (answer-stops a b (λ z. h (ap (λ (q : Answer). q.number) e ∙ z)))) h

  pub reply-passes : x.number ≡ 0 → reply (a or_else b) new old ≡ reply b new old
  reply-passes h = ap (λ (q : Answer). reply q new old) (answer-passes a b (ap (λ (q : Answer). q.number) (sym e) ∙ h))

-- the reply to a run whose sheets and lengths are fine: 11 or 13, or the numbers in the output
abbrev pub ran_reply : ℕ → Ran → List ℤ → Reply ℤ
ran_reply number ran y = reply (ran_answer number ran) (ran_memory ran y) y
