-- THE ANSWER OF A STRIP, in the turns that the code takes: the sheets, the lengths, then all blocks.
use Rattle.std.specs.Prelude.{cond, List, ◌≡◌, refl, ℕ, ◌/◌, ◌%◌, eqb, ℤ, length}
use Rattle.std.proofs.Common.{sym, ◌∙◌, eq-eqb, ne_eqb}
use Rattle.std.proofs.Math.Path.{ap}
use Rattle.std.proofs.Math.Decide.{ℕ_discrete}
use Rattle.rules.specs.declared.Answer.{Answer}
use Rattle.rules.specs.declared.Refusal.{Refusal}
use Rattle.rules.specs.declared.Rule.{Rule}
use Rattle.rules.specs.Answers.{accepted, refused, ◌or_else◌}
use Rattle.rules.specs.Calls.{Reply, Plan, sized, rule_of, rule_checked, under, ruled}
use Rattle.rules.specs.Results.{refused_for}
use Rattle.rules.specs.Strips.{GivesStrip, in_blocks, outputs, bytes_of, strip_answer, strip}
use Rattle.laws.specs.Strips.{strip-ran, strip-found}
use Rattle.laws.specs.AnswersInTurn.{answer-passes, answer-stops}
use Rattle.laws.specs.Plans.{under-fine}
use Rattle.laws.specs.Results.{some-fault}
use Rattle.factor.specs.declared.run.Task.{Task}
use Rattle.factor.specs.Tasks.{call_by}
use Rattle.factor.specs.CallAnswers.{length_of}
use Rattle.striprun.specs.Plans.{strip_of}

-- 10 by the lengths
unfoldable pub strip_lengths : ℕ → ℕ → ℕ → ℕ → Answer
strip_lengths n x y b = cond (eqb (x % n) 0) (cond (eqb y x) (length_of (x / n) b) (refused 10 1 0)) (refused 10 0 0)

lengths : (n : ℕ) (x y : List ℤ) (b : List ℕ) →
    in_blocks n x or_else sized 1 (length x) y or_else sized 1 (length x / n) b ≡ strip_lengths n (length x) (length y) (length b)
unfolding strip_lengths length_of ◌or_else◌
lengths n x y b = split (ℕ_discrete (length x % n) 0) (ℕ_discrete (length y) (length x))
  where
    split : Dec (length x % n ≡ 0) → Dec (length y ≡ length x) →
        in_blocks n x or_else sized 1 (length x) y or_else sized 1 (length x / n) b ≡ strip_lengths n (length x) (length y)
        (length b)
    split (yes e) (yes d) = rw (eq-eqb _ 0 e, eq-eqb _ (length x) d)
    split (yes e) (no d) = rw (eq-eqb _ 0 e, ne_eqb _ (length x) d)
    split (no e) d = rw (ne_eqb _ 0 e)

module _ (p : Plan) (x y : List ℤ) (b : List ℕ) where
  turns : strip_answer p x y b ≡ p.sheets or_else strip_lengths p.size (length x) (length y) (length b)
  unfolding strip_answer
  turns = ap (λ (a : Answer). p.sheets or_else a) (lengths p.size x y b)

  pub sheets-first : {a : Answer} → a ≡ p.sheets → (a.number ≡ 0 → ⊥) → a ≡ strip_answer p x y b
  sheets-first e h = e ∙ sym (turns ∙ answer-stops p.sheets _ (λ z. h (ap (λ (q : Answer). q.number) e ∙ z)))

  pub lengths-then : {a : Answer} → p.sheets.number ≡ 0 → a ≡ strip_lengths p.size (length x) (length y) (length b) →
      a ≡ strip_answer p x y b
  lengths-then h e = e ∙ sym (turns ∙ answer-passes p.sheets _ h)

  module _ (call : List ℤ → List ℤ → Reply ℤ) {a : Answer} (e : a ≡ strip_answer p x y b) where
    -- a refusal leaves both lent slices as found
    pub strip-stops : (a.number ≡ 0 → ⊥) → GivesStrip a y b (strip p call x y b)
    strip-stops h = rw (strip-found p call x y b (λ z. h (ap (λ (q : Answer). q.number) e ∙ z))) (e, refl, refl)

    pub strip-goes :
        {m : List ℤ} {bs : List ℕ} → a.number ≡ 0 → (m ≡ outputs p call (length b) x y) × (bs ≡ bytes_of p call (length b) x y) →
        GivesStrip a m bs (strip p call x y b)
    strip-goes h g = rw (strip-ran p call x y b (ap (λ (q : Answer). q.number) (sym e) ∙ h)) (e, g.0, g.1)

  -- a check that refuses ends the strip at its `?`
  module _ (call : List ℤ → List ℤ → Reply ℤ) (d : Refusal) where
    pub sheets-refuse : refused_for d ≡ p.sheets → GivesStrip (refused_for d) y b (strip p call x y b)
    sheets-refuse e = strip-stops call (sheets-first e (some-fault d.fault)) (some-fault d.fault)

    pub lengths-refuse : p.sheets.number ≡ 0 → refused_for d ≡ strip_lengths p.size (length x) (length y) (length b) →
        GivesStrip (refused_for d) y b (strip p call x y b)
    lengths-refuse h e = strip-stops call (lengths-then h e) (some-fault d.fault)

-- ---- a strip by the number of a rule: 16 comes first, then the strip is the one of that rule; a is what the check of the number
-- answered
module _ (task : Task) (k : ℕ) (p : Plan) (x y : List ℤ) (b : List ℕ) {a : Answer} (e : a ≡ rule_checked k) where
  pub rule-stops : (a.number ≡ 0 → ⊥) → GivesStrip a y b (ruled k (strip_of task) p x y b)
  rule-stops h =
      let refuses = answer-stops (rule_checked k) p.sheets (λ z. h (ap (λ (q : Answer). q.number) e ∙ z)) in
      strip-stops (under k p) x y b (call_by task (rule_of k) (under k p)) (sheets-first (under k p) x y b (e ∙ sym refuses) h) h

  pub rule-goes : {c : Answer} {m : List ℤ} {bs : List ℕ} → a.number ≡ 0 → GivesStrip c m bs (strip_of task (rule_of k) p x y b) →
      GivesStrip c m bs (ruled k (strip_of task) p x y b)
  rule-goes h g = rw (under-fine k p (ap (λ (q : Answer). q.number) (sym e) ∙ h)) g

-- the same, of what the check gave back
module _ (task : Task) (k : ℕ) (p : Plan) (x y : List ℤ) (b : List ℕ) where
  pub rule-err : (d : Refusal) → rule_checked k ≡ refused_for d → GivesStrip (refused_for d) y b (ruled k (strip_of task) p x y b)
  rule-err d e = rule-stops task k p x y b (sym e) (some-fault d.fault)

  module _ (fine : rule_checked k ≡ accepted) where
    pub sheets-err : (d : Refusal) → refused_for d ≡ p.sheets → GivesStrip (refused_for d) y b (ruled k (strip_of task) p x y b)
    sheets-err d e = rule-goes task k p x y b (sym fine) refl (sheets-refuse p x y b (call_by task (rule_of k) p) d e)

    pub rule-runs : {rule : Rule} {c : Answer} {m : List ℤ} {bs : List ℕ} → rule_of k ≡ rule →
        GivesStrip c m bs (strip_of task rule p x y b) →
        GivesStrip c m bs (ruled k (strip_of task) p x y b)
    rule-runs e g = rule-goes task k p x y b (sym fine) refl (rw e g)
