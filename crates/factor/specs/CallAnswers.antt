-- THE ANSWER OF A CALL in the turns that the code takes: the sheets, the lengths, then the run itself.
use Rattle.std.specs.Prelude.{cond, List, ◌≡◌, refl, ℕ, eqb, ℤ, length, Result, Ok}
use Rattle.std.proofs.Math.Path.{sym, ap}
use Rattle.std.proofs.Common.{◌∙◌, arith, eq-eqb, ne_eqb}
use Rattle.std.proofs.Math.Decide.{ℕ_discrete}
use Rattle.rules.specs.declared.Answer.{Answer}
use Rattle.rules.specs.declared.Refusal.{Refusal}
use Rattle.rules.specs.declared.Rule.{Rule}
use Rattle.rules.specs.Stages.{run_forward, run_inverse}
use Rattle.rules.specs.Answers.{accepted, refused, ◌or_else◌}
use Rattle.rules.specs.Calls.{Gives, reply, Plan, sized, ran_answer, ran_memory, run_reply, forward_call, inverse_call, allowance_call}
use Rattle.rules.specs.Calls.{rule_of, rule_checked, under, ruled}
use Rattle.rules.specs.Results.{refused_for, answered}
use Rattle.laws.specs.Accepted.{both-fine}
use Rattle.laws.specs.AnswersInTurn.{answer-stops, answer-passes, in-turn, reply-stops, reply-passes, ran_reply}
use Rattle.laws.specs.Results.{some-fault, ok-fine}
use Rattle.factor.specs.declared.run.Task.{Task}
use Rattle.factor.specs.declared.run.Task.TheVariants.{Forward, Inverse, Allowance}
use Rattle.factor.specs.declared.run.Run.{Run}
use Rattle.factor.specs.Tasks.{inputs_of, number_of, ran_by, ran, call_by, call_of}

-- ---- 10 by the lengths
unfoldable pub length_of : ℕ → ℕ → Answer
length_of size y = cond (eqb y size) accepted (refused 10 1 0)

unfoldable pub lengths_of : Task → ℕ → ℕ → ℕ → Answer
lengths_of task size x y = cond (eqb x (inputs_of task size)) (length_of size y) (refused 10 0 0)

length-fine : (size y : ℕ) → (length_of size y).number ≡ 0 → y ≡ size
unfolding length_of
length-fine size y h = split (ℕ_discrete y size)
  where
    split : Dec (y ≡ size) → y ≡ size
    split (yes e) = e
    split (no d) = let z : ◌≡◌ {A = ℕ} 10 0 = rw (ne_eqb y size d) at h in absurd (omega arith)

-- lengths that are no fault
pub lengths-fine : (task : Task) (size x y : ℕ) → (lengths_of task size x y).number ≡ 0 → (x ≡ inputs_of task size) × (y ≡ size)
unfolding lengths_of
lengths-fine task size x y h = split (ℕ_discrete x (inputs_of task size))
  where
    split : Dec (x ≡ inputs_of task size) → (x ≡ inputs_of task size) × (y ≡ size)
    split (yes e) = (e, length-fine size y (rw (eq-eqb x (inputs_of task size) e) at h))
    split (no d) = let z : ◌≡◌ {A = ℕ} 10 0 = rw (ne_eqb x (inputs_of task size) d) at h in absurd (omega arith)

pub lengths-right : (task : Task) (size x y : ℕ) → x ≡ inputs_of task size → y ≡ size → (lengths_of task size x y).number ≡ 0
unfolding lengths_of length_of
lengths-right task size x y e d = rw (eq-eqb x (inputs_of task size) e, eq-eqb y size d)

-- both lengths in one answer
sizes : (n : ℕ) (x y : List ℤ) (d : Answer) →
    sized 0 n x or_else (sized 1 n y or_else d) ≡ cond (eqb (length x) n) (length_of n (length y)) (refused 10 0 0) or_else d
unfolding length_of
sizes n x y d = in-turn (sized 0 n x) (sized 1 n y) d ∙ ap (λ (z : Answer). z or_else d) (split (ℕ_discrete (length x) n))
  where
    split : Dec (length x ≡ n) → sized 0 n x or_else sized 1 n y ≡ cond (eqb (length x) n) (sized 1 n y) (refused 10 0 0)
    split (yes e) = answer-passes (sized 0 n x) (sized 1 n y) (rw (eq-eqb (length x) n e)) ∙ rw (eq-eqb (length x) n e)
    split (no e) = rw (ne_eqb (length x) n e) (answer-stops (refused 10 0 0) (sized 1 n y) (λ z. omega arith))

-- ---- the call
-- nothing is lent for allowances
unfoldable pub NoneLent : Task → List ℤ → Type 0
NoneLent Forward x = Unit {0}
NoneLent Inverse x = Unit {0}
NoneLent Allowance x = length x ≡ 0

-- a call of the document, its checks told apart from its run
in_turns : (task : Task) (rule : Rule) (p : Plan) (x y : List ℤ) → NoneLent task x →
    let ran = ran_by task rule p.size p.stages x in
    call_by task rule p x y
    ≡ reply (p.sheets or_else (lengths_of task p.size (length x) (length y) or_else ran_answer (number_of task) ran))
    (ran_memory ran y) y
unfolding NoneLent call_by forward_call inverse_call allowance_call run_reply lengths_of inputs_of number_of ran_by length_of
in_turns Forward rule p x y h = rw (sizes p.size x y (ran_answer 11 (run_forward rule p.size p.stages x)))
in_turns Inverse rule p x y h = rw (sizes p.size x y (ran_answer 11 (run_inverse rule p.size p.stages x)))
in_turns Allowance rule p x y h = rw (eq-eqb (length x) 0 h)

-- all checks of a call by the number k of a rule, over slices of so many numbers: 16, the sheets, the lengths
unfoldable pub checks_of : ℕ → Task → Plan → ℕ → ℕ → Answer
checks_of k task p x y = rule_checked k or_else (p.sheets or_else lengths_of task p.size x y)

-- in the turns in which the code meets them: a is what the check of the number answered, b that of the sheets
module _ (k : ℕ) (task : Task) (p : Plan) (x y : ℕ) {a : Answer} (e : a ≡ rule_checked k) where
  pub rule-stops : (a.number ≡ 0 → ⊥) → a ≡ checks_of k task p x y
  unfolding checks_of
  rule-stops h = e ∙ sym (answer-stops (rule_checked k) _ (λ z. h (ap (λ (q : Answer). q.number) e ∙ z)))

  rule-goes : a.number ≡ 0 → checks_of k task p x y ≡ p.sheets or_else lengths_of task p.size x y
  unfolding checks_of
  rule-goes h = answer-passes (rule_checked k) _ (ap (λ (q : Answer). q.number) (sym e) ∙ h)

  module _ (fine : a.number ≡ 0) {b : Answer} (d : b ≡ p.sheets) where
    pub sheets-stop : (b.number ≡ 0 → ⊥) → b ≡ checks_of k task p x y
    sheets-stop h =
        d ∙ sym (answer-stops p.sheets _ (λ z. h (ap (λ (q : Answer). q.number) d ∙ z))) ∙ sym (rule-goes fine)

    pub lengths-left : {l : Answer} → b.number ≡ 0 → l ≡ lengths_of task p.size x y → l ≡ checks_of k task p x y
    lengths-left h f =
        f ∙ sym (answer-passes p.sheets _ (ap (λ (q : Answer). q.number) (sym d) ∙ h)) ∙ sym (rule-goes fine)

-- a call after its checks
module _ (k : ℕ) (task : Task) (p : Plan) (x y : List ℤ) (none : NoneLent task x) {a : Answer}
    (e : a ≡ checks_of k task p (length x) (length y)) where
  turns : ruled k (call_by task) p x y
      ≡ reply (checks_of k task p (length x) (length y)
      or_else ran_answer (number_of task) (ran_by task (rule_of k) p.size p.stages x))
      (ran_memory (ran_by task (rule_of k) p.size p.stages x) y) y
  unfolding checks_of
  turns =
      let lengths = lengths_of task p.size (length x) (length y) in
      let last = ran_answer (number_of task) (ran_by task (rule_of k) p.size p.stages x) in
      in_turns task (rule_of k) (under k p) x y none
      ∙ ap (λ (q : Answer). reply q (ran_memory (ran_by task (rule_of k) p.size p.stages x) y) y)
      (in-turn (rule_checked k or_else p.sheets) lengths last
      ∙ ap (λ (q : Answer). q or_else last) (sym (in-turn (rule_checked k) p.sheets lengths)))

  pub checks-refuse : (a.number ≡ 0 → ⊥) → Gives a y (ruled k (call_by task) p x y)
  checks-refuse h = rw turns (reply-stops (checks_of k task p (length x) (length y)) _ _ y e h)

  -- nothing is left but the run
  pub run-is-left : a.number ≡ 0 →
      ruled k (call_by task) p x y ≡ ran_reply (number_of task) (ran_by task (rule_of k) p.size p.stages x) y
  run-is-left h = turns ∙ reply-passes (checks_of k task p (length x) (length y)) _ _ y e h

  pub checks-fine : a.number ≡ 0 →
      (p.sheets.number ≡ 0) × (length x ≡ inputs_of task p.size) × (length y ≡ p.size)
  unfolding checks_of
  checks-fine h =
      let z = both-fine (rule_checked k) _ (ap (λ (q : Answer). q.number) (sym e) ∙ h) in
      let w = both-fine p.sheets _ z.1 in
      let l = lengths-fine task p.size (length x) (length y) w.1 in
      (w.0, l.0, l.1)

-- ---- the same of what the checks gave back: a check that refuses ends the call at its `?`
module _ (k : ℕ) (task : Task) (p : Plan) (x y : ℕ) where
  pub rule-err : (d : Refusal) → rule_checked k ≡ refused_for d → refused_for d ≡ checks_of k task p x y
  rule-err d e = rule-stops k task p x y (sym e) (some-fault d.fault)

  module _ (fine : rule_checked k ≡ accepted) where
    pub sheets-err : (d : Refusal) → refused_for d ≡ p.sheets → refused_for d ≡ checks_of k task p x y
    sheets-err d e = sheets-stop k task p x y (sym fine) refl e (some-fault d.fault)

    -- the check of the lengths, told by `check_lengths`, is the last
    pub lengths-told : {T : Type 0} (l : Result T Refusal) → p.sheets.number ≡ 0 → answered l ≡ lengths_of task p.size x y →
        answered l ≡ checks_of k task p x y
    lengths-told l h f = lengths-left k task p x y (sym fine) refl refl h f

module _ (k : ℕ) (task : Task) (p : Plan) (x y : List ℤ) (none : NoneLent task x) where
  pub call-err : (d : Refusal) → refused_for d ≡ checks_of k task p (length x) (length y) →
      Gives (refused_for d) y (ruled k (call_by task) p x y)
  call-err d e = checks-refuse k task p x y none e (some-fault d.fault)

  module _ {T : Type 0} {l : Result T Refusal} {v : T} (e : answered l ≡ checks_of k task p (length x) (length y))
      (h : l ≡ Ok v) where
    pub call-fine : (p.sheets.number ≡ 0) × (length x ≡ inputs_of task p.size) × (length y ≡ p.size)
    call-fine = checks-fine k task p x y none refl (ok-fine e h)

    -- nothing is left but the run by the rule of that number
    pub call-runs : {rule : Rule} → rule_of k ≡ rule →
        ruled k (call_by task) p x y ≡ ran_reply (number_of task) (ran_by task rule p.size p.stages x) y
    call-runs f =
        run-is-left k task p x y none refl (ok-fine e h)
        ∙ ap (λ (q : Rule). ran_reply (number_of task) (ran_by task q p.size p.stages x) y) f

-- the single call of a block whose sheets and lengths are right is its run
pub block-is-run :
    (r : Run) (p : Plan) (x y : List ℤ) → NoneLent r.task x → p.sheets.number ≡ 0 →
    (lengths_of r.task p.size (length x) (length y)).number ≡ 0 →
    call_of r p x y ≡ ran_reply (number_of r.task) (ran r p.size p.stages x) y
block-is-run r p x y none s l =
    in_turns r.task r.rule p x y none ∙ reply-passes p.sheets _ _ y refl s
    ∙ reply-passes (lengths_of r.task p.size (length x) (length y)) _ _ y refl l
