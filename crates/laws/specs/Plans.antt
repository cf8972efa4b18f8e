-- What an accepted reply of a run's call tells, and what makes one: sheets, lengths and the run itself. And good plans: their
-- stages can be undone and their blocks have a number as soon as their sheets are accepted. A line's plan and a pair's are good.
-- Assumes nothing.
use Rattle.std.specs.Prelude.{Bool, ◌↔◌, ◌≡◌, ℕ, zero, suc, ◌≤◌, ℤ, pos, length, replicate}
use mathlib.Core.List.{List, [], ◌∷◌, reverse}
use Rattle.std.proofs.Math.Path.{refl}
use Rattle.std.proofs.Common.{sym, ap, ◌∙◌, mul-pos, arith, eq-eqb, ne_eqb, le-leb}
use Rattle.std.proofs.Math.Decide.{ℕ_discrete, dec_le}
use Rattle.std.proofs.lemmas.Bool.{lt-leb}
use Rattle.std.proofs.lemmas.List.{length-replicate}
use Rattle.rules.specs.declared.Answer.{Answer}
use Rattle.rules.specs.declared.Rule.{Rule}
use Rattle.rules.specs.declared.Rule.TheVariants.{Nearest, Down, Even}
use Rattle.rules.specs.Stages.{Stage, forward, undo, allow, Ran, done, beyond, run, through, run_forward, run_inverse, run_allowance}
use Rattle.rules.specs.Answers.{accepted, ◌or_else◌}
use Rattle.rules.specs.Calls.{Gives, reply, Plan, line, joint, sized, ran_answer, ran_memory, run_reply, forward_call, inverse_call}
use Rattle.rules.specs.Calls.{allowance_call, rule_number, rule_of, rule_checked, under}
use Rattle.rules.proofs.Laws.Inverses.{length-forward, length-undo}
use Rattle.rules.proofs.Laws.AllowanceLaw.{length-allow}
use Rattle.rules.proofs.Laws.Runs.{run-through}
use Rattle.rules.proofs.Laws.Kinds.{lines-good, joints-good}
use Rattle.laws.specs.Stated.Calls.{GoodPlan}
use Rattle.laws.specs.Accepted.{accepted-order, accepted-read, both-fine, pair_read}
use Rattle.laws.specs.Sound.{sheet-sound, sheets-match}

-- ---- plans
pub line-plan : (s : List ℤ) → GoodPlan (line s)
unfolding line
line-plan s = record {
  good = λ h. lines-good (sheet-sound (accepted-read s h));
  some = λ h. (accepted-order (accepted-read s h)).least;
}

pub joint-plan : (c r : List ℤ) → GoodPlan (joint c r)
unfolding joint
joint-plan c r = record {
  good = λ h. let a = pair_read c r h in joints-good (sheets-match a.0 a.1 a.2);
  some = λ h. let a = pair_read c r h in mul-pos (accepted-order a.0).least (accepted-order a.1).least;
}

-- the same by the number of a rule, whose 16 comes first; where the number is a rule's, the plan is the plan itself
pub under-plan : (k : ℕ) {p : Plan} → GoodPlan p → GoodPlan (under k p)
under-plan k {p} g = record {
  good = λ h. g.good (both-fine (rule_checked k) p.sheets h).1;
  some = λ h. g.some (both-fine (rule_checked k) p.sheets h).1;
}

pub under-fine : (k : ℕ) (p : Plan) → (rule_checked k).number ≡ 0 → under k p ≡ p
unfolding ◌or_else◌
under-fine k p h = split (dec_le k 2)
  where
    split : Dec (k ≤ 2) → under k p ≡ p
    split (yes l) = rw (le-leb k 2 l)
    split (no l) = let x : ◌≡◌ {A = ℕ} 16 0 = rw (lt-leb k 2 (omega arith)) at h in absurd (omega arith)

-- the rules and the numbers 0, 1, 2 correspond
pub rule-of-number : (rule : Rule) → rule_of (rule_number rule) ≡ rule
unfolding rule_of rule_number
rule-of-number Nearest = refl
rule-of-number Down = refl
rule-of-number Even = refl

pub number-of-rule : (k : ℕ) → k ≤ 2 → rule_number (rule_of k) ≡ k
unfolding rule_of rule_number
number-of-rule zero l = refl
number-of-rule (suc zero) l = refl
number-of-rule (suc (suc zero)) l = refl
number-of-rule (suc (suc (suc k))) l = absurd (omega arith)

-- ---- what is asked after the sheets
pub sized-fine : {A : Type 0} (side n : ℕ) (v : List A) → (sized side n v).number ≡ 0 → length v ≡ n
sized-fine side n v h = split (ℕ_discrete (length v) n)
  where
    split : Dec (length v ≡ n) → length v ≡ n
    split (yes e) = e
    split (no d) = let x : ◌≡◌ {A = ℕ} 10 0 = rw (ne_eqb (length v) n d) at h in absurd (omega arith)

pub sized-is : {A : Type 0} (side n : ℕ) (v : List A) → length v ≡ n → sized side n v ≡ accepted
sized-is side n v h = rw (eq-eqb (length v) n h)

ran-fine : (k : ℕ) (ran : Ran) (y : List ℤ) → (ran_answer (suc k) ran).number ≡ 0 → ran ≡ done (ran_memory ran y)
unfolding ran_answer ran_memory
ran-fine k (done v) y h = refl
ran-fine k (beyond s e) y h = absurd (omega arith)

-- ---- an accepted call, whose run leaves c in the lent y
pub record Filled (p : Plan) (ran : Ran) (y c : List ℤ) : Type 0 where
  pub sheets : p.sheets.number ≡ 0
  pub output : length y ≡ p.size
  pub gives : ran ≡ done c

-- how every run's answer ends: 10 for the output, then 11 or 13
ends : (k : ℕ) (p : Plan) (ran : Ran) (y : List ℤ) → p.sheets.number ≡ 0 →
    (sized 1 p.size y or_else ran_answer (suc k) ran).number ≡ 0 → Filled p ran y (ran_memory ran y)
ends k p ran y s h =
    let a = both-fine (sized 1 p.size y) (ran_answer (suc k) ran) h in
    record { sheets = s; output = sized-fine 1 p.size y a.0; gives = ran-fine k ran y a.1 }

run-read : (p : Plan) (ran : Ran) (x y : List ℤ) → (run_reply p ran x y).answer.number ≡ 0 →
    (length x ≡ p.size) × Filled p ran y (run_reply p ran x y).memory
unfolding run_reply reply
run-read p ran x y h =
    let a = both-fine p.sheets _ h in
    let b = both-fine (sized 0 p.size x) _ a.1 in
    (sized-fine 0 p.size x b.0, rw (eq-eqb _ 0 h) (ends 10 p ran y a.0 b.1))

-- sheets and slices as they should be: the reply is the run's own
pub run-ready : (p : Plan) (ran : Ran) (x y : List ℤ) → p.sheets.number ≡ 0 → length x ≡ p.size → length y ≡ p.size →
    run_reply p ran x y ≡ reply (ran_answer 11 ran) (ran_memory ran y) y
unfolding run_reply ◌or_else◌
run-ready p ran x y h l k = rw (eq-eqb p.sheets.number 0 h, sized-is 0 p.size x l, sized-is 1 p.size y k)

run-fills : (p : Plan) (ran : Ran) (x y c : List ℤ) → length x ≡ p.size → Filled p ran y c →
    Gives accepted c (run_reply p ran x y)
unfolding reply ran_answer ran_memory
run-fills p ran x y c l f = rw (run-ready p ran x y f.sheets l f.output, f.gives) (refl, refl)

-- an answer's number, of the answer that a contract has
gives-fine : {a : Answer} → accepted ≡ a → a.number ≡ 0
gives-fine e = ap (λ (a : Answer). a.number) (sym e)

-- a run's call is accepted, with c in y, exactly if the input is of the block's length and the call is filled
pub run-gives : (p : Plan) (ran : Ran) (x y c : List ℤ) →
    Gives accepted c (run_reply p ran x y) ↔ ((length x ≡ p.size) × Filled p ran y c)
run-gives p ran x y c =
    (λ g. let a = run-read p ran x y (gives-fine g.0) in (a.0, rw g.1 a.1), λ h. run-fills p ran x y c h.0 h.1)

-- an answer 0 is all of `accepted`
pub run-accepted : (p : Plan) (ran : Ran) (x y : List ℤ) → (run_reply p ran x y).answer.number ≡ 0 →
    Gives accepted (run_reply p ran x y).memory (run_reply p ran x y)
run-accepted p ran x y h = let a = run-read p ran x y h in run-fills p ran x y _ a.0 a.1

-- ---- a run keeps the length of its list
module _ (step : Stage → List ℤ → List ℤ) (long : (s : Stage) (v : List ℤ) → length (step s v) ≡ length v) where
  pub through-length : (ss : List Stage) (v : List ℤ) → length (through step ss v) ≡ length v
  unfolding through
  through-length [] v = refl
  through-length (s ∷ ss) v = through-length ss (step s v) ∙ long s v

  run_length : (ok : List ℤ → Bool) (names : Stage → List ℤ → ℕ) (name : List ℤ → ℕ) (ss : List Stage) (v u : List ℤ) →
      run ok step names name ss v ≡ done u → length u ≡ length v
  run_length ok names name ss v u h = ap length (sym (run-through ok step names name ss v u h)) ∙ through-length ss v

module _ (rule : Rule) (N : ℕ) (ss : List Stage) (x y : List ℤ) where
  pub forward-length : run_forward rule N ss x ≡ done y → length y ≡ length x
  unfolding run_forward
  forward-length h = run_length (forward rule N) (length-forward rule N) _ _ _ ss x y h

  pub inverse-length : run_inverse rule N ss x ≡ done y → length y ≡ length x
  unfolding run_inverse
  inverse-length h = run_length (undo rule N) (length-undo rule N) _ _ _ (reverse ss) x y h

pub allowance-length : (rule : Rule) (N : ℕ) (ss : List Stage) (b : List ℤ) → run_allowance rule N ss ≡ done b → length b ≡ N
unfolding run_allowance
allowance-length rule N ss b h =
    run_length (allow rule N) (length-allow rule N) _ _ _ ss (replicate N (pos 0)) b h ∙ length-replicate N (pos 0)

-- ---- the three calls
module _ (rule : Rule) (p : Plan) where
  pub forward-gives : (x y c : List ℤ) →
      Gives accepted c (forward_call rule p x y) ↔ ((length x ≡ p.size) × Filled p (run_forward rule p.size p.stages x) y c)
  unfolding forward_call
  forward-gives x y c = run-gives p (run_forward rule p.size p.stages x) x y c

  pub inverse-gives : (x y c : List ℤ) →
      Gives accepted c (inverse_call rule p x y) ↔ ((length x ≡ p.size) × Filled p (run_inverse rule p.size p.stages x) y c)
  unfolding inverse_call
  inverse-gives x y c = run-gives p (run_inverse rule p.size p.stages x) x y c

  allowance-read : (y : List ℤ) → (allowance_call rule p y).answer.number ≡ 0 →
      Filled p (run_allowance rule p.size p.stages) y (allowance_call rule p y).memory
  unfolding allowance_call reply
  allowance-read y h =
      let a = both-fine p.sheets _ h in
      rw (eq-eqb _ 0 h) (ends 12 p (run_allowance rule p.size p.stages) y a.0 a.1)

  allowance-fills : (y b : List ℤ) → Filled p (run_allowance rule p.size p.stages) y b →
      Gives accepted b (allowance_call rule p y)
  unfolding allowance_call reply ran_answer ran_memory ◌or_else◌
  allowance-fills y b f = rw (eq-eqb p.sheets.number 0 f.sheets, sized-is 1 p.size y f.output, f.gives) (refl, refl)

  pub allowance-gives : (y b : List ℤ) →
      Gives accepted b (allowance_call rule p y) ↔ Filled p (run_allowance rule p.size p.stages) y b
  allowance-gives y b = (λ g. rw g.1 (allowance-read y (gives-fine g.0)), allowance-fills y b)

  pub forward-accepted : (x y : List ℤ) → (forward_call rule p x y).answer.number ≡ 0 →
      Gives accepted (forward_call rule p x y).memory (forward_call rule p x y)
  unfolding forward_call
  forward-accepted x y h = run-accepted p (run_forward rule p.size p.stages x) x y h

  pub inverse-accepted : (x y : List ℤ) → (inverse_call rule p x y).answer.number ≡ 0 →
      Gives accepted (inverse_call rule p x y).memory (inverse_call rule p x y)
  unfolding inverse_call
  inverse-accepted x y h = run-accepted p (run_inverse rule p.size p.stages x) x y h

  pub allowance-accepted : (y : List ℤ) → (allowance_call rule p y).answer.number ≡ 0 →
      Gives accepted (allowance_call rule p y).memory (allowance_call rule p y)
  allowance-accepted y h = allowance-fills y _ (allowance-read y h)
