-- WHAT THE PROMISES OF A CALL SAY: an accepted call, a refused one; the exact product; demands 2 and 3 over any plan.
use Rattle.std.specs.Prelude.{List, ◌≡◌, ℕ, ◌*◌, ◌<◌, ℤ, pos, nat_abs, ◌-ℤ◌, ◌*ℤ◌, length, ◌≤ℤ◌}
use Rattle.rules.specs.declared.Answer.{Answer}
use Rattle.rules.specs.Numbers.{unit, at}
use Rattle.rules.specs.declared.Rule.{Rule}
use Rattle.rules.specs.Stages.{exact_product, exact_scale}
use Rattle.rules.specs.Answers.{accepted}
use Rattle.rules.specs.Calls.{Reply, Gives, Plan, forward_call, inverse_call, allowance_call}
use Rattle.rules.specs.GoodStages.{AllGood}

-- a call answered 0 and left m
pub record Accepts (m : List ℤ) (q : Reply ℤ) : Type 0 where
  pub answer : Answer
  pub gives : Gives answer m q
  pub zero : answer.number ≡ 0

-- "Refused calls leave lent memory untouched": a reply that, if it is refused, has the memory as lent
pub record Keeps {A : Type 0} (q : Reply A) (lent : List A) : Type 0 where
  pub keeps : (q.answer.number ≡ 0 → ⊥) → q.memory ≡ lent

-- "giving E at scale D"
abbrev pub E : Plan → List ℤ → List ℤ
E p x = exact_product p.size p.stages x

abbrev pub D : Plan → ℕ
D p = exact_scale p.stages

-- once its sheets are accepted, a plan's stages can be undone, and its blocks have a number
pub record GoodPlan (p : Plan) : Type 0 where
  pub good : p.sheets.number ≡ 0 → AllGood p.size p.stages
  pub some : p.sheets.number ≡ 0 → 0 < p.size

-- a call, with some slice lent, is accepted and leaves c in that slice
pub record Fills (call : List ℤ → Reply ℤ) (c : List ℤ) : Type 0 where
  pub lent : List ℤ
  pub gives : Gives accepted c (call lent)

-- demands 2 and 3 of the calls over a plan
pub record Promises (rule : Rule) (p : Plan) : Type 0 where
  -- demand 2: coefficients that a forward call gave come back as the block, whatever the lent slice z had
  pub back-again :
      (x z : List ℤ) {c : List ℤ} → length z ≡ p.size → Fills (forward_call rule p x) c →
      Gives accepted x (inverse_call rule p c z)
  -- and a block that an inverse call gave comes back as the coefficients
  pub there-again :
      (y z : List ℤ) {x : List ℤ} → length z ≡ p.size → Fills (inverse_call rule p y) x →
      Gives accepted y (forward_call rule p x z)
  -- demand 3: "4096·|D·y - E| ≤ D·b"
  pub within-allowance :
      (x : List ℤ) {y b : List ℤ} → Fills (allowance_call rule p) b → Fills (forward_call rule p x) y → (e : ℕ) → e < p.size →
      pos (unit * nat_abs ((pos (D p) *ℤ at y e) -ℤ at (E p x) e)) ≤ℤ (pos (D p) *ℤ at b e)
  -- "4096·|F(x) - F(z) - F(x-z)| ≤ 3·b", where u is x - z element by element
  pub difference :
      (x z u : List ℤ) {fx fz fu b : List ℤ} → ((e : ℕ) → e < p.size → at u e ≡ at x e -ℤ at z e) →
      Fills (allowance_call rule p) b → Fills (forward_call rule p x) fx → Fills (forward_call rule p z) fz →
      Fills (forward_call rule p u) fu →
      (e : ℕ) → e < p.size → pos (unit * nat_abs ((at fx e -ℤ at fz e) -ℤ at fu e)) ≤ℤ (pos 3 *ℤ at b e)
