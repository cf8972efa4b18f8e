-- WHAT THE ELEMENT OF AN ANSWER SAYS, request R-7: "The answer gains an element number, counted row by row, for refusal 11".
use Rattle.std.specs.Prelude.{true, List, [], ◌∷◌, ◌++◌, reverse, ◌≡◌, ℕ, zero, suc, ◌≤◌, ◌<◌, ℤ, nat_abs, length, take}
use Rattle.rules.specs.declared.Answer.{Answer}
use Rattle.rules.specs.declared.Rule.{Rule}
use Rattle.rules.specs.Numbers.{bound, at}
use Rattle.rules.specs.Stages.{up_to, Stage, forward, undo, through, recovery}
use Rattle.rules.specs.Calls.{Plan, forward_call, inverse_call}
use Rattle.rules.specs.GoodStages.{has}

-- "the first offending element" along an order: its number lies beyond the bound, and those that stand before it do not
pub record FirstBeyond (order : List ℕ) (v : List ℤ) (e : ℕ) : Type 0 where
  pub before : List ℕ
  pub after : List ℕ
  pub splits : order ≡ before ++ (e ∷ after)
  pub beyond : bound < nat_abs (at v e)
  pub within : (k : ℕ) → has k before ≡ true → nat_abs (at v k) ≤ bound

-- the order of stage s: that of the input, or that of the s-th of the stages
unfoldable pub order_at : (Stage → List ℕ) → List ℕ → List Stage → ℕ → List ℕ
order_at look first ss zero = first
order_at look first [] (suc s) = first
order_at look first (stage ∷ ss) (suc s) = order_at look (look stage) ss s

-- "It is 0 in every other answer": an answer whose element is 0, and one whose element is 0 unless its number is 11
pub record NoElement (a : Answer) : Type 0 where
  pub none : a.element ≡ 0

pub record Plain (a : Answer) : Type 0 where
  pub plain : (a.number ≡ 11 → ⊥) → a.element ≡ 0

-- the calls over a plan, whose sheets are accepted and whose slices are of the block's length
pub record Elements (rule : Rule) (p : Plan) : Type 0 where
  -- "in a forward run and at stage 0 the first offending element in reading order": the numbers after `place` stages
  pub forward-element :
      (x y : List ℤ) → p.sheets.number ≡ 0 → length x ≡ p.size → length y ≡ p.size →
      let a = (forward_call rule p x y).answer in
      a.number ≡ 11 →
      FirstBeyond (up_to p.size) (through (forward rule p.size) (take a.place p.stages) x) a.element
  -- "in an inverse run the first in 01's recovery order for that factor"
  pub inverse-element :
      (x y : List ℤ) → p.sheets.number ≡ 0 → length x ≡ p.size → length y ≡ p.size →
      let a = (inverse_call rule p x y).answer in
      a.number ≡ 11 →
      FirstBeyond (order_at (recovery p.size) (up_to p.size) (reverse p.stages) a.place)
      (through (undo rule p.size) (take a.place (reverse p.stages)) x) a.element
