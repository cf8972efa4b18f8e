-- THE STAGE THAT IS REFUSED, by its shape: its elements, signs, weights and turns, as the document has them, and what the search
-- asks of it. Definitions for the code.
use Rattle.std.specs.Prelude.{Bool, cond, List, ◌≢◌, ◌≡◌, ℕ, ◌+◌, ◌*◌, ◌≤◌, ℤ, length}
use Rattle.rules.specs.declared.Kind.TheVariants.{Permutation}
use Rattle.rules.specs.declared.Rule.{Rule}
use Rattle.rules.specs.Numbers.{most_order, unit, unit², bound, count}
use Rattle.rules.specs.Sheets.{kind_of}
use Rattle.rules.specs.Factors.{Factor, factor_at}
use Rattle.rules.specs.Stages.{Stage}
use Rattle.rules.specs.Shapes.{by_turn, turn, joint_sign, joint_weight, joint_shared, joint_stage}
use Rattle.rules.specs.Shapes.{Lines, pass_sign, pass_weight, pass_turn, pass_stage}
use Rattle.laws.specs.Accepted.{FactorRead}
use Rattle.factor.specs.SumBounds.{Bounded}
use Rattle.factor.specs.LayoutInSheet.{Paired}
use Rattle.factor.specs.PassLines.{lines_by}
use Rattle.offender.specs.declared.weights.Shape.{Shape}
use Rattle.offender.specs.declared.weights.Shape.TheVariants.{Joint, Pass}
use Rattle.offender.specs.declared.weights.Refused.{Refused}
use Rattle.offender.specs.Search.{made, searched}

-- ---- by the shape
-- the lines of a pass
abbrev pub lines : Refused → Bool → Lines
lines q down = lines_by down q.n2 q.n1

unfoldable pub cells_by : Refused → Shape → ℕ
cells_by q Joint = q.n1 * q.n2
cells_by q (Pass down) = q.n2 * q.n1

unfoldable pub turns_by : Refused → Shape → ℕ
turns_by q Joint = q.n1 * q.n2 + 4
turns_by q (Pass down) = q.n2 * (q.n1 + 4)

unfoldable pub scale_by : Shape → ℕ
scale_by Joint = unit²
scale_by (Pass down) = unit

module _ (q : Refused) (A B : Factor) where
  unfoldable pub sign_by : Shape → ℕ → ℤ
  sign_by Joint e = joint_sign q.n1 q.n2 A B e
  sign_by (Pass down) e = pass_sign (lines q down) A e

  unfoldable pub weight_by : Shape → ℕ → ℕ → ℤ
  weight_by Joint e k = joint_weight q.n1 q.n2 A B e k
  weight_by (Pass down) e k = pass_weight (lines q down) A e k

  unfoldable pub turn_by : Shape → ℕ → ℕ
  turn_by Joint e = turn A.kind (q.n1 * q.n2) (joint_shared q.n1 q.n2 A B e) e
  turn_by (Pass down) e = pass_turn (lines q down) A e

  unfoldable pub stage_shaped : Shape → Stage
  stage_shaped Joint = joint_stage q.n1 q.n2 A B
  stage_shaped (Pass down) = pass_stage (lines q down) A

-- ---- of the stage
abbrev pub cells : Refused → ℕ
cells q = cells_by q q.shape

-- what is applied is looked at in one turn
abbrev pub turns : Bool → Refused → ℕ
turns back q = cond back (turns_by q q.shape) 1

module _ (q : Refused) (c r : List ℤ) where
  abbrev pub sign_of : ℕ → ℤ
  sign_of = sign_by q (factor_at c q.n1 q.i) (factor_at r q.n2 q.j) q.shape

  abbrev pub weight_of : ℕ → ℕ → ℤ
  weight_of = weight_by q (factor_at c q.n1 q.i) (factor_at r q.n2 q.j) q.shape

  abbrev pub stage_of : Stage
  stage_of = stage_shaped q (factor_at c q.n1 q.i) (factor_at r q.n2 q.j) q.shape

module _ (back : Bool) (q : Refused) (c r : List ℤ) where
  abbrev pub turn_of : ℕ → ℕ
  turn_of e = cond back (turn_by q (factor_at c q.n1 q.i) (factor_at r q.n2 q.j) q.shape e) 0

  abbrev pub order_of : List ℕ
  order_of = by_turn (cells q) (turns back q) turn_of

-- what an element becomes, or was; the search along an order
module _ (rule : Rule) (back : Bool) (q : Refused) (c r : List ℤ) where
  abbrev pub made_of : List ℤ → ℕ → ℤ
  made_of = made rule (cells q) (scale_by q.shape) (sign_of q c r) (weight_of q c r) back

  abbrev pub search_of : List ℕ → List ℤ → ℕ
  search_of = searched rule (cells q) (scale_by q.shape) (sign_of q c r) (weight_of q c r) back

-- ---- what the code asks
-- no order is too long
abbrev pub Small : Refused → Type 0
Small q = (q.n1 ≤ most_order) × (q.n2 ≤ most_order)

-- the factors stand in checked sheets; those of a pair match
pub record Placed (q : Refused) (c r : List ℤ) : Type 0 where
  pub some1 : 1 ≤ q.n1
  pub most1 : q.n1 ≤ most_order
  pub column : FactorRead c q.n1 q.i
  pub some2 : 1 ≤ q.n2
  pub most2 : q.n2 ≤ most_order
  pub pair : q.shape ≡ Joint → Paired c r q.n1 q.n2 q.i q.j

-- a factor of a checked sheet that has weights
pub record HasWeights (s : List ℤ) (n i : ℕ) : Type 0 where
  pub most : n ≤ most_order
  pub read : FactorRead s n i
  pub weighs : kind_of (count s i) ≢ Permutation

-- a stage that has weights
pub record Weighed (q : Refused) (c r : List ℤ) : Type 0 where
  pub placed : Placed q c r
  pub weighs : kind_of (count c q.i) ≢ Permutation

-- and a block in bound
pub record Given (q : Refused) (c r x : List ℤ) : Type 0 where
  pub stage : Weighed q c r
  pub small : Bounded bound x
  pub room : cells q ≤ length x
