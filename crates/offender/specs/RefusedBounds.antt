-- HOW LARGE THE NUMBERS OF A REFUSED STAGE BECOME, so that 64 bits hold them.
use Rattle.std.specs.Prelude.{Bool, true, false, cond, List, ◌≡◌, ℕ, ◌+◌, ◌*◌, ◌/◌, ◌%◌, ◌≤◌, ◌<◌, eqb, ℤ, ◌*ℤ◌}
use Rattle.std.proofs.Math.Path.{refl}
use Rattle.std.proofs.Common.{◌∙◌, mul-le-mul, mul-le-mul_right, arith}
use Rattle.whole.specs.Diff.{Within}
use Rattle.whole.specs.Laws.{signs-times}
use Rattle.whole.specs.Machine.{within-le, within-pos, within-*}
use Rattle.whole.specs.Stated.{Sign, sum}
use Rattle.whole.specs.Sum.{sum-within}
use Rattle.rules.specs.declared.Rule.{Rule}
use Rattle.rules.specs.Numbers.{most_cells, most_entry, unit, unit², bound, at}
use Rattle.rules.specs.Factors.{factor_at}
use Rattle.rules.specs.Stages.{R, off, weighed}
use Rattle.rules.specs.Shapes.{joint_sign, joint_weight, pass_sign, pass_weight}
use Rattle.rules.proofs.Laws.Rectangles.{row_below, col-below}
use Rattle.factor.specs.PassLines.{lines-many, lines_long, tiles-by}
use Rattle.factor.specs.Rounding.{rounded-within}
use Rattle.offender.specs.declared.weights.Shape.{Shape}
use Rattle.offender.specs.declared.weights.Shape.TheVariants.{Joint, Pass}
use Rattle.offender.specs.declared.weights.Refused.{Refused}
use Rattle.offender.specs.Search.{Passed}
use Rattle.offender.specs.RefusedStages.{cells_by, scale_by, sign_by, weight_by, lines, cells, sign_of, weight_of}
use Rattle.offender.specs.RefusedStages.{Small, Placed, HasWeights, Weighed, Given}
use Rattle.offender.specs.FactorMatrix.{sign-is, matrix-small}

pub small : {q : Refused} {c r : List ℤ} → Placed q c r → Small q
small p = (p.most1, p.most2)

cells-by : (q : Refused) → Small q → (s : Shape) → cells_by q s ≤ most_cells
unfolding cells_by
cells-by q h Joint = mul-le-mul h.0 h.1
cells-by q h (Pass down) = mul-le-mul h.1 h.0

-- an element of a pass is in one of its lines
module _ (q : Refused) (down : Bool) (e : ℕ) (l : e < q.n2 * q.n1) where
  pub line-below : (lines q down).line e < q.n2
  line-below = rw (lines-many down q.n2 q.n1) at ((tiles-by down q.n2 q.n1).line-below e l)

  pub spot-below : (lines q down).spot e < q.n1
  spot-below = rw (lines_long down q.n2 q.n1) at ((tiles-by down q.n2 q.n1).spot-below e l)

-- a weight, a sum, and the sum rounded
abbrev pub most_weight : ℕ
most_weight = most_entry * most_entry

abbrev pub most_sum : ℕ
most_sum = most_cells * (most_weight * bound)

abbrev pub most_rounded : ℕ
most_rounded = most_sum + unit²

either-small : (t : Bool) {a b : ℤ} → Within most_weight a → Within most_weight b → Within most_weight (cond t a b)
either-small true x y = x
either-small false x y = y

module _ {q : Refused} {c r : List ℤ} (h : Weighed q c r) where
  pub cells-most : cells q ≤ most_cells
  cells-most = cells-by q (small h.placed) q.shape

  -- the factors of the stage
  pub first : HasWeights c q.n1 q.i
  first = record { most = h.placed.most1; read = h.placed.column; weighs = h.weighs }

  pub second : q.shape ≡ Joint → HasWeights r q.n2 q.j
  second s = let p = h.placed.pair s in
      record { most = p.most2; read = p.row; weighs = λ e. h.weighs (p.match ∙ e) }

  -- an element is in a row and a column of them
  pub in-joint : q.shape ≡ Joint → (e : ℕ) → e < cells q → e < q.n1 * q.n2
  unfolding cells_by
  in-joint s e l = rw s at l

  pub in_row_lem : q.shape ≡ Joint → (e : ℕ) → e < cells q → e / q.n2 < q.n1
  in_row_lem s e l = row_below q.n1 q.n2 e (in-joint s e l)

  pub in-column : q.shape ≡ Joint → (e : ℕ) → e < cells q → e % q.n2 < q.n2
  in-column s e l = col-below q.n1 q.n2 e (in-joint s e l)

  pub in-pass : {down : Bool} → q.shape ≡ Pass down → (e : ℕ) → e < cells q → e < q.n2 * q.n1
  unfolding cells_by
  in-pass s e l = rw s at l

  pub in_spot : {down : Bool} → q.shape ≡ Pass down → (e : ℕ) → e < cells q → (lines q down).spot e < q.n1
  in_spot {down} s e l = spot-below q down e (in-pass s e l)

  pub sign-one : (e : ℕ) → e < cells q → Sign (sign_of q c r e)
  sign-one e l = go q.shape refl
    where
      go : (s : Shape) → q.shape ≡ s →
          Sign (sign_by q (factor_at c q.n1 q.i) (factor_at r q.n2 q.j) s e)
      go Joint s =
          unfold sign_by joint_sign in
          signs-times (sign-is first refl (e / q.n2) (in_row_lem s e l)) (sign-is (second s) refl (e % q.n2) (in-column s e l))
      go (Pass down) s = unfold sign_by pass_sign in sign-is first refl ((lines q down).spot e) (in_spot s e l)

  pub weight-small : (e k : ℕ) → e < cells q → k < cells q → Within most_weight (weight_of q c r e k)
  weight-small e k l b = go q.shape refl
    where
      go : (s : Shape) → q.shape ≡ s →
          Within most_weight (weight_by q (factor_at c q.n1 q.i) (factor_at r q.n2 q.j) s e k)
      go Joint s =
          unfold weight_by joint_weight in
          within-*
          (matrix-small first (e / q.n2) (k / q.n2) (in_row_lem s e l) (in_row_lem s k b))
          (matrix-small (second s) (e % q.n2) (k % q.n2) (in-column s e l) (in-column s k b))
      go (Pass down) s =
          unfold weight_by pass_weight in
          either-small (eqb ((lines q down).line e) ((lines q down).line k))
          (within-le (omega arith) (matrix-small first ((lines q down).spot e) ((lines q down).spot k) (in_spot s e l) (in_spot s k b)))
          (within-le (omega arith) (within-pos 0))

  pub off_small : (e k : ℕ) → e < cells q → k < cells q → Within most_weight (off (weight_of q c r) e k)
  unfolding off
  off_small e k l b = either-small (eqb e k) (within-le (omega arith) (within-pos 0)) (weight-small e k l b)

module _ {q : Refused} {c r x : List ℤ} (g : Given q c r x) (e : ℕ) (l : e < cells q) where
  abbrev term : ℕ → ℤ
  term k = off (weight_of q c r) e k *ℤ at x k

  pub term-small : (k : ℕ) → k < cells q → Within (most_weight * bound) (term k)
  term-small k b = within-* (off_small g.stage e k l b) (g.small.small k)

  pub partial-small : (k : ℕ) → k ≤ cells q → Within most_sum (sum k term)
  partial-small k b =
      let m : k ≤ most_cells = omega (arith, cells-most g.stage) in
      within-le (mul-le-mul_right (most_weight * bound) m) (sum-within k term (λ i j. term-small i (omega arith)))

  pub sum-small : Within most_sum (weighed (cells q) (off (weight_of q c r) e) x)
  unfolding weighed
  sum-small = partial-small (cells q) (omega arith)

  pub rounded-small : (rule : Rule) →
      Within most_rounded (R rule (scale_by q.shape) (weighed (cells q) (off (weight_of q c r) e) x))
  rounded-small rule = go q.shape
    where
      go : (s : Shape) → Within most_rounded (R rule (scale_by s) (weighed (cells q) (off (weight_of q c r) e) x))
      go Joint = unfold scale_by in within-le (omega arith) (rounded-within rule unit² (omega arith) (omega arith) sum-small)
      go (Pass down) = unfold scale_by in within-le (omega arith) (rounded-within rule unit (omega arith) (omega arith) sum-small)

-- what a search goes on with is in bound
pub given-on : {q : Refused} {c r v x : List ℤ} {find : List ℕ → List ℤ → ℕ} {es : List ℕ} → Given q c r v → Passed find es v x →
    Given q c r x
given-on g p = record { stage = g.stage; small = p.small; room = let h = g.room in omega (arith, p.long) }
