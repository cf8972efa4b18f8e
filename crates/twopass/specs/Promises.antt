-- THE PROMISES OF THE CALLS OF TWO PASSES, AND OF A PASS ALONE (request R-4). `forward`, `inverse` and `allowance` have the
-- contracts `Gives a m (ruled k forward_call (two_pass c r) x y)`, and so on; `column_forward` and `column_inverse` have them with
-- `column_pass s n`, `row_forward` and `row_inverse` with `row_pass s n`: n is the other order, any number at all. k is the number
-- of the rule (request R-5), any number at all; a is the answer, `answered` of what the call gives back, m what the lent output
-- holds then. Each theorem is about what these calls returned, and has one k throughout.
use Rattle.std.specs.Prelude.{List, ◌↔◌, ◌≡◌, ℕ, ◌+◌, ◌*◌, ◌^◌, ◌<◌, ℤ, pos, nat_abs, ◌-ℤ◌, ◌*ℤ◌, length, ◌≤ℤ◌}
use Rattle.rules.specs.declared.Answer.{Answer}
use Rattle.rules.specs.Numbers.{unit, at, count}
use Rattle.rules.specs.Shapes.{columns, rows}
use Rattle.rules.specs.Answers.{accepted, refused}
use Rattle.rules.specs.Calls.{Gives, line, two_pass, column_pass, row_pass, forward_call, inverse_call, allowance_call}
use Rattle.rules.specs.Calls.{rule_of, rule_checked, under, ruled}
use Rattle.laws.specs.Stated.Calls.{E, D, Accepts, Promises}
use Rattle.laws.specs.Stated.Cuts.{cut_front, cut_back, CutLaw}
use Rattle.laws.specs.Stated.Elements.{NoElement, Plain, Elements}
use Rattle.laws.specs.Stated.Passes.{EachLine, DownThenAlong, RowsFirst}
use Rattle.laws.specs.Plans.{under-plan, under-fine}
use Rattle.laws.specs.Elements.{plan-elements, forward-plain, inverse-plain, allowance-element, under_none}
use Rattle.laws.specs.Elements.{two-pass-none, column-none, row-none}
use Rattle.laws.specs.Promises.{ruled-promises, forward-none, inverse-none, allowance-none, one_answer}
use Rattle.laws.specs.Returned.{returned-back, returned-there, returned-near, returned-difference}
use Rattle.laws.proofs.CutLaw.{ruled-cut}
use Rattle.laws.specs.Passes.{two-pass-plan, column-plan, row-plan, two-pass-scale}
use Rattle.laws.proofs.PassCuts as Cuts
use Rattle.laws.specs.PassLines.{two-pass-lines, two-pass-lines-undone, column-lines, column-lines-undone, row-lines}
use Rattle.laws.specs.PassLines.{row-lines-undone}

-- ---- one answer and one memory, refusals too
pub one-forward :
    (k : ℕ) (c r x y : List ℤ) {a b : Answer} {m n : List ℤ} →
    Gives a m (ruled k forward_call (two_pass c r) x y) → Gives b n (ruled k forward_call (two_pass c r) x y) → (a ≡ b) × (m ≡ n)
one-forward k c r x y = one_answer (ruled k forward_call (two_pass c r) x y)

pub one-inverse :
    (k : ℕ) (c r x y : List ℤ) {a b : Answer} {m n : List ℤ} →
    Gives a m (ruled k inverse_call (two_pass c r) x y) → Gives b n (ruled k inverse_call (two_pass c r) x y) → (a ≡ b) × (m ≡ n)
one-inverse k c r x y = one_answer (ruled k inverse_call (two_pass c r) x y)

pub one-allowance :
    (k : ℕ) (c r y : List ℤ) {a b : Answer} {m n : List ℤ} →
    Gives a m (ruled k allowance_call (two_pass c r) y) → Gives b n (ruled k allowance_call (two_pass c r) y) → (a ≡ b) × (m ≡ n)
one-allowance k c r y = one_answer (ruled k allowance_call (two_pass c r) y)

pub one-column-forward :
    (k : ℕ) (s : List ℤ) (o : ℕ) (x y : List ℤ) {a b : Answer} {m n : List ℤ} →
    Gives a m (ruled k forward_call (column_pass s o) x y) → Gives b n (ruled k forward_call (column_pass s o) x y) →
    (a ≡ b) × (m ≡ n)
one-column-forward k s o x y = one_answer (ruled k forward_call (column_pass s o) x y)

pub one-column-inverse :
    (k : ℕ) (s : List ℤ) (o : ℕ) (x y : List ℤ) {a b : Answer} {m n : List ℤ} →
    Gives a m (ruled k inverse_call (column_pass s o) x y) → Gives b n (ruled k inverse_call (column_pass s o) x y) →
    (a ≡ b) × (m ≡ n)
one-column-inverse k s o x y = one_answer (ruled k inverse_call (column_pass s o) x y)

pub one-row-forward :
    (k : ℕ) (s : List ℤ) (o : ℕ) (x y : List ℤ) {a b : Answer} {m n : List ℤ} →
    Gives a m (ruled k forward_call (row_pass s o) x y) → Gives b n (ruled k forward_call (row_pass s o) x y) → (a ≡ b) × (m ≡ n)
one-row-forward k s o x y = one_answer (ruled k forward_call (row_pass s o) x y)

pub one-row-inverse :
    (k : ℕ) (s : List ℤ) (o : ℕ) (x y : List ℤ) {a b : Answer} {m n : List ℤ} →
    Gives a m (ruled k inverse_call (row_pass s o) x y) → Gives b n (ruled k inverse_call (row_pass s o) x y) → (a ≡ b) × (m ≡ n)
one-row-inverse k s o x y = one_answer (ruled k inverse_call (row_pass s o) x y)

-- ---- "16 for a rule not 0, 1 or 2, place 0, before all others": whatever the sheets are, and whatever is lent stays
pub no-rule :
    (k : ℕ) (c r x y : List ℤ) → 2 < k →
    Gives (refused 16 0 0) y (ruled k forward_call (two_pass c r) x y)
    × Gives (refused 16 0 0) y (ruled k inverse_call (two_pass c r) x y)
    × Gives (refused 16 0 0) y (ruled k allowance_call (two_pass c r) y)
no-rule k c r x y h = (forward-none k (two_pass c r) h x y, inverse-none k (two_pass c r) h x y, allowance-none k (two_pass c r) h y)

pub column-no-rule :
    (k : ℕ) (s : List ℤ) (n : ℕ) (x y : List ℤ) → 2 < k →
    Gives (refused 16 0 0) y (ruled k forward_call (column_pass s n) x y)
    × Gives (refused 16 0 0) y (ruled k inverse_call (column_pass s n) x y)
column-no-rule k s n x y h = (forward-none k (column_pass s n) h x y, inverse-none k (column_pass s n) h x y)

pub row-no-rule :
    (k : ℕ) (s : List ℤ) (n : ℕ) (x y : List ℤ) → 2 < k →
    Gives (refused 16 0 0) y (ruled k forward_call (row_pass s n) x y)
    × Gives (refused 16 0 0) y (ruled k inverse_call (row_pass s n) x y)
row-no-rule k s n x y h = (forward-none k (row_pass s n) h x y, inverse-none k (row_pass s n) h x y)

-- ---- request R-7: the element of 11 is the first offending one, in reading order or in the recovery order
pub elements : (k : ℕ) (c r : List ℤ) → Elements (rule_of k) (under k (two_pass c r))
elements k c r = plan-elements (rule_of k) (under-plan k (two-pass-plan c r))

pub column-elements : (k : ℕ) (s : List ℤ) (n : ℕ) → Elements (rule_of k) (under k (column_pass s n))
column-elements k s n = plan-elements (rule_of k) (under-plan k (column-plan s n))

pub row-elements : (k : ℕ) (s : List ℤ) (n : ℕ) → Elements (rule_of k) (under k (row_pass s n))
row-elements k s n = plan-elements (rule_of k) (under-plan k (row-plan s n))

-- "It is 0 in every other answer"
pub forward-other :
    (k : ℕ) (c r x y : List ℤ) {a : Answer} {m : List ℤ} → Gives a m (ruled k forward_call (two_pass c r) x y) → Plain a
forward-other k c r x y g =
    rw g.0 (forward-plain (rule_of k) (under k (two_pass c r)) (under_none k (two_pass c r) (two-pass-none c r)) x y)

pub inverse-other :
    (k : ℕ) (c r x y : List ℤ) {a : Answer} {m : List ℤ} → Gives a m (ruled k inverse_call (two_pass c r) x y) → Plain a
inverse-other k c r x y g =
    rw g.0 (inverse-plain (rule_of k) (under k (two_pass c r)) (under_none k (two_pass c r) (two-pass-none c r)) x y)

pub allowance-other :
    (k : ℕ) (c r y : List ℤ) {a : Answer} {m : List ℤ} → Gives a m (ruled k allowance_call (two_pass c r) y) → NoElement a
allowance-other k c r y g =
    rw g.0 (allowance-element (rule_of k) (under k (two_pass c r)) (under_none k (two_pass c r) (two-pass-none c r)) y)

pub column-forward-other :
    (k : ℕ) (s : List ℤ) (n : ℕ) (x y : List ℤ) {a : Answer} {m : List ℤ} →
    Gives a m (ruled k forward_call (column_pass s n) x y) → Plain a
column-forward-other k s n x y g =
    rw g.0 (forward-plain (rule_of k) (under k (column_pass s n)) (under_none k (column_pass s n) (column-none s n)) x y)

pub column-inverse-other :
    (k : ℕ) (s : List ℤ) (n : ℕ) (x y : List ℤ) {a : Answer} {m : List ℤ} →
    Gives a m (ruled k inverse_call (column_pass s n) x y) → Plain a
column-inverse-other k s n x y g =
    rw g.0 (inverse-plain (rule_of k) (under k (column_pass s n)) (under_none k (column_pass s n) (column-none s n)) x y)

pub row-forward-other :
    (k : ℕ) (s : List ℤ) (n : ℕ) (x y : List ℤ) {a : Answer} {m : List ℤ} →
    Gives a m (ruled k forward_call (row_pass s n) x y) → Plain a
row-forward-other k s n x y g =
    rw g.0 (forward-plain (rule_of k) (under k (row_pass s n)) (under_none k (row_pass s n) (row-none s n)) x y)

pub row-inverse-other :
    (k : ℕ) (s : List ℤ) (n : ℕ) (x y : List ℤ) {a : Answer} {m : List ℤ} →
    Gives a m (ruled k inverse_call (row_pass s n) x y) → Plain a
row-inverse-other k s n x y g =
    rw g.0 (inverse-plain (rule_of k) (under k (row_pass s n)) (under_none k (row_pass s n) (row-none s n)) x y)

-- ---- demand 2: "Inverse after an accepted forward run returns the block, and the other way round"
promised : (k : ℕ) (c r : List ℤ) → Promises (rule_of k) (under k (two_pass c r))
promised k c r = ruled-promises k (two-pass-plan c r)

pub back-again :
    (k : ℕ) (c r x y z : List ℤ) {u m : List ℤ} {a : Answer} → length z ≡ count c 0 * count r 0 →
    Accepts u (ruled k forward_call (two_pass c r) x y) →
    Gives a m (ruled k inverse_call (two_pass c r) u z) → (a ≡ accepted) × (m ≡ x)
unfolding two_pass
back-again k c r x y z = returned-back (promised k c r) x y z

pub there-again :
    (k : ℕ) (c r y x z : List ℤ) {u m : List ℤ} {a : Answer} → length z ≡ count c 0 * count r 0 →
    Accepts u (ruled k inverse_call (two_pass c r) y x) →
    Gives a m (ruled k forward_call (two_pass c r) u z) → (a ≡ accepted) × (m ≡ y)
unfolding two_pass
there-again k c r y x z = returned-there (promised k c r) y x z

pub column-back-again :
    (k : ℕ) (s : List ℤ) (n : ℕ) (x y z : List ℤ) {u m : List ℤ} {a : Answer} → length z ≡ count s 0 * n →
    Accepts u (ruled k forward_call (column_pass s n) x y) →
    Gives a m (ruled k inverse_call (column_pass s n) u z) → (a ≡ accepted) × (m ≡ x)
unfolding column_pass
column-back-again k s n x y z = returned-back (ruled-promises k (column-plan s n)) x y z

pub column-there-again :
    (k : ℕ) (s : List ℤ) (n : ℕ) (y x z : List ℤ) {u m : List ℤ} {a : Answer} → length z ≡ count s 0 * n →
    Accepts u (ruled k inverse_call (column_pass s n) y x) →
    Gives a m (ruled k forward_call (column_pass s n) u z) → (a ≡ accepted) × (m ≡ y)
unfolding column_pass
column-there-again k s n y x z = returned-there (ruled-promises k (column-plan s n)) y x z

pub row-back-again :
    (k : ℕ) (s : List ℤ) (n : ℕ) (x y z : List ℤ) {u m : List ℤ} {a : Answer} → length z ≡ n * count s 0 →
    Accepts u (ruled k forward_call (row_pass s n) x y) →
    Gives a m (ruled k inverse_call (row_pass s n) u z) → (a ≡ accepted) × (m ≡ x)
unfolding row_pass
row-back-again k s n x y z = returned-back (ruled-promises k (row-plan s n)) x y z

pub row-there-again :
    (k : ℕ) (s : List ℤ) (n : ℕ) (y x z : List ℤ) {u m : List ℤ} {a : Answer} → length z ≡ n * count s 0 →
    Accepts u (ruled k inverse_call (row_pass s n) y x) →
    Gives a m (ruled k forward_call (row_pass s n) u z) → (a ≡ accepted) × (m ≡ y)
unfolding row_pass
row-there-again k s n y x z = returned-there (ruled-promises k (row-plan s n)) y x z

-- ---- demand 3: "4096·|D·y - E| ≤ D·b"; E is A·X·B-transposed by the law `two-pass-product`
pub within-allowance :
    (k : ℕ) (c r x y z : List ℤ) {u b : List ℤ} → Accepts b (ruled k allowance_call (two_pass c r) z) →
    Accepts u (ruled k forward_call (two_pass c r) x y) →
    (e : ℕ) → e < count c 0 * count r 0 →
    pos (unit * nat_abs ((pos (D (two_pass c r)) *ℤ at u e) -ℤ at (E (two_pass c r) x) e)) ≤ℤ (pos (D (two_pass c r)) *ℤ at b e)
within-allowance k c r x y z g h e l = returned-near (promised k c r) x y z g h e (sized l)
  where
    sized : e < count c 0 * count r 0 → e < (two_pass c r).size
    sized o = unfold two_pass in o

-- "scale 4096 for each factor of either sheet"
pub scale : (c r : List ℤ) → D (two_pass c r) ≡ unit ^ (count c 1 + count r 1)
scale = two-pass-scale

-- "4096·|F(x) - F(z) - F(x-z)| ≤ 3·b", where u is x - z element by element
pub difference :
    (k : ℕ) (c r x z u y₁ y₂ y₃ y₄ : List ℤ) {fx fz fu b : List ℤ} →
    ((e : ℕ) → e < count c 0 * count r 0 → at u e ≡ at x e -ℤ at z e) →
    Accepts b (ruled k allowance_call (two_pass c r) y₁) → Accepts fx (ruled k forward_call (two_pass c r) x y₂) →
    Accepts fz (ruled k forward_call (two_pass c r) z y₃) → Accepts fu (ruled k forward_call (two_pass c r) u y₄) →
    (e : ℕ) → e < count c 0 * count r 0 → pos (unit * nat_abs ((at fx e -ℤ at fz e) -ℤ at fu e)) ≤ℤ (pos 3 *ℤ at b e)
unfolding two_pass
difference k c r x z u y₁ y₂ y₃ y₄ = returned-difference (promised k c r) x z u y₁ y₂ y₃ y₄

-- ---- the cut law, "a cut falls between column stages, between the passes or between row stages": the parts run one after the
-- other by the rule of the whole, give what the whole gives, refusals 11 too
module _ (k : ℕ) (c r : List ℤ) (rule : (rule_checked k).number ≡ 0) (sheets : (two_pass c r).sheets.number ≡ 0) where
  pub cut-columns :
      (f : ℕ) → 0 < f → f < count c 1 →
      CutLaw (rule_of k) (under k (two_pass c r)) (under k (column_pass (cut_front c f) (count r 0)))
      (under k (two_pass (cut_back c f) r)) f
  cut-columns f some not-all = ruled-cut k rule (Cuts.column-cut (rule_of k) c r sheets f some not-all)

  pub cut-between :
      CutLaw (rule_of k) (under k (two_pass c r)) (under k (column_pass c (count r 0))) (under k (row_pass r (count c 0)))
      (count c 1)
  cut-between = ruled-cut k rule (Cuts.passes-cut (rule_of k) c r sheets)

  pub cut-rows :
      (f : ℕ) → 0 < f → f < count r 1 →
      CutLaw (rule_of k) (under k (two_pass c r)) (under k (two_pass c (cut_front r f)))
      (under k (row_pass (cut_back r f) (count c 0))) (count c 1 + f)
  cut-rows f some not-all = ruled-cut k rule (Cuts.row_cut (rule_of k) c r sheets f some not-all)

-- and a pass alone, cut in two
pub column-cut :
    (k : ℕ) (s : List ℤ) (n f : ℕ) → (rule_checked k).number ≡ 0 → (column_pass s n).sheets.number ≡ 0 → 0 < f → f < count s 1 →
    CutLaw (rule_of k) (under k (column_pass s n)) (under k (column_pass (cut_front s f) n)) (under k (column_pass (cut_back s f) n)) f
column-cut k s n f rule sheets some not-all = ruled-cut k rule (Cuts.column-alone-cut (rule_of k) s n f some not-all sheets)

pub row_cut :
    (k : ℕ) (s : List ℤ) (n f : ℕ) → (rule_checked k).number ≡ 0 → (row_pass s n).sheets.number ≡ 0 → 0 < f → f < count s 1 →
    CutLaw (rule_of k) (under k (row_pass s n)) (under k (row_pass (cut_front s f) n)) (under k (row_pass (cut_back s f) n)) f
row_cut k s n f rule sheets some not-all = ruled-cut k rule (Cuts.row-alone-cut (rule_of k) s n f some not-all sheets)

-- ---- "the column sheet down each column, then the row sheet along each row; the inverse undoes rows first": over right sheets
-- and slices a call is accepted with y exactly if the line's calls by that rule all are, and give y
module _
    (k : ℕ) (c r : List ℤ) (rule : (rule_checked k).number ≡ 0) (sheets : (two_pass c r).sheets.number ≡ 0)
    (x y z : List ℤ) (input : length x ≡ count c 0 * count r 0) (given : length y ≡ count c 0 * count r 0)
    (output : length z ≡ count c 0 * count r 0) where
  pub by_lines : Gives accepted y (ruled k forward_call (two_pass c r) x z) ↔ DownThenAlong (rule_of k) c r x y
  by_lines = rw (under-fine k (two_pass c r) rule) (two-pass-lines (rule_of k) c r sheets x y z input given output)

  pub by-lines-undone : Gives accepted y (ruled k inverse_call (two_pass c r) x z) ↔ RowsFirst (rule_of k) c r x y
  by-lines-undone = rw (under-fine k (two_pass c r) rule) (two-pass-lines-undone (rule_of k) c r sheets x y z input given output)

module _
    (k : ℕ) (s : List ℤ) (n : ℕ) (rule : (rule_checked k).number ≡ 0) (sheets : (column_pass s n).sheets.number ≡ 0)
    (x y z : List ℤ) (input : length x ≡ count s 0 * n) (given : length y ≡ count s 0 * n)
    (output : length z ≡ count s 0 * n) where
  pub column-by-lines :
      Gives accepted y (ruled k forward_call (column_pass s n) x z)
      ↔ EachLine (columns (count s 0) n) (forward_call (rule_of k) (line s)) x y
  column-by-lines = rw (under-fine k (column_pass s n) rule) (column-lines (rule_of k) s n sheets x y z input given output)

  pub column-by-lines-undone :
      Gives accepted y (ruled k inverse_call (column_pass s n) x z)
      ↔ EachLine (columns (count s 0) n) (inverse_call (rule_of k) (line s)) x y
  column-by-lines-undone =
      rw (under-fine k (column_pass s n) rule) (column-lines-undone (rule_of k) s n sheets x y z input given output)

module _
    (k : ℕ) (s : List ℤ) (n : ℕ) (rule : (rule_checked k).number ≡ 0) (sheets : (row_pass s n).sheets.number ≡ 0)
    (x y z : List ℤ) (input : length x ≡ n * count s 0) (given : length y ≡ n * count s 0)
    (output : length z ≡ n * count s 0) where
  pub row-by-lines :
      Gives accepted y (ruled k forward_call (row_pass s n) x z)
      ↔ EachLine (rows n (count s 0)) (forward_call (rule_of k) (line s)) x y
  row-by-lines = rw (under-fine k (row_pass s n) rule) (row-lines (rule_of k) s n sheets x y z input given output)

  pub row-by-lines-undone :
      Gives accepted y (ruled k inverse_call (row_pass s n) x z)
      ↔ EachLine (rows n (count s 0)) (inverse_call (rule_of k) (line s)) x y
  row-by-lines-undone = rw (under-fine k (row_pass s n) rule) (row-lines-undone (rule_of k) s n sheets x y z input given output)
