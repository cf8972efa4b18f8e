-- ONE ELEMENT OF A PAIR OF FACTORS as the code makes it: applied and undone; and how large it becomes.
-- d is the sign of the element's row, v the sums of that row over the columns, x the element's number.
use Rattle.std.specs.Prelude.{List, ◌≡◌, ℕ, ◌+◌, ◌*◌, ◌/◌, ◌%◌, ◌≤◌, ◌<◌, ℤ, pos, ◌+ℤ◌, ◌-ℤ◌, ◌*ℤ◌, replicate}
use Rattle.std.proofs.Common.{arith}
use Rattle.whole.specs.Diff.{lia, Within}
use Rattle.whole.specs.Stated.{Sign}
use Rattle.whole.specs.Machine.{within-le, within-*, within-pos, sign-within}
use Rattle.rules.specs.Numbers.{most_order, most_entry, unit, unit², bound, most_allowance, at}
use Rattle.rules.specs.declared.Rule.{Rule}
use Rattle.rules.specs.Stages.{R}
use Rattle.factor.specs.declared.Layout.{Layout}
use Rattle.factor.specs.Layouts.{row_of}
use Rattle.factor.specs.SumBounds.{Bounded, bounded-le}
use Rattle.factor.specs.LayoutInSheet.{InSheet, row-wide}
use Rattle.factor.specs.Rounding.{rounded-within}
use Rattle.joint.specs.Sums.{across, column_sums, rest_sums, joint_sum, most_column, Band, columns-small}
use Rattle.joint.specs.Sums.{across-small}

-- ---- definitions
-- the sign of row m, and its weight on the diagonal, "±4096 inside the sum"
abbrev pub sign_at : List ℤ → Layout → ℕ → ℤ
sign_at s f m = at s (f.signs + m)

abbrev pub diagonal_of : ℤ → ℤ
diagonal_of d = pos unit *ℤ d

-- the sums of row i over the n columns
abbrev pub sums_at : List ℤ → Layout → ℕ → List ℤ → ℕ → List ℤ
sums_at s f i x n = column_sums s (row_of f i) i (diagonal_of (sign_at s f i)) x n

-- the same without row i itself
abbrev pub rest_sums_at : List ℤ → Layout → ℕ → List ℤ → ℕ → List ℤ
rest_sums_at s f i x n = rest_sums s (row_of f i) i x n

module _ (rule : Rule) (s : List ℤ) (f : Layout) (j : ℕ) (d : ℤ) (v : List ℤ) (x : ℤ) where
  -- the rounded sum of an element in column j
  unfoldable pub rounded_sum : ℤ
  rounded_sum = R rule unit² (joint_sum s (row_of f j) j (diagonal_of (sign_at s f j)) (diagonal_of d) v x)

  unfoldable pub applied_at : ℤ
  applied_at = ((d *ℤ sign_at s f j) *ℤ x) +ℤ rounded_sum

  unfoldable pub undone_at : ℤ
  undone_at = (d *ℤ sign_at s f j) *ℤ (x -ℤ rounded_sum)

-- an element from a sum that has its own term, which comes off before the sum is rounded
unfoldable pub applied_from : Rule → ℤ → ℤ → ℤ → ℤ → ℤ
applied_from rule s d e x = ((d *ℤ e) *ℤ x) +ℤ R rule unit² (s -ℤ ((diagonal_of d *ℤ diagonal_of e) *ℤ x))

-- and one undone, from a sum that has nothing of its own number
unfoldable pub undone_from : Rule → ℤ → ℤ → ℤ → ℤ → ℤ
undone_from rule s d e x = (d *ℤ e) *ℤ (x -ℤ R rule unit² s)

-- the same where v has nothing of the element's own number
unfoldable pub rounded_rest : Rule → List ℤ → Layout → ℕ → List ℤ → ℤ
rounded_rest rule s f j v = R rule unit² (across s (row_of f j) j (diagonal_of (sign_at s f j)) (at v))

unfoldable pub undone_rest : Rule → List ℤ → Layout → ℕ → ℤ → List ℤ → ℤ → ℤ
undone_rest rule s f j d v x = (d *ℤ sign_at s f j) *ℤ (x -ℤ rounded_rest rule s f j v)

-- element e of a block, from the whole block
module _ (rule : Rule) (c : List ℤ) (fa : Layout) (r : List ℤ) (fb : Layout) (x : List ℤ) (e : ℕ) where
  abbrev row_no : ℕ
  row_no = e / fb.order

  unfoldable pub applied_of : ℤ
  applied_of = applied_at rule r fb (e % fb.order) (sign_at c fa row_no) (sums_at c fa row_no x fb.order) (at x e)

  unfoldable pub undone_of : ℤ
  undone_of = undone_at rule r fb (e % fb.order) (sign_at c fa row_no) (sums_at c fa row_no x fb.order) (at x e)

-- ---- what the code asks
-- of row i of a block, whose sums over n columns go into v
abbrev pub RowGiven : List ℤ → Layout → ℕ → List ℤ → ℕ → List ℤ → Type 0
RowGiven s f i x n v = InSheet s f × (i < f.order) × (n ≤ most_order) × Bounded bound x × (v ≡ replicate most_order (pos 0))

-- of the element in column j
abbrev pub ElementGiven : List ℤ → Layout → ℕ → ℤ → List ℤ → ℤ → Type 0
ElementGiven s f j d v x = InSheet s f × (j < f.order) × Sign d × Bounded most_column v × Within bound x

-- ---- sizes
pub diagonal-small : {d : ℤ} → Sign d → Within most_entry (diagonal_of d)
diagonal-small g = within-le {A = unit * 1} (omega arith) (within-* (within-pos unit) (sign-within g))

-- the weights of row m of a factor
pub band-at : {s : List ℤ} {f : Layout} → InSheet s f → (m : ℕ) → m < f.order → Band s (row_of f m) m (diagonal_of (sign_at s f m))
band-at h m l = record { row = row-wide h.order (h.row m l); small = diagonal-small (h.sign m l) }

pub sums-small : {s : List ℤ} {f : Layout} {x : List ℤ} → InSheet s f → (i : ℕ) → i < f.order → (n : ℕ) → Bounded bound x →
    Bounded most_column (sums_at s f i x n)
sums-small h i l n q = columns-small n (band-at h i l) (bounded-le (omega arith) q)

abbrev pub most_joint : ℕ
most_joint = most_order * (most_entry * most_column) + most_entry * most_entry * most_allowance

module _ {s : List ℤ} {f : Layout} {v : List ℤ} (h : InSheet s f) (j : ℕ) (l : j < f.order) (q : Bounded most_column v) where
  pub rest-element-small : Within most_joint (across s (row_of f j) j (diagonal_of (sign_at s f j)) (at v))
  rest-element-small = within-le (omega arith) (across-small (band-at h j l) (at v) q.small)

  pub rounded-rest-small : (rule : Rule) → Within (most_joint + 8388608) (rounded_rest rule s f j v)
  unfolding rounded_rest
  rounded-rest-small rule = rounded-within rule unit² (omega arith) (omega arith) rest-element-small

-- ---- the own term is a whole number of 16777216: the element's number, by its two signs
pub own-term : (d e x : ℤ) → pos unit² *ℤ ((d *ℤ e) *ℤ x) ≡ (diagonal_of d *ℤ diagonal_of e) *ℤ x
own-term d e x = simp lia (omega arith)
