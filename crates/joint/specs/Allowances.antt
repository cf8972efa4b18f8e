-- ONE ELEMENT'S ALLOWANCE as the code makes it: the joint sum with magnitudes, 4096 on both diagonals, raised, and the share.
-- v has the sums of the element's row over the columns, b is its allowance, w says that its row has only multiples of 4096.
use Rattle.std.specs.Prelude.{Bool, true, false, cond, List, ℕ, ◌+◌, ◌/◌, ◌%◌, ◌<◌, ℤ, pos, ◌+ℤ◌}
use Rattle.std.proofs.Common.{arith}
use Rattle.whole.specs.Diff.{Within}
use Rattle.whole.specs.Machine.{within-le, within-pos}
use Rattle.rules.specs.Numbers.{unit, unit², most_allowance, at}
use Rattle.rules.specs.declared.Rule.{Rule}
use Rattle.rules.specs.Stages.{share, ceiling}
use Rattle.factor.specs.declared.Row.{Row}
use Rattle.factor.specs.declared.Layout.{Layout}
use Rattle.factor.specs.Layouts.{row, row_of}
use Rattle.factor.specs.SumBounds.{Bounded}
use Rattle.factor.specs.LayoutInSheet.{InSheet, row-wide}
use Rattle.factor.specs.Rounding.{share-most}
use Rattle.factor.specs.Magnitudes.{magnitudes_of, Entries, whole, row-entries, magnitudes-row}
use Rattle.joint.specs.Sums.{column_sums, joint_sum, most_column, Band, columns-small, joint-small}
use Rattle.joint.specs.Elements.{most_joint}

-- ---- definitions
-- the magnitudes of a row's entries, copied side by side
abbrev pub row_magnitudes : List ℤ → Row → List ℤ
row_magnitudes s r = magnitudes_of s r.at (r.left + r.right)

abbrev pub side_by_side : Row → Row
side_by_side r = row 0 r.left r.right

abbrev pub magnitude_sums : List ℤ → Layout → ℕ → List ℤ → ℕ → List ℤ
magnitude_sums s f i b n = column_sums (row_magnitudes s (row_of f i)) (side_by_side (row_of f i)) i (pos unit) b n

abbrev pub magnitude_sum : List ℤ → Layout → ℕ → List ℤ → ℤ → ℤ
magnitude_sum s f j v b = joint_sum (row_magnitudes s (row_of f j)) (side_by_side (row_of f j)) j (pos unit) (pos unit) v b

abbrev pub whole_row : List ℤ → Layout → ℕ → Bool
whole_row s f m = whole s (row_of f m).at ((row_of f m).left + (row_of f m).right)

-- what a rounding adds, unless both rows have only multiples of 4096
abbrev pub share_of : Rule → Bool → Bool → ℤ
share_of rule w u = cond (cond w u false) (pos 0) (pos (share rule))

unfoldable pub allowed_at : Rule → List ℤ → Layout → ℕ → Bool → List ℤ → ℤ → ℤ
allowed_at rule s f j w v b = (b +ℤ ceiling unit² (magnitude_sum s f j v b)) +ℤ share_of rule w (whole_row s f j)

-- element e of a block, from the whole block
unfoldable pub allowed_of : Rule → List ℤ → Layout → List ℤ → Layout → List ℤ → ℕ → ℤ
allowed_of rule c fa r fb b e =
    allowed_at rule r fb (e % fb.order) (whole_row c fa (e / fb.order)) (magnitude_sums c fa (e / fb.order) b fb.order)
    (at b e)

-- what the code asks of the allowance in column j
abbrev pub AllowanceGiven : List ℤ → Layout → ℕ → List ℤ → ℤ → Type 0
AllowanceGiven s f j v b = InSheet s f × (j < f.order) × Bounded most_column v × Within most_allowance b

-- ---- sizes
module _ {s : List ℤ} {f : Layout} (h : InSheet s f) (m : ℕ) (l : m < f.order) where
  pub entries_at : Entries s (row_of f m).at ((row_of f m).left + (row_of f m).right)
  entries_at = row-entries (row-wide h.order (h.row m l))

  pub magnitudes-band : Band (row_magnitudes s (row_of f m)) (side_by_side (row_of f m)) m (pos unit)
  magnitudes-band =
      record { row = magnitudes-row (row-wide h.order (h.row m l)); small = within-le (omega arith) (within-pos unit) }

  pub magnitude-sums-small : {b : List ℤ} (n : ℕ) → Bounded most_allowance b → Bounded most_column (magnitude_sums s f m b n)
  magnitude-sums-small n q = columns-small n magnitudes-band q

  pub magnitude-sum-small : {b : ℤ} {v : List ℤ} → Bounded most_column v → Within most_allowance b →
      Within most_joint (magnitude_sum s f m v b)
  magnitude-sum-small q k = joint-small magnitudes-band (within-le (omega arith) (within-pos unit)) q k

share-within : (rule : Rule) → Within 4096 (pos (share rule))
share-within rule = within-le (share-most rule) (within-pos (share rule))

pub share-small : (rule : Rule) (w u : Bool) → Within 4096 (share_of rule w u)
share-small rule true true = within-le (omega arith) (within-pos 0)
share-small rule true false = share-within rule
share-small rule false u = share-within rule
