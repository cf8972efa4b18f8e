-- ROWS UNDER A LOWER OR AN UPPER FACTOR, as the code goes through them: a run of elements at a time, each from the sums of its
-- row and from its own number.
use Rattle.std.specs.Prelude.{Bool, List, ◌≡◌, refl, ℤ, pos, ◌*ℤ◌, replicate}
use Rattle.std.proofs.Math.Path.{sym}
use Rattle.std.proofs.Common.{ap, ◌∙◌, zero-add, add-zero, add-one}
use Prim.Native.Nat.{ℕ, suc, ◌+◌, ◌-◌, ◌*◌, ◌≤◌, ◌<◌}
use native.Mathlib.Omega.{arith}
use Rattle.std.proofs.Math.IntN.{+ℤ_idl, +ℤ_idr}
use Rattle.whole.specs.Stated.{Sign, sum}
use Rattle.whole.specs.Sum.{sum-cong}
use Rattle.rules.specs.declared.Rule.{Rule}
use Rattle.rules.specs.declared.Kind.TheVariants.{Lower, Upper}
use Rattle.rules.specs.Sheets.{triangle}
use Rattle.rules.specs.Factors.{above}
use Rattle.rules.specs.Numbers.{most_order, most_cells, bound, at}
use Rattle.factor.specs.declared.Layout.{Layout}
use Rattle.factor.specs.Layouts.{row_by, row_of}
use Rattle.factor.specs.SumBounds.{Bounded, bounded-le}
use Rattle.factor.specs.LayoutInSheet.{InSheet, row-wide}
use Rattle.factor.specs.InPlace.{in-place-other}
use Rattle.joint.specs.Sums.{across, entries_sum, joint_sum, most_column, added, rows_sum, side_with, Side}
use Rattle.joint.specs.Sums.{above-side, below-side, rest-left, rest-right, rest-with}
use Rattle.joint.specs.Elements.{sign_at, diagonal_of, sums_at, rest_sums_at, rounded_sum, applied_from, applied_at, applied_of}
use Rattle.joint.specs.Elements.{RowGiven, sums-small}
use Rattle.joint.specs.RowsInPlace.{RowAsks, RowDone, plain, in_row, row-done-along, applied-here, row_room}

-- ---- definitions
-- what the sum of element j asks
abbrev pub TotalGiven : List ℤ → Layout → ℕ → List ℤ → Type 0
TotalGiven s f j v = InSheet s f × (j < f.order) × Bounded most_column v

-- the whole sum of element j: its entries and its diagonal's weight, each times a sum over a column
abbrev pub total_of : List ℤ → Layout → ℕ → List ℤ → ℤ
total_of s f j v = across s (row_of f j) j (diagonal_of (sign_at s f j)) (at v)

-- what a run of elements asks of the row that starts at place k and has the sign d and the sums v
abbrev pub RunGiven : List ℤ → Layout → ℤ → List ℤ → ℕ → List ℤ → Type 0
RunGiven s f d v k x = InSheet s f × Sign d × Bounded most_column v × (k + f.order ≤ most_cells) × Bounded bound x × (0 < f.order)

-- what the element at place e becomes, w the block as it stands
unfoldable pub applied_in : Rule → List ℤ → Layout → ℤ → List ℤ → ℕ → List ℤ → ℕ → ℤ
applied_in rule s f d v k w e = applied_at rule s f (e - k) d v (at w e)

-- ---- laws
-- where the entries of row j stand, and how many they are
module _ (f : Layout) (j : ℕ) where
  pub lower-at : f.kind ≡ Lower → (row_of f j).at ≡ f.entries + triangle j
  unfolding row_by
  lower-at e = rw e

  pub lower-left : f.kind ≡ Lower → (row_of f j).left ≡ j
  unfolding row_by
  lower-left e = rw e

  lower-right : f.kind ≡ Lower → (row_of f j).right ≡ 0
  unfolding row_by
  lower-right e = rw e

  pub upper-at : f.kind ≡ Upper → (row_of f j).at ≡ f.entries + above f.order j
  unfolding row_by
  upper-at e = rw e

  pub upper-left : f.kind ≡ Upper → (row_of f j).left ≡ 0
  unfolding row_by
  upper-left e = rw e

  pub upper-right : f.kind ≡ Upper → (row_of f j).right ≡ f.order - suc j
  unfolding row_by
  upper-right e = rw e

  -- one run of entries is all of them
  pub lower-entries : f.kind ≡ Lower → {p : ℕ} → p ≡ (row_of f j).at → (s v : List ℤ) →
      sum j (λ t. at s (p + t) *ℤ at v (0 + t)) ≡ entries_sum s (row_of f j) j (at v)
  unfolding entries_sum row_by sum
  lower-entries e q s v = rw (q, e) (sum-cong j _ _ (λ t l. rw zero-add) ∙ sym (+ℤ_idr _))

  pub upper-entries : f.kind ≡ Upper → {p m : ℕ} → p ≡ (row_of f j).at → m ≡ f.order - suc j → (s v : List ℤ) →
      sum m (λ t. at s (p + t) *ℤ at v (j + 1 + t)) ≡ entries_sum s (row_of f j) j (at v)
  unfolding entries_sum row_by sum
  upper-entries e q g s v =
      rw (q, g, e) (sum-cong (f.order - suc j) _ _ (λ t l. let z : f.entries + above f.order j + 0 + t ≡ f.entries + above
      f.order j + t = omega arith in rw (z, add-one))
      ∙ sym (+ℤ_idl _))

-- the next row's entries
pub lower-next : (f : Layout) (j : ℕ) → f.kind ≡ Lower → (row_of f j).at + j ≡ (row_of f (j + 1)).at
unfolding triangle
lower-next f j e = rw (lower-at f j e, lower-at f (j + 1) e, add-one) (omega arith)

pub upper-next : (f : Layout) (j : ℕ) → f.kind ≡ Upper → (row_of f j).at + (f.order - 1 - j) ≡ (row_of f (j + 1)).at
unfolding above
upper-next f j e = rw (upper-at f j e, upper-at f (j + 1) e, add-one) (omega arith)

-- the rows of the block that row i of a factor has entries for, and the sums over them: p is where its entries start
module _ {s : List ℤ} {f : Layout} (h : InSheet s f) {i : ℕ} (l : i < f.order) {x : List ℤ} (q : Bounded bound x) {n : ℕ}
    (few : n ≤ most_order) {p : ℕ} (z : p ≡ (row_of f i).at) where
  pub lower-side : f.kind ≡ Lower → Side s p i x 0 n
  lower-side e =
      rw z (rw (lower-left f i e) at (above-side (row-wide h.order (h.row i l)) few (bounded-le (omega arith) q)))

  pub upper-side : f.kind ≡ Upper → {m : ℕ} → m ≡ f.order - 1 - i → Side s p m x ((i + 1) * n) n
  upper-side e {m} g =
      let w : f.order - suc i ≡ m = rw g (omega arith) in
      rw z
      (rw (upper-left f i e, upper-right f i e, w, add-zero) at
      (below-side (row-wide h.order (h.row i l)) few (bounded-le (omega arith) q)))

  pub lower-rest : f.kind ≡ Lower → added n (rows_sum s p i x 0 n) (replicate most_order (pos 0)) ≡ rest_sums_at s f i x n
  lower-rest e = rest-left s (row_of f i) i x n p i z (sym (lower-left f i e)) (lower-right f i e)

  pub upper-rest : f.kind ≡ Upper → {m : ℕ} → m ≡ f.order - 1 - i →
      added n (rows_sum s p m x ((i + 1) * n) n) (replicate most_order (pos 0)) ≡ rest_sums_at s f i x n
  upper-rest e {m} g =
      let w : m ≡ f.order - suc i = rw g (omega arith) in
      rest-right s (row_of f i) i x n p m z (w ∙ sym (upper-right f i e)) (upper-left f i e)

  -- with the row's own numbers
  pub with-own : (m k : ℕ) → added n (rows_sum s p m x k n) (replicate most_order (pos 0)) ≡ rest_sums_at s f i x n →
      added n (side_with s p m x k n (diagonal_of (sign_at s f i)) (i * n)) (replicate most_order (pos 0)) ≡ sums_at s f i x n
  with-own m k e = rest-with s (row_of f i) i x n (diagonal_of (sign_at s f i)) p m k few e

-- an element from its whole sum
pub applied-from : (rule : Rule) (s : List ℤ) (f : Layout) (j : ℕ) (d : ℤ) (v : List ℤ) (x : ℤ) →
    applied_from rule (total_of s f j v) d (sign_at s f j) x ≡ applied_at rule s f j d v x
unfolding applied_from applied_at rounded_sum joint_sum
applied-from rule s f j d v x = refl

-- the element in turn j of the row that starts at k
pub applied-in : (rule : Rule) (s : List ℤ) (f : Layout) (d : ℤ) (v : List ℤ) (k j : ℕ) (w : List ℤ) →
    applied_in rule s f d v k w (k + j) ≡ applied_at rule s f j d v (at w (k + j))
unfolding applied_in
applied-in rule s f d v k j w = let e : k + j - k ≡ j = omega arith in rw e

-- a row by the sums of the block before it
pub applied-row : (rule : Rule) (c : List ℤ) (fa : Layout) (r : List ℤ) (fb : Layout) (i : ℕ) (x : List ℤ) {y : List ℤ} {most : ℕ}
    {ok : Bool} → let n = fb.order in
    RowDone most (applied_in rule r fb (sign_at c fa i) (sums_at c fa i x n) (i * n)) (λ u. i * n + u) n x y ok →
    RowDone most (plain (applied_of rule c fa r fb x)) (in_row n i) n x y ok
applied-row rule c fa r fb i x h =
    row-done-along _ _
    (λ u l.
    applied-in rule r fb (sign_at c fa i) (sums_at c fa i x fb.order) (i * fb.order) u _
    ∙ ap (applied_at rule r fb u (sign_at c fa i) (sums_at c fa i x fb.order))
    (in-place-other _ _ u x (i * fb.order + u) (λ t b z. omega arith))
    ∙ sym (applied-here rule c fa r fb x i u l))
    h

-- ---- a row, where the code has its order as n
module _ {c r x : List ℤ} {fa fb : Layout} {i n : ℕ} (h : RowAsks c fa r fb i x) (e : n ≡ fb.order) where
  -- it lies in the block
  pub asks-room : i * n + n ≤ most_cells
  asks-room = rw e (row_room h.column.order h.row.order h.below)

  -- its sums start from nothing
  pub asks-sums : RowGiven c fa i x n (replicate most_order (pos 0))
  asks-sums = (h.column, h.below, rw e h.row.order, h.small, refl)

  -- then come its elements, and they are the row
  module _ {d : ℤ} {v : List ℤ} (g : d ≡ sign_at c fa i) (z : v ≡ sums_at c fa i x n) where
    pub asks-run : RunGiven r fb d v (i * n) x
    asks-run =
        rw (g, z) (
          h.row,
          h.column.sign i h.below,
          sums-small h.column i h.below n h.small,
          omega (arith, asks-room, e),
          h.small,
          (let l = h.low in omega arith),
        )

    pub run_row : (rule : Rule) {y : List ℤ} {most : ℕ} {ok : Bool} →
        RowDone most (applied_in rule r fb d v (i * n)) (λ u. i * n + u) fb.order x y ok →
        RowDone most (plain (applied_of rule c fa r fb x)) (in_row fb.order i) fb.order x y ok
    run_row rule w = applied-row rule c fa r fb i x (rw (g, z, e) at w)
