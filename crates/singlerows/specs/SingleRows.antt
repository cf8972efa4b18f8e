-- THE ROWS OF A PAIR OF SINGLE-ROW FACTORS as the code makes them. A row beside the one that has entries looks at itself alone.
use Rattle.std.specs.Prelude.{List, ◌≢◌, ◌≡◌, refl, ℕ, suc, ◌+◌, ◌*◌, ◌≤◌, ◌<◌, ℤ, ◌+ℤ◌, ◌-ℤ◌, ◌*ℤ◌, length, replicate}
use Rattle.std.proofs.Common.{sym, ap₂, ◌∙◌, arith, ne_eqb}
use Rattle.std.proofs.Math.Path.{ap}
use Rattle.std.proofs.Math.Nat as NatL
use Rattle.std.proofs.Math.IntN.{pos, +ℤ_idl, +ℤ_idr}
use Rattle.whole.specs.Diff.{lia, lin, Within}
use Rattle.whole.specs.Stated.{Sign, sum}
use Rattle.whole.specs.Laws.{signs-times, distrib, mul_left_comm, mul-add}
use Rattle.whole.specs.Machine.{within-sign, within-le, within-*}
use Rattle.whole.specs.Sum.{sum-cong, sum-scale, sum-within}
use Rattle.rules.specs.declared.Kind.TheVariants.{Single}
use Rattle.rules.specs.declared.Rule.{Rule}
use Rattle.rules.specs.Numbers.{most_order, most_cells, most_entry, unit, unit², bound, at}
use Rattle.rules.specs.Stages.{R}
use Rattle.rules.proofs.Laws.Lists.{fill-at}
use Rattle.rules.proofs.Laws.Rounding.{rounds-scaled, rounds-nothing}
use Rattle.factor.specs.declared.Layout.{Layout}
use Rattle.factor.specs.declared.Row.{Row}
use Rattle.factor.specs.Layouts.{row, row_by, row_of}
use Rattle.factor.specs.LayoutInSheet.{InSheet}
use Rattle.factor.specs.Rounding.{rounded-within}
use Rattle.factor.specs.SumBounds.{Bounded, RowIn}
use Rattle.joint.specs.Sums.{entries_sum, column_sums, joint_sum}
use Rattle.joint.specs.Elements.{sign_at, diagonal_of, sums_at, rounded_sum, applied_at, undone_at, applied_of, undone_of}
use Rattle.joint.specs.Triangles.{total_of}
use Rattle.joint.specs.RowsInPlace.{applied-here, undone-here}

-- ---- definitions
-- the entries of row j of a factor, each times its number of the block's row that starts at place k
unfoldable pub beside_sum : List ℤ → Layout → ℕ → ℕ → List ℤ → ℤ
beside_sum s f j k x = entries_sum s (row_of f j) j (λ l. at x (k + l))

-- n entries, each times a number of the block from place k on
abbrev pub narrow_sum : List ℤ → List ℤ → ℕ → ℕ → ℤ
narrow_sum w x k n = sum n (λ j. at w j *ℤ at x (k + j))

-- an element of the number z that looks at its row alone, t its sum, d the sign of its row and e that of its column; undone, it
-- is z now
unfoldable pub applied_beside : Rule → ℤ → ℤ → ℤ → ℤ → ℤ
applied_beside rule d e t z = ((d *ℤ e) *ℤ z) +ℤ R rule unit (d *ℤ t)

unfoldable pub undone_beside : Rule → ℤ → ℤ → ℤ → ℤ → ℤ
undone_beside rule d e t z = (d *ℤ e) *ℤ (z -ℤ R rule unit (d *ℤ t))

-- y is x with the first m numbers from place k on times the sign d and the sign g of their column
pub record Turned (g : ℕ → ℤ) (d : ℤ) (k m : ℕ) (x y : List ℤ) : Type 0 where
  pub each : (j : ℕ) → j < m → at y (k + j) ≡ (d *ℤ g j) *ℤ at x (k + j)
  pub other : (e : ℕ) → ((j : ℕ) → j < m → k + j ≢ e) → at y e ≡ at x e
  pub long : length y ≡ length x

-- a factor with entries in its row alone
abbrev pub OneRow : Layout → Type 0
OneRow f = (m : ℕ) → m ≢ f.row → row_of f m ≡ row f.entries 0 0

-- ---- what the code asks
-- n entries, and numbers of the block from place k on
pub record Narrow (w x : List ℤ) (k n : ℕ) : Type 0 where
  pub few : n ≤ most_order
  pub places : k + n ≤ most_cells
  pub entries : (j : ℕ) → j < n → Within most_entry (at w j)
  pub numbers : Bounded bound x

-- the signs g of n columns, and the block's row from place k on, whose sign is d
pub record SignsGiven (g : List ℤ) (n : ℕ) (d : ℤ) (k : ℕ) (x : List ℤ) : Type 0 where
  pub few : n ≤ most_order
  pub places : k + n ≤ most_cells
  pub sign : Sign d
  pub signs : (j : ℕ) → j < n → Sign (at g j)
  pub numbers : Bounded bound x

-- what the sign of an element asks, and that it is one
module _ {g : List ℤ} {n : ℕ} {d : ℤ} {k : ℕ} {x : List ℤ} (h : SignsGiven g n d k x) (j : ℕ) (l : j < n) where
  pub sign-asks : (j < most_order) × Sign d × Sign (at g j)
  sign-asks = ((let f = h.few in omega arith), h.sign, h.signs j l)

  pub both-sign : Sign (d *ℤ at g j)
  both-sign = signs-times h.sign (h.signs j l)

-- ---- sizes
abbrev pub most_beside : ℕ
most_beside = most_order * (most_entry * bound)

pub narrow-small : {w x : List ℤ} {k n : ℕ} → Narrow w x k n → (i : ℕ) → i ≤ n → Within most_beside (narrow_sum w x k i)
narrow-small {n} t i l =
    let h = t.few in
    within-le (omega (arith, NatL.mul-le-mul_right (most_entry * bound) (NatL.le_trans l h)))
    (sum-within i _ (λ j b. within-* (t.entries j (omega arith)) (t.numbers.small _)))

-- the whole sum, times a sign, and rounded
module _ {w x : List ℤ} {k n : ℕ} {d : ℤ} (t : Narrow w x k n) (g : Sign d) where
  pub turned-sum-small : Within most_beside (d *ℤ narrow_sum w x k n)
  turned-sum-small = within-sign g (narrow-small t n (NatL.le_refl n))

  pub rounded-sum-small : (rule : Rule) → Within (most_beside + 2048) (R rule unit (d *ℤ narrow_sum w x k n))
  rounded-sum-small rule = rounded-within rule unit (omega arith) (omega arith) turned-sum-small

-- ---- nothing, taken off or added
mul-zero : (z : ℤ) → z *ℤ pos 0 ≡ pos 0
mul-zero z = simp lia (omega arith)

minus-zero : (z : ℤ) → z -ℤ pos 0 ≡ z
minus-zero z = simp lia (omega arith)

-- ---- rows without entries
pub one-row : (f : Layout) → f.kind ≡ Single → OneRow f
unfolding row_by
one-row f e m q = rw (e, ne_eqb m f.row q)

no-sum : (s : List ℤ) (p m : ℕ) (g : ℕ → ℤ) → entries_sum s (row p 0 0) m g ≡ pos 0
unfolding entries_sum sum
no-sum s p m g = refl

-- entries times numbers that are all c times others
entries-scaled : {s : List ℤ} {n m : ℕ} {r : Row} (c : ℤ) (f g : ℕ → ℤ) → RowIn s n r m → ((l : ℕ) → l < n → f l ≡ c *ℤ g l) →
    entries_sum s r m f ≡ c *ℤ entries_sum s r m g
unfolding entries_sum
entries-scaled {s} {n} {m} {r} c f g h e =
    ap₂ ◌+ℤ◌
    (sum-cong r.left _ _ (λ j b. let a = h.left in let d = h.right in
    rw (e j (omega arith)) (mul_left_comm (at s (r.at + j)) c (g j)))
    ∙ sum-scale r.left c _)
    (sum-cong r.right _ _ (λ j b. let d = h.right in
    rw (e (suc m + j) (omega arith)) (mul_left_comm (at s (r.at + r.left + j)) c (g (suc m + j))))
    ∙ sum-scale r.right c _)
    ∙ sym (mul-add c _ _)

-- ---- the rows of a block beside the row of the column sheet's factor
module _ (c : List ℤ) (fa : Layout) (i : ℕ) (single : fa.kind ≡ Single) (beside : i ≢ fa.row) {s : List ℤ} {fb : Layout}
    (h : InSheet s fb) (x : List ℤ) (j : ℕ) (l : j < fb.order) where
  abbrev d : ℤ
  d = sign_at c fa i

  abbrev k : ℕ
  k = i * fb.order

  -- its sums are its own numbers, times the diagonal
  own-sums : (m : ℕ) → m < fb.order → at (sums_at c fa i x fb.order) m ≡ diagonal_of d *ℤ at x (k + m)
  unfolding column_sums
  own-sums m b =
      fill-at fb.order _ (replicate most_order (pos 0)) m b h.order
      ∙ rw (one-row fa single i beside, no-sum c fa.entries i (λ t. at x (t * fb.order + m)))
      (+ℤ_idl (diagonal_of d *ℤ at x (k + m)))

  rounded-beside : (rule : Rule) →
      rounded_sum rule s fb j d (sums_at c fa i x fb.order) (at x (k + j)) ≡ R rule unit (d *ℤ beside_sum s fb j k x)
  unfolding rounded_sum joint_sum beside_sum
  rounded-beside rule =
      ap (R rule unit²)
      (ap₂ (λ (a b : ℤ). (a +ℤ (diagonal_of (sign_at s fb j) *ℤ b))
      -ℤ ((diagonal_of d *ℤ diagonal_of (sign_at s fb j)) *ℤ at x (k + j)))
      (entries-scaled (diagonal_of d) (at (sums_at c fa i x fb.order)) (λ m. at x (k + m)) (h.row j l) own-sums)
      (own-sums j l)
      ∙ own-term d (entries_sum s (row_of fb j) j (λ m. at x (k + m))) (diagonal_of (sign_at s fb j)) (at x (k + j)))
      ∙ rounds-scaled rule (d *ℤ entries_sum s (row_of fb j) j (λ m. at x (k + m)))
    where
      own-term : (d t e z : ℤ) → (((pos 4096 *ℤ d) *ℤ t) +ℤ (e *ℤ ((pos 4096 *ℤ d) *ℤ z))) -ℤ (((pos 4096 *ℤ d) *ℤ e) *ℤ z)
          ≡ pos 4096 *ℤ (d *ℤ t)
      own-term d t e z = simp distrib (simp lin (omega arith))

  pub applied_beside_lem : (rule : Rule) →
      applied_of rule c fa s fb x (i * fb.order + j)
      ≡ applied_beside rule (sign_at c fa i) (sign_at s fb j) (beside_sum s fb j (i * fb.order) x) (at x (i * fb.order + j))
  unfolding applied_at applied_beside
  applied_beside_lem rule =
      applied-here rule c fa s fb x i j l
      ∙ ap (λ (z : ℤ). ((d *ℤ sign_at s fb j) *ℤ at x (k + j)) +ℤ z) (rounded-beside rule)

  pub undone-beside : (rule : Rule) →
      undone_of rule c fa s fb x (i * fb.order + j)
      ≡ undone_beside rule (sign_at c fa i) (sign_at s fb j) (beside_sum s fb j (i * fb.order) x) (at x (i * fb.order + j))
  unfolding undone_at undone_beside
  undone-beside rule =
      undone-here rule c fa s fb x i j l
      ∙ ap (λ (z : ℤ). (d *ℤ sign_at s fb j) *ℤ (at x (k + j) -ℤ z)) (rounded-beside rule)

  -- an element beside column q as well has its signs alone
  module _ (single' : fb.kind ≡ Single) (beside' : j ≢ fb.row) where
    no-rounding : (rule : Rule) → R rule unit (d *ℤ beside_sum s fb j k x) ≡ pos 0
    unfolding beside_sum
    no-rounding rule =
        rw (one-row fb single' j beside', no-sum s fb.entries j (λ m. at x (k + m)), mul-zero d) (rounds-nothing rule unit
        (omega arith))

    pub applied-corner : (rule : Rule) →
        applied_of rule c fa s fb x (i * fb.order + j) ≡ (sign_at c fa i *ℤ sign_at s fb j) *ℤ at x (i * fb.order + j)
    unfolding applied_beside
    applied-corner rule = applied_beside_lem rule ∙ rw (no-rounding rule) (+ℤ_idr ((d *ℤ sign_at s fb j) *ℤ at x (k + j)))

    pub undone-corner : (rule : Rule) →
        undone_of rule c fa s fb x (i * fb.order + j) ≡ (sign_at c fa i *ℤ sign_at s fb j) *ℤ at x (i * fb.order + j)
    unfolding undone_beside
    undone-corner rule = undone-beside rule ∙ rw (no-rounding rule) (ap (◌*ℤ◌ (d *ℤ sign_at s fb j)) (minus-zero (at x (k + j))))

-- the whole sum of an element beside column q
pub total-beside : (s : List ℤ) (f : Layout) (j : ℕ) (v : List ℤ) → OneRow f → j ≢ f.row →
    pos 0 +ℤ (diagonal_of (sign_at s f j) *ℤ at v j) ≡ total_of s f j v
total-beside s f j v o q = rw (o j q, no-sum s f.entries j (at v))
