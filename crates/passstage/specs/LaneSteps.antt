-- A FACTOR ALONG LINES SIDE BY SIDE, as the code goes: one row for all lines, turn after turn; or line after line. Definitions
-- for the code.
use Rattle.std.specs.Prelude.{Bool, true, false, List, ◌≡◌, ℕ, suc, ◌+◌, ◌-◌, ◌≤◌, ◌<◌, leb, ℤ, nat_abs, ◌+ℤ◌, ◌-ℤ◌, ◌*ℤ◌, length}
use Rattle.whole.specs.Stated.{Sign}
use Rattle.rules.specs.declared.Rule.{Rule}
use Rattle.rules.specs.Numbers.{most_order, most_cells, bound}
use Rattle.rules.specs.Stages.{fill, inside}
use Rattle.factor.specs.declared.Layout.{Layout}
use Rattle.factor.specs.declared.run.Task.{Task}
use Rattle.factor.specs.declared.run.Task.TheVariants.{Forward, Inverse, Allowance}
use Rattle.factor.specs.Tasks.{is_inverse}
use Rattle.factor.specs.SumBounds.{Bounded}
use Rattle.factor.specs.LayoutInSheet.{permutation_at}
use Rattle.factor.specs.UndoingOrder.{nth_undone}
use Rattle.factor.specs.InPlace.{in_place}
use Rattle.factor.specs.MovedInPlace.{scattered, moved_by}
use Rattle.linerun.specs.Steps.{applied_at, undone_at, allowed_at}
use Rattle.passstage.specs.Lanes.{lane}

-- whether it is allowances that are taken
unfoldable pub is_allowance : Task → Bool
is_allowance Forward = false
is_allowance Inverse = false
is_allowance Allowance = true

-- ---- one row of all lines
-- what a number becomes, or was: d its sign, q the rounded sum of its row
unfoldable pub made_by : Bool → ℤ → ℤ → ℤ → ℤ
made_by true d x q = d *ℤ (x -ℤ q)
made_by false d x q = (d *ℤ x) +ℤ q

-- a row of w numbers from place k on, and its sign
pub record RowGiven (d : ℤ) (k w : ℕ) (x : List ℤ) : Type 0 where
  pub sign : Sign d
  pub wide : w ≤ most_order
  pub places : k + w ≤ most_cells
  pub small : Bounded bound x
  pub long : length x ≡ most_cells

-- the row set to the numbers z
abbrev pub row_set : ℕ → ℕ → (ℕ → ℤ) → List ℤ → List ℤ
row_set k w z x = scattered w (λ l. k + l) z x

-- one of them is beyond the bound
pub record Far (w : ℕ) (z : ℕ → ℤ) : Type 0 where
  pub line : ℕ
  pub below : line < w
  pub far : leb (nat_abs (z line)) bound ≡ false

-- the row of the block x made, which is y then
pub record RowMade (k w : ℕ) (z : ℕ → ℤ) (x y : List ℤ) (ok : Bool) : Type 0 where
  pub goes : ok ≡ true → y ≡ row_set k w z x
  pub small : ok ≡ true → Bounded bound y
  pub stops : ok ≡ false → Far w z
  pub long : length y ≡ most_cells

-- ---- all rows
-- element m of a line u by its row: what it becomes, or was
unfoldable pub step_at : Bool → Rule → List ℤ → Layout → List ℤ → ℕ → ℤ
step_at true rule s f u m = undone_at rule s f u m
step_at false rule s f u m = applied_at rule s f u m

-- the row that is taken in turn t: undone, in the order of undoing; applied, the other way round
unfoldable pub turn_of : Bool → Layout → ℕ → ℕ
turn_of true f t = nth_undone f.kind f.order f.row t
turn_of false f t = nth_undone f.kind f.order f.row (f.order - suc t)

-- a line after t turns
abbrev pub after_turns : Bool → Rule → List ℤ → Layout → ℕ → List ℤ → List ℤ
after_turns back rule s f t u = in_place (step_at back rule s f) (turn_of back f) t u

-- ---- line after line
-- a line moved, and a line of allowances
abbrev pub line_moved : Task → List ℤ → Layout → List ℤ → List ℤ
line_moved task s f u = moved_by (is_inverse task) f.order (permutation_at s f) u

abbrev pub line_allowed : Rule → List ℤ → Layout → List ℤ → List ℤ
line_allowed rule s f u = fill f.order (allowed_at rule s f u) u

-- line l of the block x became v, which is y then
pub record LineSet (most l : ℕ) (v x y : List ℤ) : Type 0 where
  pub line : lane l y ≡ v
  pub others : (i : ℕ) → i < most_order → (i ≡ l → ⊥) → lane i y ≡ lane i x
  pub small : Bounded most y
  pub long : length y ≡ most_cells

-- or its numbers are not all in bound
pub record LineMade (most n l : ℕ) (v x y : List ℤ) (ok : Bool) : Type 0 where
  pub goes : ok ≡ true → LineSet most l v x y
  pub stops : ok ≡ false → inside most n v ≡ false
  pub long : length y ≡ most_cells

-- ---- w lines, each by g
-- one of them is refused
pub record Refused (most n : ℕ) (g : List ℤ → List ℤ) (w : ℕ) (x : List ℤ) : Type 0 where
  pub line : ℕ
  pub below : line < w
  pub beyond : inside most n (g (lane line x)) ≡ false

pub record LinesMade (most n : ℕ) (g : List ℤ → List ℤ) (w : ℕ) (x y : List ℤ) (ok : Bool) : Type 0 where
  pub goes : ok ≡ true → (l : ℕ) → l < w → lane l y ≡ g (lane l x)
  pub small : ok ≡ true → Bounded most y
  pub stops : ok ≡ false → Refused most n g w x
  pub long : length y ≡ most_cells
