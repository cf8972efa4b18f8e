-- WHERE A FACTOR STANDS in a sheet, and the entries of a row there: those left of the diagonal, then those right of it.
-- Definitions for the code.
use Rattle.std.specs.Prelude.{Bool, true, false, cond, List, ℕ, suc, ◌+◌, ◌-◌, eqb, ℤ, ◌+ℤ◌, ◌*ℤ◌}
use Rattle.whole.specs.Stated.{sum}
use Rattle.rules.specs.declared.Kind.{Kind}
use Rattle.rules.specs.declared.Kind.TheVariants.{Permutation, Lower, Upper, Single}
use Rattle.rules.specs.Numbers.{at, count}
use Rattle.rules.specs.Sheets.{kind_of, triangle}
use Rattle.rules.specs.Factors.{signs_at, above}
use Rattle.factor.specs.declared.Layout.{Layout}
use Rattle.factor.specs.declared.Row.{Row}

-- only kind 4 has a row
unfoldable pub row_in : Kind → List ℤ → ℕ → ℕ
row_in Permutation s i = 0
row_in Lower s i = 0
row_in Upper s i = 0
row_in Single s i = count s (i + 1)

abbrev pub layout : Kind → ℕ → ℕ → ℕ → ℕ → Layout
layout kind n r signs entries = record { kind = kind; order = n; row = r; signs = signs; entries = entries }

-- a factor of that kind and of order n at place i, and the one whose kind number stands there
unfoldable pub layout_by : Kind → List ℤ → ℕ → ℕ → Layout
layout_by kind s n i = layout kind n (row_in kind s i) (signs_at kind i) (signs_at kind i + n)

unfoldable pub layout_at : List ℤ → ℕ → ℕ → Layout
layout_at s n i = layout_by (kind_of (count s i)) s n i

abbrev pub row : ℕ → ℕ → ℕ → Row
row at left right = record { at = at; left = left; right = right }

-- the entries of row m: where they start, how many stand left of the diagonal and how many right of it
unfoldable pub row_by : Kind → ℕ → ℕ → ℕ → ℕ → Row
row_by Permutation n r e m = row e 0 0
row_by Lower n r e m = row (e + triangle m) m 0
row_by Upper n r e m = row (e + above n m) 0 (n - suc m)
row_by Single n r e m = row e (cond (eqb m r) m 0) (cond (eqb m r) (n - suc m) 0)

abbrev pub row_of : Layout → ℕ → Row
row_of f m = row_by f.kind f.order f.row f.entries m

-- the numbers u of a row's entries, each times the number of its column
unfoldable pub along : (ℕ → ℤ) → Row → ℕ → List ℤ → ℤ
along u r m x =
    sum r.left (λ j. u (r.at + j) *ℤ at x j)
    +ℤ sum r.right (λ j. u (r.at + r.left + j) *ℤ at x (suc m + j))

-- whether a factor only moves numbers
unfoldable pub is_move : Kind → Bool
is_move Permutation = true
is_move Lower = false
is_move Upper = false
is_move Single = false
