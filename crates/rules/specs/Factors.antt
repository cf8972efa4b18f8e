-- THE FACTORS OF A SHEET that has no fault: "K factors in the order in which they are applied".
use Rattle.std.specs.Prelude.{Bool, false, cond, List, [], ◌∷◌, ℕ, zero, suc, ◌+◌, ◌-◌, eqb, ltb, ℤ, pos, ◌*ℤ◌}
use Rattle.rules.specs.declared.Kind.{Kind}
use Rattle.rules.specs.declared.Kind.TheVariants.{Permutation, Lower, Upper, Single}
use Rattle.rules.specs.Numbers.{unit, at, count}
use Rattle.rules.specs.Sheets.{kind_of, triangle}

-- a factor; what its kind does not have is never looked at
pub record Factor : Type 0 where
  pub kind : Kind
  -- kind 1: "output i takes input p(i)"
  pub place : ℕ → ℕ
  -- kind 4: its row r
  pub row : ℕ
  pub sign : ℕ → ℤ
  -- row m, column k, off the diagonal
  pub entry : ℕ → ℕ → ℤ

-- ---- where the numbers of a factor stand in a sheet
-- how many numbers a factor of order n has, its kind number with them
unfoldable pub numbers : ℕ → Kind → ℕ
numbers n Permutation = 1 + n
numbers n Lower = 1 + (n + triangle n)
numbers n Upper = 1 + (n + triangle n)
numbers n Single = 1 + (1 + (n + (n - 1)))

-- the signs follow the kind number, or the row of kind 4
unfoldable pub signs_at : Kind → ℕ → ℕ
signs_at Permutation i = i + 1
signs_at Lower i = i + 1
signs_at Upper i = i + 1
signs_at Single i = i + 2

-- the entries of an upper factor in the rows above row m: n - 1 in row 0, n - 2 in row 1, ..
unfoldable pub above : ℕ → ℕ → ℕ
above n zero = 0
above n (suc m) = above n m + (n - suc m)

-- how many entries stand before that of row m, column k
unfoldable pub entries_before : Kind → ℕ → ℕ → ℕ → ℕ → ℕ
entries_before Permutation n r m k = 0
entries_before Lower n r m k = triangle m + k
entries_before Upper n r m k = above n m + (k - suc m)
entries_before Single n r m k = cond (ltb k r) k (k - 1)

-- the factor of order n whose kind number stands at place i of sheet s
unfoldable pub factor_at : List ℤ → ℕ → ℕ → Factor
factor_at s n i = record {
  kind = kind_of (count s i);
  place = λ m. count s (i + 1 + m);
  row = count s (i + 1);
  sign = λ m. at s (signs_at (kind_of (count s i)) i + m);
  entry = λ m k. at s (signs_at (kind_of (count s i)) i + n + entries_before (kind_of (count s i)) n (count s (i + 1)) m k);
}

-- the next f factors from place i on
unfoldable pub factors_from : List ℤ → ℕ → ℕ → ℕ → List Factor
factors_from s n zero i = []
factors_from s n (suc f) i = factor_at s n i ∷ factors_from s n f (i + numbers n (kind_of (count s i)))

unfoldable pub factors : List ℤ → List Factor
factors s = factors_from s (count s 0) (count s 1) 2

-- ---- the matrix of a factor, counted in 1/4096
-- whether a factor of this kind (of row r, if it is of kind 4) has an entry in row m, column k, off the diagonal
unfoldable pub has_entry : Kind → ℕ → ℕ → ℕ → Bool
has_entry Permutation r m k = false
has_entry Lower r m k = ltb k m
has_entry Upper r m k = ltb m k
has_entry Single r m k = eqb m r

-- signs on the diagonal, "as ±4096 inside the sum"
unfoldable pub matrix : Factor → ℕ → ℕ → ℤ
matrix f m k = cond (eqb m k) (pos unit *ℤ f.sign m) (cond (has_entry f.kind f.row m k) (f.entry m k) (pos 0))
