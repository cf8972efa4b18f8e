-- "NUMBERS AND THEIR BOUNDS" of document 01: each limit once. (The code reads them from `Sheet` and `Block`; its proofs tie the
-- two.)
use Rattle.std.specs.Prelude.{List, ℕ, ℤ, pos, nat_abs, get_or}

-- "Order n is 1 to 16. A recipe has 1 to 32 factors." The kinds are 1 to 4
abbrev pub most_order : ℕ
most_order = 16

abbrev pub most_count : ℕ
most_count = 32

-- so a block, like the matrix of a factor, has at most 256 numbers
abbrev pub most_cells : ℕ
most_cells = 256

abbrev pub most_kind : ℕ
most_kind = 4

-- "An entry is a whole number e from -16384 to 16384 and means e/4096"
abbrev pub most_entry : ℕ
most_entry = 16384

abbrev pub unit : ℕ
unit = 4096

-- two dimensions: a product of two entries counts in 1/16777216
abbrev pub unit² : ℕ
unit² = 16777216

-- "A sample or coefficient is an i32 from -16777215 to 16777215, the same bound after every factor"
abbrev pub bound : ℕ
bound = 16777215

-- "An allowance is counted in 1/4096 and is at most 67108863"
abbrev pub most_allowance : ℕ
most_allowance = 67108863

-- the number at a place of a list (0 past its end), and the same where it counts something
abbrev pub at : List ℤ → ℕ → ℤ
at v i = get_or v i (pos 0)

abbrev pub count : List ℤ → ℕ → ℕ
count v i = nat_abs (at v i)
