-- THE LINES OF A PASS (request R-4): `many` lines of `long` numbers, which are the columns of a rectangle or its rows.
-- Definitions for the code.
use Rattle.std.specs.Prelude.{Bool, true, false, ◌≡◌, refl, ℕ, ◌*◌}
use Rattle.std.proofs.Math.Nat as NatL
use Rattle.rules.specs.Shapes.{Lines, columns, rows}
use Rattle.rules.proofs.Laws.Passes.{Tiles, columns-tile, rows-tile}

unfoldable pub lines_by : Bool → ℕ → ℕ → Lines
lines_by true many long = columns long many
lines_by false many long = rows many long

pub lines-many : (down : Bool) (many long : ℕ) → (lines_by down many long).many ≡ many
unfolding lines_by
lines-many true many long = refl
lines-many false many long = refl

pub lines_long : (down : Bool) (many long : ℕ) → (lines_by down many long).long ≡ long
unfolding lines_by
lines_long true many long = refl
lines_long false many long = refl

pub tiles-by : (down : Bool) (many long : ℕ) → Tiles (many * long) (lines_by down many long)
unfolding lines_by
tiles-by true many long = rw (NatL.mul_comm many long) (columns-tile long many)
tiles-by false many long = rows-tile many long
