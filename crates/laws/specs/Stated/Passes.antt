-- WHAT A TWO-PASS RUN DOES, request R-4, in the calls of a line: "the column sheet down each column, then the row sheet along
-- each row; the inverse undoes rows first".
use Rattle.std.specs.Prelude.{List, ◌≡◌, ℕ, ◌*◌, ◌<◌, ℤ, pos, length, replicate}
use Rattle.rules.specs.declared.Rule.{Rule}
use Rattle.rules.specs.Numbers.{at, count}
use Rattle.rules.specs.Stages.{fill}
use Rattle.rules.specs.Shapes.{Lines, columns, rows}
use Rattle.rules.specs.Calls.{Reply, line, forward_call, inverse_call}
use Rattle.laws.specs.Stated.Calls.{Fills}

-- line l of a block: a column from the top, a row from the left
unfoldable pub line_of : Lines → ℕ → List ℤ → List ℤ
line_of r l v = fill r.long (λ i. at v (r.join l i)) (replicate r.long (pos 0))

-- a call of a line, lent each line of x, is accepted and leaves that line of y
pub record EachLine (r : Lines) (call : List ℤ → List ℤ → Reply ℤ) (x y : List ℤ) : Type 0 where
  pub each : (l : ℕ) → l < r.many → Fills (call (line_of r l x)) (line_of r l y)

-- "the column sheet down each column, then the row sheet along each row"
pub record DownThenAlong (rule : Rule) (c r x y : List ℤ) : Type 0 where
  pub between : List ℤ
  pub long : length between ≡ count c 0 * count r 0
  pub down : EachLine (columns (count c 0) (count r 0)) (forward_call rule (line c)) x between
  pub along : EachLine (rows (count c 0) (count r 0)) (forward_call rule (line r)) between y

-- "the inverse undoes rows first"
pub record RowsFirst (rule : Rule) (c r y x : List ℤ) : Type 0 where
  pub between : List ℤ
  pub long : length between ≡ count c 0 * count r 0
  pub along : EachLine (rows (count c 0) (count r 0)) (inverse_call rule (line r)) y between
  pub down : EachLine (columns (count c 0) (count r 0)) (inverse_call rule (line c)) between x
