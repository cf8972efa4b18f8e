-- THE PLANS BY THE WAY OF THE FIRST PASS, as the code has them: down the columns, or along the rows. Definitions for the code,
-- and what a run of a block has of them.
use Rattle.std.specs.Prelude.{Bool, List, ◌≡◌, ℕ, ◌*◌, ◌≤◌, ℤ}
use Rattle.std.proofs.Math.Bool.{true, false}
use Rattle.std.proofs.Math.Path.{refl}
use Rattle.std.proofs.Common.{mul_comm}
use Rattle.rules.specs.Numbers.{most_order, count}
use Rattle.rules.specs.Answers.{◌or_else◌, checked}
use Rattle.rules.specs.Calls.{Plan, two_pass, column_pass, row_pass, order_checked}
use Rattle.laws.specs.Accepted.{Accepted, two-read}
use Rattle.laws.specs.Passes.{alone-read}
use Rattle.factor.specs.declared.run.Task.{Task}
use Rattle.factor.specs.PassLines.{lines_by}
use Rattle.factor.specs.CallAnswers.{checks_of}
use Rattle.passrun.specs.BlockRuns.{other, size_by, one_size, one_stages, two_size, two_stages}

-- two passes, the sheet whose pass comes first given first
unfoldable pub two_by : Bool → List ℤ → List ℤ → Plan
two_by true a z = two_pass a z
two_by false a z = two_pass z a

-- one pass over n lines
unfoldable pub one_by : Bool → List ℤ → ℕ → Plan
one_by true s n = column_pass s n
one_by false s n = row_pass s n

module _ (a z : List ℤ) where
  pub two_size_lem : (columns : Bool) → (two_by columns a z).size ≡ two_size columns a z
  unfolding two_by two_pass size_by
  two_size_lem true = refl
  two_size_lem false = refl

  pub two-stages : (columns : Bool) → (two_by columns a z).stages ≡ two_stages columns a z
  unfolding two_by two_pass two_stages lines_by other
  two-stages true = refl
  two-stages false = refl

  pub two-sheets : (columns : Bool) → (two_by columns a z).sheets.number ≡ 0 → Accepted a × Accepted z
  unfolding two_by two_pass
  two-sheets true h = two-read a z h
  two-sheets false h = let r = two-read z a h in (r.1, r.0)

  -- the orders multiplied either way round
  pub two-orders : (columns : Bool) → count a 0 * count z 0 ≡ (two_by columns a z).size
  unfolding two_by two_pass
  two-orders true = refl
  two-orders false = mul_comm (count a 0) (count z 0)

module _ (s : List ℤ) (n : ℕ) where
  pub one_size_lem : (columns : Bool) → (one_by columns s n).size ≡ one_size columns n s
  unfolding one_by column_pass row_pass size_by
  one_size_lem true = refl
  one_size_lem false = refl

  pub one-stages : (columns : Bool) → (one_by columns s n).stages ≡ one_stages columns n s
  unfolding one_by column_pass row_pass lines_by
  one-stages true = refl
  one-stages false = refl

  pub one-sheets : (columns : Bool) → (one_by columns s n).sheets.number ≡ 0 → Accepted s × (1 ≤ n) × (n ≤ most_order)
  unfolding one_by column_pass row_pass
  one-sheets true h = alone-read s n h
  one-sheets false h = alone-read s n h

  -- n columns and n rows of a sheet are checked alike: their blocks have as many numbers
  pub one-checks : (columns : Bool) (k : ℕ) (task : Task) (x y : ℕ) →
      checks_of k task (column_pass s n) x y ≡ checks_of k task (one_by columns s n) x y
  unfolding one_by column_pass row_pass checks_of
  one-checks true k task x y = refl
  one-checks false k task x y = rw (mul_comm n _)

  -- the sheet, then the number of lines, whichever way they go
  pub one-checked : (columns : Bool) → checked s or_else order_checked n ≡ (one_by columns s n).sheets
  unfolding one_by column_pass row_pass
  one-checked true = refl
  one-checked false = refl

  pub one-orders : (columns : Bool) → count s 0 * n ≡ (one_by columns s n).size
  unfolding one_by column_pass row_pass
  one-orders true = refl
  one-orders false = mul_comm (count s 0) n
