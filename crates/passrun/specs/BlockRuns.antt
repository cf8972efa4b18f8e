-- A BLOCK THROUGH ONE PASS OR TWO: the sizes and the stages as the document has them, by whether the first pass goes down the
-- columns, and what a run of a block asks and gives. Definitions for the code.
use Rattle.std.specs.Prelude.{Bool, true, false, Result, List, ◌++◌, ◌⊎◌, ◌≡◌, ℕ, ◌*◌, ◌≤◌, ℤ, pos, length, replicate, take}
use Rattle.rules.specs.Numbers.{most_order, most_cells, bound, at, count}
use Rattle.rules.specs.Factors.{factors}
use Rattle.rules.specs.Stages.{Stage, Ran, fill, inside}
use Rattle.rules.specs.Shapes.{Lines, pass_stages}
use Rattle.rules.specs.Calls.{Gives}
use Rattle.laws.specs.AnswersInTurn.{ran_reply}
use Rattle.factor.specs.declared.run.Run.{Run}
use Rattle.factor.specs.declared.run.Place.{Place}
use Rattle.factor.specs.Outcomes.{Outcome, ended_answer}
use Rattle.factor.specs.SumBounds.{Bounded}
use Rattle.factor.specs.Tasks.{is_inverse, limit_of, inputs_of, number_of, taken_by, name_after, ran}
use Rattle.factor.specs.PassLines.{lines_by}
use Rattle.passrun.specs.Laid.{laid}
use Rattle.passrun.specs.PassRuns.{stage_in_turn, pass_run, PassProgress, Reached}

-- the other direction
unfoldable pub other : Bool → Bool
other true = false
other false = true

-- how many numbers a rectangle has: `many` columns of `long` numbers, or rows
unfoldable pub size_by : Bool → ℕ → ℕ → ℕ
size_by true many long = long * many
size_by false many long = many * long

-- ---- one pass, over `many` lines
abbrev pub one_size : Bool → ℕ → List ℤ → ℕ
one_size columns many s = size_by columns many (count s 0)

abbrev pub one_lines : Bool → ℕ → List ℤ → Lines
one_lines columns many s = lines_by columns many (count s 0)

abbrev pub one_stages : Bool → ℕ → List ℤ → List Stage
one_stages columns many s = pass_stages (one_lines columns many s) (factors s)

-- ---- two passes: the sheet a first, down the columns or along the rows, then the sheet z the other way
abbrev pub two_size : Bool → List ℤ → List ℤ → ℕ
two_size columns a z = one_size columns (count z 0) a

abbrev pub first_stages : Bool → List ℤ → List ℤ → List Stage
first_stages columns a z = one_stages columns (count z 0) a

abbrev pub second_stages : Bool → List ℤ → List ℤ → List Stage
second_stages columns a z = one_stages (other columns) (count a 0) z

-- "the column sheet down each column, then the row sheet along each row", whichever comes first in the run
unfoldable pub two_stages : Bool → List ℤ → List ℤ → List Stage
two_stages true a z = first_stages true a z ++ second_stages true a z
two_stages false a z = second_stages false a z ++ first_stages false a z

-- ---- the block that a run starts from: the lent numbers, or, for allowances, zeros
unfoldable pub start_block : ℕ → List ℤ → List ℤ
start_block N x = fill (length x) (at x) (replicate N (pos 0))

-- ---- what a run asks, and what it gives: its end and the output z, for the numbers x over the output y
pub record OneAsks (columns : Bool) (run : Run) (s : List ℤ) (many : ℕ) (x y : List ℤ) : Type 0 where
  pub some : 1 ≤ many
  pub most : many ≤ most_order
  pub input : length x ≡ inputs_of run.task (one_size columns many s)
  pub output : length y ≡ one_size columns many s

abbrev pub OneGives : Bool → Run → List ℤ → ℕ → List ℤ → List ℤ → Result (Unit {0}) Place → List ℤ → Type 0
OneGives columns run s many x y end z =
    Gives (ended_answer (number_of run.task) end) z
    (ran_reply (number_of run.task) (ran run (one_size columns many s) (one_stages columns many s) x) y)

-- rows are undone first: an inverse run, and no other, begins along the rows
pub record TwoAsks (columns : Bool) (run : Run) (a z x y : List ℤ) : Type 0 where
  pub way : columns ≡ other (is_inverse run.task)
  pub input : length x ≡ inputs_of run.task (two_size columns a z)
  pub output : length y ≡ two_size columns a z

abbrev pub TwoGives : Bool → Run → List ℤ → List ℤ → List ℤ → List ℤ → Result (Unit {0}) Place → List ℤ → Type 0
TwoGives columns run a z x y end w =
    Gives (ended_answer (number_of run.task) end) w
    (ran_reply (number_of run.task) (ran run (two_size columns a z) (two_stages columns a z) x) y)

-- ---- what the parts of a run ask and give
-- all numbers are lent, or none
abbrev pub Lent : List ℤ → ℕ → Type 0
Lent x N = (length x ≡ 0) ⊎ (length x ≡ N)

-- the lent numbers, their lines side by side
pub record LaidIn (columns : Bool) (many long : ℕ) (x b : List ℤ) : Type 0 where
  pub holds : laid (size_by columns many long) (lines_by columns many long) b ≡ start_block (size_by columns many long) x
  pub small : (B : ℕ) → Bounded B x → Bounded B b
  pub wide : length b ≡ most_cells

-- a block b whose lines lie side by side, in reading order at the front of c
pub record ReadOff (columns : Bool) (many long : ℕ) (b c : List ℤ) : Type 0 where
  pub front : take (size_by columns many long) c ≡ laid (size_by columns many long) (lines_by columns many long) b
  pub small : (B : ℕ) → Bounded B b → Bounded B c
  pub wide : length c ≡ most_cells

-- the element that is named where the stage in turn t is refused; b is the block before it
abbrev pub named_in_pass : Bool → Run → List ℤ → ℕ → ℕ → List ℤ → ℕ
named_in_pass columns run s many t b =
    let N = one_size columns many s in
    let stage = stage_in_turn run (one_lines columns many s) s t in
    name_after run.task N stage (taken_by run N stage (laid N (one_lines columns many s) b))

-- a pass: its run over the numbers it starts from
abbrev pub one_run : Bool → Run → List ℤ → ℕ → List ℤ → Ran
one_run columns run s many x =
    pass_run run (one_size columns many s) (one_lines columns many s) s (start_block (one_size columns many s) x)

-- what it asks of the lines and the numbers
pub record PassAsks (columns : Bool) (run : Run) (s : List ℤ) (many : ℕ) (x : List ℤ) : Type 0 where
  pub some : 1 ≤ many
  pub most : many ≤ most_order
  pub input : length x ≡ inputs_of run.task (one_size columns many s)
  pub inner : inside bound (length x) x ≡ true

-- its first `to` stages
pub record OneDone (columns : Bool) (run : Run) (s : List ℤ) (many : ℕ) (x : List ℤ) (to : ℕ) (end : Outcome) (b : List ℤ) :
    Type 0 where
  pub reached : Reached run (one_size columns many s) (one_lines columns many s) s (one_run columns run s many x) to end
      (laid (one_size columns many s) (one_lines columns many s) b)
  pub small : end.ok ≡ true → Bounded (limit_of run.task) b
  pub wide : length b ≡ most_cells

-- the first `to` stages of a second pass, along w lines: the block x has them the other way round, as lines of the first pass
pub record TurnedDone (run : Run) (s : List ℤ) (w to : ℕ) (x : List ℤ) (end : Outcome) (y : List ℤ) : Type 0 where
  pub passes : (down : Bool) → let N = size_by down (count s 0) w in
      PassProgress run N (one_lines (other down) w s) s to (laid N (lines_by down (count s 0) w) x) end
      (laid N (one_lines (other down) w s) y)
  pub small : end.ok ≡ true → Bounded (limit_of run.task) y
  pub wide : length y ≡ most_cells
