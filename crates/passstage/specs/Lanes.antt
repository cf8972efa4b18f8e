-- LINES SIDE BY SIDE: in a block of 16 by 16 number m of line l stands at place m·16 + l. One stage of a pass, line by line, as
-- the code is told of it.
use Rattle.std.specs.Prelude.{Bool, true, false, List, ◌≡◌, ℕ, ◌+◌, ◌*◌, ◌<◌, ℤ, pos, length, replicate}
use Rattle.rules.specs.Numbers.{most_order, most_cells, at}
use Rattle.rules.specs.Factors.{Factor}
use Rattle.rules.specs.Stages.{fill, inside}
use Rattle.rules.specs.Shapes.{line_stage}
use Rattle.factor.specs.declared.run.Run.{Run}
use Rattle.factor.specs.SumBounds.{Bounded}
use Rattle.factor.specs.Tasks.{limit_of, taken_by}

-- line l of such a block
unfoldable pub lane : ℕ → List ℤ → List ℤ
lane l x = fill most_order (λ m. at x (l + m * most_order)) (replicate most_order (pos 0))

-- what a factor of n numbers makes of a line
abbrev pub line_made : Run → ℕ → Factor → List ℤ → List ℤ
line_made run n f u = taken_by run n (line_stage n f) u

-- a line that is refused
pub record Stuck (run : Run) (n : ℕ) (f : Factor) (w : ℕ) (x : List ℤ) : Type 0 where
  pub line : ℕ
  pub below : line < w
  pub beyond : inside (limit_of run.task) n (line_made run n f (lane line x)) ≡ false

-- the factor along each of w lines of the block x, which is y then
pub record StageDone (run : Run) (n : ℕ) (f : Factor) (w : ℕ) (x y : List ℤ) (ok : Bool) : Type 0 where
  pub goes : ok ≡ true → (l : ℕ) → l < w → lane l y ≡ line_made run n f (lane l x)
  pub small : ok ≡ true → Bounded (limit_of run.task) y
  pub stops : ok ≡ false → Stuck run n f w x
  pub long : length y ≡ most_cells
