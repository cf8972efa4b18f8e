-- After t stages a pass over any lines of that number and length stands at the block (`pass-goes`), which is in bound.
use Rattle.std.proofs.Common.{◌≡◌, ℕ, length}
use Rattle.factor.specs.SumBounds.{Bounded}
use Rattle.factor.specs.Tasks.{limit_of}
use Rattle.passrun.specs.Laid.{laid}
use Rattle.passrun.specs.PassRuns.{LinesOf, PassStands}
use Rattle.rules.specs.Numbers.{most_cells}
use Rattle.rules.specs.Shapes.{Lines}
use Rattle.rules.specs.Stages.{Ran}
use Rattle.passrun.proofs.passes.run_pass.Given as goal

abbrev pub invariant-loop-t : goal.invariant-loop-t
invariant-loop-t l = record {
  small : Bounded (limit_of l.run.task) l.x;
  long : length l.x ≡ most_cells;
  stands : (N : ℕ) (r : Lines) → LinesOf N r l.sheet.numbers.now l.w → (ran : Ran) →
      PassStands l.run N r l.sheet.numbers.now ran 0 (laid N r l.initial.x) →
      PassStands l.run N r l.sheet.numbers.now ran l.t-counter (laid N r l.x);
}
