-- A run that stands before turn from stands before turn t (`stage-passes`), and the block is in bound.
use Rattle.std.proofs.Common.{◌≡◌, ◌≤◌, length}
use Rattle.factor.specs.SumBounds.{Bounded}
use Rattle.factor.specs.Tasks.{limit_of}
use Rattle.rectanglerun.specs.Turns.{StandsAt}
use Rattle.rules.specs.Stages.{Ran}
use Rattle.rectanglerun.proofs.runs.run_stages.Given as goal

abbrev pub invariant-loop-t : goal.invariant-loop-t
invariant-loop-t l =
    (l.t ≤ l.to)
    × ((ran : Ran) → StandsAt l.run l.col.numbers.now l.row.numbers.now ran l.from l.initial.x →
    StandsAt l.run l.col.numbers.now l.row.numbers.now ran l.t l.x)
    × Bounded (limit_of l.run.task) l.x
    × (length l.x ≡ 256)
