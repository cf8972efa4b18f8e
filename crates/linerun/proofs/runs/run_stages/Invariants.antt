-- After t stages the run is that of the stages left (`stage-passes`), and the block is in bound.
use Rattle.linerun.specs.Runs.{RunAt}
use Rattle.linerun.proofs.runs.run_stages.Given as goal

abbrev pub invariant-loop-t : goal.invariant-loop-t
invariant-loop-t l = RunAt l.run l.sheet.numbers.now l.initial.v l.t l.v
