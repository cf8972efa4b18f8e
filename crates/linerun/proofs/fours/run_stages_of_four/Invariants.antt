-- After t stages the run is that of the stages left (`stage-passes`), and the block is in bound. The run's rule is that of the
-- first test alone (`by_first`), as halves do not go to the even number.
use Rattle.std.proofs.Common.{false}
use Rattle.factor.specs.Rounding.{rule_by}
use Rattle.linerun.specs.Runs.{RunAt}
use Rattle.linerun.proofs.fours.run_stages_of_four.Given as goal

abbrev pub invariant-loop-t : goal.invariant-loop-t
invariant-loop-t l =
    RunAt (record { task = l.run.task; rule = rule_by l.down false }) l.sheet.numbers.now l.initial.v l.t l.v
