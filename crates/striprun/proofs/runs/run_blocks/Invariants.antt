-- After k blocks the strip is done up to there (`BlocksDone`): a turn's part of the output comes back as its block (`done-step`).
use Rattle.std.proofs.Common.{◌≡◌, ◌≤◌, length}
use Rattle.factor.specs.Tasks.{call_of}
use Rattle.striprun.specs.BlockLoop.{BlocksDone}
use Rattle.striprun.specs.Plans.{plan_of}
use Rattle.striprun.proofs.runs.run_blocks.Given as goal

abbrev pub invariant-loop-k : goal.invariant-loop-k
invariant-loop-k l =
    (l.k ≤ length l.initial.bytes)
    × (l.k-end ≡ length l.initial.bytes)
    × (length l.y ≡ length l.initial.y)
    × (length l.bytes ≡ length l.initial.bytes)
    × BlocksDone (plan_of l.sheets) (call_of l.run (plan_of l.sheets)) l.x l.initial.y l.initial.bytes l.k l.y l.bytes
