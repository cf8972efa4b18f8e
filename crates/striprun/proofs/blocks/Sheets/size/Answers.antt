-- The orders of checked sheets.
use Rattle.std.proofs.Common.{arith}
use Rattle.rectanglerun.specs.Runs.{matched, size-most}
use Rattle.rules.specs.Calls.{joint}
use Rattle.striprun.specs.Plans.{plan_of}
use Rattle.striprun.proofs.blocks.Sheets.size.Goals as goal

pub overflow_mul-result : goal.overflow_mul-result
unfolding plan_of joint
overflow_mul-result c =
    let h = size-most (matched _ _ (rw c.in-Joint.is at c.requires)) in
    rw (c.order-in-Joint.ensures, c.order-in-Joint-2.ensures) (omega arith)
