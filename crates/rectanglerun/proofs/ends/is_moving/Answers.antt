-- The kind of the layout is that of the factor.
use Rattle.factor.specs.Tasks.{stage-below}
use Rattle.rectanglerun.proofs.ends.is_moving.Goals as goal

pub layout_at-requires : goal.layout_at-requires
layout_at-requires c =
    rw (c.order.ensures, c.nth_start.ensures)
    (c.args.sheet.now.faultless.each _ (stage-below c.args.task _ _ c.requires))
