-- The stage in turn is one of the sheet's factors (`stage-below`).
use Rattle.factor.specs.Tasks.{stage-below}
use Rattle.factor.proofs.run.nth_start.Goals as goal

pub start-requires : goal.start-requires
start-requires c = rw (c.nth_stage.ensures, c.many.ensures) (stage-below c.args.task _ _ c.requires)
