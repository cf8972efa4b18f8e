-- The numbers are copied over the front of an array of 0 (`load_is`).
use Rattle.std.proofs.Common.{◌∙◌}
use Rattle.factor.specs.PaddedBlocks.{load_is}
use Rattle.linerun.proofs.block.load.Goals as goal

pub returns : goal.returns
returns c = c.copy_front.ensures ∙ load_is 16 _ c.requires
