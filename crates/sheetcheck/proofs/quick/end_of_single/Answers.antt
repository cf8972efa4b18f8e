-- The row, then the weights from where it ends. Assumes nothing.
use Rattle.sheetcheck.specs.Quick.{ends-then}
use Rattle.sheetcheck.proofs.quick.end_of_single.Goals as goal

pub returns : goal.returns
returns c = ends-then _ _ c.in_ok-signs.ensures c.end_of_weights.ensures
