-- The signs, then the entries from where they end. Assumes nothing.
use Rattle.rules.specs.Sheets.{weights}
use Rattle.sheetcheck.specs.Quick.{ends-then}
use Rattle.sheetcheck.proofs.quick.end_of_weights.Goals as goal

pub returns : goal.returns
unfolding weights
returns c = ends-then _ _ c.in_ok-entries.ensures c.end_of_many-2.ensures
