-- The signs, and if they have no fault the entries. Assumes nothing.
use Rattle.laws.specs.Results.{passed, read-returned, read-goes}
use Rattle.rules.specs.Sheets.{weights}
use Rattle.sheetread.proofs.readers.read_weights.Goals as goal

pub returns-in_err-entries : goal.returns-in_err-entries
unfolding weights
returns-in_err-entries c =
    read-returned c.read_many.ensures _ (passed c.from_residual.ensures.1) c.in_err-entries.was

pub returns : goal.returns
unfolding weights
returns c = read-goes c.read_many.ensures _ c.in_ok-entries.was c.read_many-2.ensures
