-- The row, and if it has no fault the signs and entries. Assumes nothing.
use Rattle.laws.specs.Results.{passed, read-returned, read-goes}
use Rattle.sheetread.proofs.readers.read_single.Goals as goal

pub returns-in_err-signs : goal.returns-in_err-signs
returns-in_err-signs c =
    read-returned c.read_one.ensures _ (passed c.from_residual.ensures.1) c.in_err-signs.was

pub returns : goal.returns
returns c = read-goes c.read_one.ensures _ c.in_ok-signs.was c.read_weights.ensures
