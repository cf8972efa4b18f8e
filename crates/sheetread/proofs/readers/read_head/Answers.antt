-- The order, and if it has no fault the count. Assumes nothing.
use Rattle.laws.specs.Results.{passed, read-returned, read-goes}
use Rattle.rules.specs.Sheets.{head}
use Rattle.sheetread.proofs.readers.read_head.Goals as goal

pub returns-in_err-i : goal.returns-in_err-i
unfolding head
returns-in_err-i c =
    read-returned c.read_one.ensures _ (passed c.from_residual.ensures.1) c.in_err-i.was

pub returns : goal.returns
unfolding head
returns c = read-goes c.read_one.ensures _ c.in_ok-i.was c.read_one-2.ensures
