-- The kind number, and if it has no fault what follows it by its kind. Assumes nothing.
use Rattle.std.proofs.Common.{refl}
use Rattle.laws.specs.Readers.{seen}
use Rattle.laws.specs.Results.{passed, read-returned, read-goes}
use Rattle.rules.specs.Sheets.{factor}
use Rattle.sheetread.proofs.readers.read_factor.Goals as goal

pub returns-in_err-body : goal.returns-in_err-body
unfolding factor
returns-in_err-body c =
    read-returned c.read_one.ensures _ (passed c.from_residual.ensures.1) c.in_err-body.was

pub kind_at-requires : goal.kind_at-requires
kind_at-requires c = seen c.in_ok-body.ensures refl

pub returns : goal.returns
unfolding factor
returns c =
    read-goes c.read_one.ensures _ c.in_ok-body.was (rw c.kind_at.ensures at c.read_body.ensures)
