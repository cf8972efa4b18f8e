-- The magnitudes lie in the copy as the entries do in the sheet (`magnitudes-band`).
use Rattle.joint.specs.Allowances.{magnitudes-band}
use Rattle.joint.proofs.allowances.magnitude_sums_at.Goals as goal

pub column_sums-requires : goal.column_sums-requires
column_sums-requires c =
    rw (c.magnitudes-a.ensures, c.row_of-r.ensures)
    (magnitudes-band c.requires.0 c.args.i c.requires.1, c.requires.2, c.requires.3, c.requires.4)
