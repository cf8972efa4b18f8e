-- Before the first turn the sums have nothing of the row, only the rows above it (`undo-start`).
use Rattle.std.proofs.Common.{refl}
use Rattle.trianglerows.specs.TrianglesUndone.{undo-start}
use Rattle.trianglerows.proofs.undone.undo_row.Goals as goal

pub undo_elements-requires : goal.undo_elements-requires
undo_elements-requires g c =
    let s = c.before in
    (undo-start s.requires.0 refl c.rest_sums.ensures, s.requires.1)
