-- Before the first turn the sums have nothing of the row (`undo-start`); one run of four turns is all of it.
use Rattle.std.proofs.Common.{sym, arith}
use Rattle.trianglerows.specs.TrianglesUndone.{undo-start}
use Rattle.trianglerows.proofs.undone.undo_four.Goals as goal

pub undo-requires : goal.undo-requires
undo-requires g c =
    let s = c.before in (
      undo-start s.requires.0 (sym s.requires.2) c.rest_sums.ensures,
      s.requires.1,
      omega arith,
      omega (arith, s.requires.2),
      sym s.requires.2,
    )

pub undo-requires-2 : goal.undo-requires-2
undo-requires-2 g c =
    let s = c.before in (
      undo-start s.requires.0 (sym s.requires.2) c.rest_sums.ensures,
      s.requires.1,
      omega arith,
      omega (arith, s.requires.2),
      sym s.requires.2,
    )
