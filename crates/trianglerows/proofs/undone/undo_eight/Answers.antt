-- Before the first turn the sums have nothing of the row (`undo-start`); the second run goes on where the first ends.
use Rattle.std.proofs.Common.{refl, sym, arith}
use Rattle.trianglerows.specs.TrianglesUndone.{undo-start, undone-none, undone-more, undone-all}
use Rattle.trianglerows.proofs.undone.undo_eight.Goals as goal

pub undo-requires : goal.undo-requires
undo-requires g c =
    let s = c.before in (
      undo-start s.requires.0 (sym s.requires.2) c.rest_sums.ensures,
      s.requires.1,
      omega arith,
      omega (arith, s.requires.2),
      sym s.requires.2,
    )

pub returns : goal.returns
returns g c =
    let s = c.before in
    let none = undone-none (undo-start s.requires.0 (sym s.requires.2) c.rest_sums.ensures) in
    let four = undone-more 0 4 none c.in_ok-undo.ensures (omega arith) refl in
    undone-all 4 8 four c.undo-2.ensures (omega arith) s.requires.2
