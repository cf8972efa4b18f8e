-- Each run goes on where the one before it ends (`undone-more`).
use Rattle.std.proofs.Common.{refl, arith}
use Rattle.std.proofs.lemmas.Result.{err_from_is_err_and}
use Rattle.trianglerows.specs.TrianglesUndone.{undone-none, undone-more, undone-stops, undone-all}
use Rattle.trianglerows.proofs.undone.undo_elements.Goals as goal

pub returns-in_err-undo-2 : goal.returns-in_err-undo-2
returns-in_err-undo-2 g c =
    let w = c.is_written.ensures c.if-is_written.true in
    let u0 = undone-none c.requires.0 in
    let u1 = undone-more 0 4 u0 c.in_ok-undo.ensures (omega arith) refl in
    rw (w.0, (err_from_is_err_and c.from_residual-in_err-undo-2.result c.from_residual-in_err-undo-2.ensures.1).1)
    (undone-stops 4 8 u1 c.in_err-undo-2.ensures (omega arith) refl (omega (arith, w.1)))

pub returns-in_err-undo-3 : goal.returns-in_err-undo-3
returns-in_err-undo-3 g c =
    let w = c.is_written.ensures c.if-is_written.true in
    let u0 = undone-none c.requires.0 in
    let u1 = undone-more 0 4 u0 c.in_ok-undo.ensures (omega arith) refl in
    let u2 = undone-more 4 8 u1 c.in_ok-undo-2.ensures (omega arith) refl in
    rw (w.0, (err_from_is_err_and c.from_residual-in_err-undo-3.result c.from_residual-in_err-undo-3.ensures.1).1)
    (undone-stops 8 12 u2 c.in_err-undo-3.ensures (omega arith) refl (omega (arith, w.1)))

pub returns-then-is_written : goal.returns-then-is_written
returns-then-is_written g c =
    let w = c.is_written.ensures c.if-is_written.true in
    let u0 = undone-none c.requires.0 in
    let u1 = undone-more 0 4 u0 c.in_ok-undo.ensures (omega arith) refl in
    let u2 = undone-more 4 8 u1 c.in_ok-undo-2.ensures (omega arith) refl in
    let u3 = undone-more 8 12 u2 c.in_ok-undo-3.ensures (omega arith) refl in
    rw w.0
    (undone-all 12 16 u3 c.undo-then-is_written-3.ensures (omega arith) w.1)
