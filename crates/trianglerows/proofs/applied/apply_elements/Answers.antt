-- Runs one after another are one run (`run-both`). Those that are written out are by rule 0.
use Rattle.std.proofs.Common.{refl, arith, to_z-of_z}
use Rattle.joint.specs.RowsInPlace.{run-all, run-both}
use Rattle.trianglerows.proofs.applied.apply_elements.Goals as goal

pub returns-then-is_written-2 : goal.returns-then-is_written-2
returns-then-is_written-2 g c =
    let w = c.is_written-2.ensures c.if-is_written-2.true in
    let z = c.is_other-other.ensures w.0 in
    let first = rw (to_z-of_z c.ranges.d) at c.in_ok-apply_run.ensures in
    rw (z.0, z.1)
    (run-both _ 8 16 w.1 (omega arith) (run-all _ 8 refl first)
    (rw (to_z-of_z c.ranges.d) at c.apply_run-then-is_written-2-2.ensures))
