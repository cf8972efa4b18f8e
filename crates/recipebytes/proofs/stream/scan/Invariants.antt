-- The loop: `Scanned`, that so many numbers stand before the place, and that what is left is to be read from there. Each number
-- has a byte at least. A turn is `scan-on`; it ends by `scan-stop`, where no number stands.
use Rattle.std.proofs.Common.{◌-◌, ◌≤◌, length}
use Rattle.recipebytes.specs.Reading.{Scanned}
use Rattle.recipebytes.proofs.stream.scan.Given as goal

abbrev pub invariant-loop-r : goal.invariant-loop-r
invariant-loop-r l = (l.count ≤ l.place) × Scanned l.bytes l.count l.place

abbrev pub decreases-loop-r : goal.decreases-loop-r
decreases-loop-r l = length l.bytes - l.place
