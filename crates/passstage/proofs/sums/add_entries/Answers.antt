-- The sums have the first j entries (`parting-next`), and are small (`parting-small`).
use Rattle.std.proofs.Common.{◌+◌, ◌*◌, ◌≤◌, arith, w32}
use Rattle.factor.specs.SumBounds.{bounded-le}
use Rattle.passstage.specs.Parts.{parting-none, parting-next, parting-small}
use Rattle.whole.specs.Machine.{reads}
use Rattle.passstage.proofs.sums.add_entries.Goals as goal
use Rattle.passstage.proofs.sums.add_entries.Goals.{In-loop-j}

pub loop-j-init : goal.loop-j-init
loop-j-init c = (omega arith, parting-none c.requires.0 c.requires.1)

-- column j lies in the block
column : (i : In-loop-j) → i.args.k + i.loop-j.j * 16 + 16 ≤ 256
column i = i.requires.0.places i.loop-j.j i.loop-j-test.true

pub add_entry-requires : goal.add_entry-requires
add_entry-requires c =
    let l = c.loop-j in
    let t = c.requires.0 in
    let e = t.entries l.j c.loop-j-test.true in
    rw (reads w32 e tt) (
      c.requires.1,
      omega (arith, column (goal.at.add_entry-requires c).In-loop-j, c.requires.1),
      e,
      t.numbers,
      bounded-le (let d = t.few in let g = c.loop-j-test.true in omega arith) (parting-small t l.invariant.0 l.invariant.1),
      l.invariant.1.long,
    )

pub loop-j-preserved : goal.loop-j-preserved
loop-j-preserved c =
    let l = c.loop-j in
    let e = c.requires.0.entries l.j c.loop-j-test.true in
    (omega arith, parting-next c.requires.0 l.j l.invariant.1 (rw (reads w32 e tt) at c.add_entry.ensures))
