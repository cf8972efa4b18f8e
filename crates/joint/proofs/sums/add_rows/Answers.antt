-- The sums have the first j rows (`adding-next`), and are small (`adding-small`).
use Rattle.std.proofs.Common.{◌∙◌, ◌+◌, ◌*◌, ◌≤◌, arith, w32}
use Rattle.joint.specs.Sums.{added_none, adding-small, adding-next}
use Rattle.whole.specs.Machine.{reads}
use Rattle.joint.proofs.sums.add_rows.Goals as goal
use Rattle.joint.proofs.sums.add_rows.Goals.{In-loop-j}

pub loop-j-init : goal.loop-j-init
loop-j-init c = (omega arith, added_none c.requires)

-- row j lies in the block
row : (i : In-loop-j) →
    i.args.k + i.loop-j.j * i.args.n + i.args.w ≤ 256
row i = i.requires.places i.loop-j.j i.loop-j-test.true

pub add_row-requires : goal.add_row-requires
add_row-requires c =
    let l = c.loop-j in
    let e = c.requires.entries l.j c.loop-j-test.true in
    rw (reads w32 e tt) (
      c.requires.wide,
      row (goal.at.add_row-requires c).In-loop-j,
      e,
      c.requires.numbers,
      rw l.invariant.1
          (adding-small c.requires l.j c.loop-j-test.true),
    )

pub loop-j-preserved : goal.loop-j-preserved
loop-j-preserved c =
    let l = c.loop-j in
    let e = c.requires.entries l.j c.loop-j-test.true in
    (omega arith, c.add_row.ensures ∙ rw (reads w32 e tt, l.invariant.1) (adding-next c.requires l.j))
