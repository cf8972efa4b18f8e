-- The elements are the row's, from the sums of the block before it (`applied-row`).
use Rattle.std.proofs.Common.{◌≡◌, ◌∙◌, ◌+◌, ◌-◌, ◌*◌, ◌≤◌, arith, w32, to_z, of_z}
use Rattle.factor.specs.Rounding.{rule_by}
use Rattle.joint.specs.Elements.{sign_at, sums-small}
use Rattle.joint.specs.RowsInPlace.{in_block}
use Rattle.joint.specs.Triangles.{applied-row}
use Rattle.whole.specs.Machine.{back}
use Rattle.singlerows.proofs.apply_crossing.Goals as goal
use Rattle.singlerows.proofs.apply_crossing.Goals.{After-sign_at, Start}

-- the row lies in the block
room : (s : Start) → s.args.i * s.args.fb.order + s.args.fb.order ≤ 256
room s =
    let l = s.requires.4 in
    let h = in_block (s.args.fb.order - 1) s.requires.0.order s.requires.1.order s.requires.2 (omega arith) in
    omega arith

sign : (c : After-sign_at) →
    to_z w32 (of_z w32 c.sign_at.result) ≡ sign_at c.args.col.now c.args.fa c.args.i
sign c = back w32 _ c.sign_at.type_inv ∙ c.sign_at.ensures

pub apply_elements-requires : goal.apply_elements-requires
apply_elements-requires c =
    let g = goal.at.apply_elements-requires c in
    rw (sign g.After-sign_at, c.sums_at.ensures) (
      (
        c.requires.1,
        c.requires.0.sign c.args.i c.requires.2,
        sums-small c.requires.0 c.args.i c.requires.2 c.args.fb.order c.requires.3,
        room g.Start,
        c.requires.3,
        (let l = c.requires.4 in omega arith),
      ),
      c.requires.4,
      c.requires.5,
    )

pub returns : goal.returns
returns c =
    applied-row (rule_by c.args.down c.args.even) c.args.col.now c.args.fa c.args.row.now c.args.fb
    c.args.i c.args.x.now
    (rw (sign (goal.at.returns c).After-sign_at, c.sums_at.ensures) at c.apply_elements.ensures)
