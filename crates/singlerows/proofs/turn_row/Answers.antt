-- The first j numbers are turned, and all are as small as they were.
use Rattle.std.proofs.Common.{◌≡◌, ◌∙◌, ◌+◌, ◌<◌, arith, ◌*ℤ◌, to_z-of_z, w32, to_z, of_z}
use Rattle.rules.specs.Numbers.{at}
use Rattle.singlerows.specs.SingleRowsInPlace.{turned-ahead, turned-next}
use Rattle.whole.specs.Machine.{reads, back}
use Rattle.singlerows.proofs.turn_row.Goals as goal
use Rattle.singlerows.proofs.turn_row.Goals.{After-sign_in, After-turned_number, In-loop-j}

sign : (c : After-sign_in) →
    to_z w32 (of_z w32 c.sign_in.result) ≡ c.args.d *ℤ at c.args.g.now c.loop-j.j
sign c =
    back w32 _ c.sign_in.type_inv ∙ c.sign_in.ensures ∙ rw (to_z-of_z c.ranges.d)

room : (c : In-loop-j) → c.args.k + c.loop-j.j < 256
room c = let h = c.requires.0.places in let l = c.loop-j-test.true in omega arith

-- the number, which is not turned yet
number : (c : In-loop-j) → let l = c.loop-j in
    to_z w32 (of_z w32 (at l.x (c.args.k + l.j))) ≡ at c.args.x.now (c.args.k + l.j)
number c =
    let l = c.loop-j in
    rw (turned-ahead l.invariant.1) (reads w32 (c.requires.0.numbers.small (c.args.k + l.j)) tt)

value : (c : After-turned_number) →
    to_z w32 (of_z w32 c.turned_number.result) ≡ (c.args.d *ℤ at c.args.g.now c.loop-j.j)
    *ℤ at c.args.x.now (c.args.k + c.loop-j.j)
value c =
    back w32 _ c.turned_number.type_inv ∙ c.turned_number.ensures
    ∙ rw (sign c.before.before, number c.before.before.before)

pub loop-j-preserved : goal.loop-j-preserved
loop-j-preserved c =
    let g = goal.at.loop-j-preserved c in (
      omega arith,
      rw (value g.After-turned_number, to_z-of_z c.ranges.d)
          (turned-next (rw (to_z-of_z c.ranges.d) at c.loop-j.invariant.1)
          (let h = room g.In-loop-j in omega (arith, c.requires.1))),
    )
