-- The copy out with the last stage is `stores-moved`, after it `stores-copied`.
use Rattle.std.proofs.Common.{◌<◌, arith}
use Rattle.rectanglerun.specs.Runs.{size-most}
use Rattle.rectanglerun.specs.Turns.{stores-moved, stores-copied}
use Rattle.rules.specs.Numbers.{count}
use Rattle.rectanglerun.proofs.ends.store.Goals as goal
use Rattle.rectanglerun.proofs.ends.store.Goals.{Then-t-many}

-- a stage is left
one_left : (c : Then-t-many) → let a = c.args in a.t < count a.col.now.numbers.now 1
one_left c = rw c.many.ensures at c.if-t-many.true

pub move_in_turn-requires : goal.move_in_turn-requires
move_in_turn-requires c =
    let p = c.requires in
    let l = one_left (goal.at.move_in_turn-requires c).Then-t-many in
    (p.0, l, (p.1.last l).1, omega (arith, p.2, size-most p.0), omega (arith, p.3))

pub returns-then-t-many : goal.returns-then-t-many
returns-then-t-many c =
    let p = c.requires in
    let l = one_left (goal.at.returns-then-t-many c).Then-t-many in
    let last = p.1.last l in
    stores-moved p.0 c.args.run c.args.t l last.1 last.0 p.2 p.3 c.move_in_turn.ensures

pub copy_front-requires : goal.copy_front-requires
copy_front-requires c =
    let p = c.requires in omega (arith, p.2, p.3, size-most p.0)

pub returns : goal.returns
returns c =
    let p = c.requires in
    stores-copied p.0 c.args.run (omega (arith, c.many.ensures, p.1.most)) c.copy_front.ensures
