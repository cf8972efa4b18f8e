-- The copy in with the first stage is `loads-moved`, without it `loads-copied`.
use Rattle.std.proofs.Common.{true, ◌≡◌, sym, ap, ◌∙◌, ◌≤◌, ◌<◌, arith, length}
use Rattle.std.proofs.lemmas.Bool.Decides.{nat_tests}
use Rattle.factor.specs.Tasks.{inputs-most}
use Rattle.laws.specs.Accepted.{accepted-count}
use Rattle.rectanglerun.specs.Runs.{size_of, size-most}
use Rattle.rectanglerun.specs.Turns.{moves_in_turn, all-lent, loads-moved, loads-copied}
use Rattle.rules.specs.Numbers.{count}
use Rattle.rectanglerun.proofs.ends.load.Goals as goal
use Rattle.rectanglerun.proofs.ends.load.Goals.{Start, Then-is_moving}

-- there is a first stage
some : (s : Start) → 0 < count s.args.col.now.numbers.now 1
some s = (accepted-count s.requires.0.column).least

-- the lent numbers fit into the block
few : (s : Start) → length s.args.x.now ≤ 256
few s =
    let m = size-most s.requires.0 in
    omega (arith, s.requires.1, inputs-most s.args.run.task (size_of s.args.col.now.numbers.now s.args.row.now.numbers.now))

long : (s : Start) → length s.args.b.now ≡ 256
long s = ap length s.requires.3

pub is_moving-requires : goal.is_moving-requires
is_moving-requires c = some (goal.at.is_moving-requires c).Start

-- they are all of it, if there are any
whole : (c : Then-is_moving) → let a = c.args in
    length a.x.now ≡ size_of a.col.now.numbers.now a.row.now.numbers.now
whole c =
    let h : 0 < length c.args.x.now = grind (arith, nat_tests) in
    c.requires.1 ∙ all-lent c.args.run.task _ (rw c.requires.1 at h)

moves : (c : Then-is_moving) → let a = c.args in moves_in_turn a.col.now.numbers.now a.run.task 0 ≡ true
moves c = sym c.is_moving.ensures ∙ c.if-is_moving.true

pub move_in_turn-requires : goal.move_in_turn-requires
move_in_turn-requires c =
    let p = c.requires in
    let g = goal.at.move_in_turn-requires c in (
      p.0,
      some g.Start,
      moves g.Then-is_moving,
      omega (arith, whole g.Then-is_moving),
      omega (arith, long g.Start, size-most p.0),
    )

pub returns-then-is_moving : goal.returns-then-is_moving
returns-then-is_moving c =
    let g = goal.at.returns-then-is_moving c in
    loads-moved c.requires.0 c.args.run (some g.Start) (moves g.Then-is_moving) (whole g.Then-is_moving) c.requires.2
    (rw c.requires.3 at c.move_in_turn.ensures)

pub copy_front-requires : goal.copy_front-requires
copy_front-requires c =
    let s = (goal.at.copy_front-requires c).Start in
    let h = few s in
    let l = long s in
    (omega arith, omega arith)

pub returns : goal.returns
returns c =
    loads-copied c.requires.0 c.args.run (few (goal.at.returns c).Start) c.requires.2 (rw c.requires.3 at c.copy_front.ensures)
