-- The stages before the refused one pass once more (`progress-goes`), and the search names the element of that stage
-- (`named-there`).
use Rattle.std.proofs.Common.{◌≡◌, ap, ◌-◌, ◌≤◌, ◌<◌, arith, length}
use Rattle.factor.specs.PaddedBlocks.{padded_block}
use Rattle.factor.specs.StageLoops.{progress-goes}
use Rattle.factor.specs.Tasks.{inputs-most}
use Rattle.laws.specs.Sound.{counts-agree}
use Rattle.rectanglerun.specs.Runs.{size_of, size-most, joint_run_by}
use Rattle.rectanglerun.specs.Turns.{StandsAt, Loaded, loads-copied, row-has, pair-in-turn, named-there}
use Rattle.rules.specs.Numbers.{count}
use Rattle.rectanglerun.proofs.block.element.Goals as goal
use Rattle.rectanglerun.proofs.block.element.Goals.{After-copy_front, After-run_stages, Start}

-- the turn of the stage
in-turn : (s : Start) → s.args.stage - 1 < count s.args.col.now.numbers.now 1
in-turn s = omega (arith, s.requires.4, s.requires.5)

-- the lent numbers fit into the block
few : (s : Start) → length s.args.x.now ≤ 256
few s =
    let m = size-most s.requires.0 in
    omega (arith, s.requires.1, inputs-most s.args.run.task (size_of s.args.col.now.numbers.now s.args.row.now.numbers.now))

pub copy_front-requires : goal.copy_front-requires
copy_front-requires c =
    let h = few (goal.at.copy_front-requires c).Start in
    let l : length c.args.b.now ≡ 256 = ap length c.requires.3 in
    (omega arith, omega arith)

loaded : (c : After-copy_front) → length c.args.x.now ≤ 256 →
    Loaded c.args.run c.args.col.now.numbers.now c.args.row.now.numbers.now c.args.x.now 0 c.copy_front.new.y
loaded c few = loads-copied c.requires.0 c.args.run few c.requires.2 (rw c.requires.3 at c.copy_front.ensures)

pub run_stages-requires : goal.run_stages-requires
run_stages-requires c =
    let g = goal.at.run_stages-requires c in
    let l = loaded g.After-copy_front (few g.Start) in
    (c.requires.0, omega arith, omega (arith, in-turn g.Start), l.stands.small, l.long)

-- the run stands before the refused stage
stands :
    (c : After-run_stages) →
    let run = c.args.run in
    let x = c.args.col.now.numbers.now in
    let y = c.args.row.now.numbers.now in
    Loaded run x y c.args.x.now 0 c.copy_front.new.y →
    StandsAt run x y (joint_run_by run x y (padded_block 256 c.args.x.now)) (c.args.stage - 1) c.run_stages.new.x
stands c l = progress-goes c.run_stages.ensures.0 l.stands c.requires.6 (omega (arith, c.requires.4))

pub nth_start-requires-2 : goal.nth_start-requires-2
nth_start-requires-2 c =
    row-has c.requires.0 c.args.run.task _ (in-turn (goal.at.nth_start-requires-2 c).Start)

pub joint_element-requires : goal.joint_element-requires
joint_element-requires c =
    let g = goal.at.joint_element-requires c in
    let m = c.requires.0 in
    let p = pair-in-turn m c.args.run.task _ (in-turn g.Start) c.order.ensures c.order-2.ensures c.nth_start.ensures
    c.nth_start-2.ensures in (
      p,
      (stands g.After-run_stages (loaded g.After-copy_front (few g.Start))).small,
      rw (c.order.ensures, c.order-2.ensures) (omega (arith, size-most m, c.run_stages.ensures.1)),
    )

pub returns : goal.returns
returns c z =
    let g = goal.at.returns c in
    let e = rw (
      c.order.ensures,
      c.order-2.ensures,
      c.nth_start.ensures,
      c.nth_start-2.ensures,
      counts-agree c.args.col.now.numbers.now c.args.row.now.numbers.now c.requires.0.match,
    ) at c.joint_element.ensures in
    rw e
    (named-there c.args.run _ _ c.args.stage c.requires.4 c.requires.5
    (stands g.After-run_stages (loaded g.After-copy_front (few g.Start))) c.requires.6)
