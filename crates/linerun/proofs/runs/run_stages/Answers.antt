-- After t stages the run is that of the stages left (`stage-passes`), and the block is in bound.
use Rattle.std.specs.Prelude.{is_ok}
use Rattle.std.proofs.Common.{◌≡◌, refl, ap, ℕ, ◌≤◌, ◌<◌, arith}
use Rattle.factor.specs.StageLoops.{stage-passes, stage-stops, stages-done}
use Rattle.factor.specs.Steps.{Step}
use Rattle.factor.specs.Tasks.{limit_of, nth_stage, taken_by, stage-below}
use Rattle.laws.specs.Accepted.{accepted-order}
use Rattle.linerun.specs.Runs.{at_stage, line-listed, run-starts, run-ends-stopped}
use Rattle.rules.specs.Numbers.{most_order, count}
use Rattle.linerun.proofs.runs.run_stages.Goals as goal
use Rattle.linerun.proofs.runs.run_stages.Goals.{After-run_stage-s, At-loop-t, In-loop-t}

-- the order
ranged : (c : At-loop-t) → (1 ≤ c.order-n.result) × (c.order-n.result ≤ most_order)
ranged c = let r = accepted-order c.args.sheet.now.faultless in rw c.order-n.ensures (r.least, r.most)

pub loop-t-init : goal.loop-t-init
loop-t-init c = run-starts c.args.run c.args.sheet.now.numbers.now c.requires

-- the stage in turn
in-turn : (c : In-loop-t) → c.loop-t.t < count c.args.sheet.now.numbers.now 1
in-turn c = rw c.many-t-end.ensures at c.loop-t-test.true

abbrev T : In-loop-t → ℕ
T c = nth_stage c.args.run.task (count c.args.sheet.now.numbers.now 1) c.loop-t.t

pub run_stage-s-requires : goal.run_stage-s-requires
run_stage-s-requires c =
    let here = goal.at.run_stage-s-requires c in
    let r = ranged here.At-loop-t in (
      r.0,
      r.1,
      rw (c.nth_start-i.ensures, c.order-n.ensures)
          (c.args.sheet.now.faultless.each (T here.In-loop-t) (stage-below _ _ _ (in-turn here.In-loop-t))),
      c.loop-t.invariant.small,
    )

-- the stage, of the order itself
told :
    (c : After-run_stage-s) →
    let r = c.args.run in
    let s = c.args.sheet.now.numbers.now in
    let t = nth_stage r.task (count s 1) c.loop-t.t in
    Step (limit_of r.task) (count s 0) (taken_by r (count s 0) (at_stage s (count s 0) t) c.loop-t.v)
    (is_ok c.run_stage-s.result.end) c.run_stage-s.result.block
told c = rw (c.nth_start-i.ensures, c.order-n.ensures) at c.run_stage-s.ensures

pub returns-in_default : goal.returns-in_default
returns-in_default c =
    let here = goal.at.returns-in_default c in
    let l = in-turn here.In-loop-t in
    run-ends-stopped c.args.run c.args.sheet.now.numbers.now c.args.x c.loop-t.t l c.loop-t.invariant
    (stage-stops (line-listed c.args.sheet.now.numbers.now c.args.run.task) c.loop-t.t l c.loop-t.invariant
    (told here.After-run_stage-s) (ap is_ok c.in_default.is))

pub loop-t-preserved : goal.loop-t-preserved
loop-t-preserved c =
    let here = goal.at.loop-t-preserved c in
    let e = c.in-Ok.is in
    stage-passes (line-listed c.args.sheet.now.numbers.now c.args.run.task) c.loop-t.t (in-turn here.In-loop-t)
    c.loop-t.invariant (rw e at (told here.After-run_stage-s)) refl

pub returns : goal.returns
returns c =
    let l = c.loop-t in
    let e : l.t ≡ count c.args.sheet.now.numbers.now 1 = omega (arith, c.many-t-end.ensures) in
    stages-done (line-listed c.args.sheet.now.numbers.now c.args.run.task) (rw e at l.invariant)
