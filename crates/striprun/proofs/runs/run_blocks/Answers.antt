-- After k blocks the strip is done up to there (`BlocksDone`): a turn's part of the output comes back as its block (`done-step`).
use Rattle.std.proofs.Common.{◌≡◌, refl, ℕ, ◌+◌, ◌-◌, ◌*◌, ◌≤◌, arith, length}
use Rattle.factor.specs.Tasks.{call_of}
use Rattle.striprun.specs.BlockLoop.{none_done, done-long, done-bytes, done-step}
use Rattle.striprun.specs.Plans.{plan_of, block-call}
use Rattle.striprun.proofs.runs.run_blocks.Goals as goal

-- from the start of a part to its end
width : (a n : ℕ) → a + n - a ≡ n
width a n = omega arith

pub loop-k-init : goal.loop-k-init
loop-k-init c = (omega arith, refl, refl, refl, none_done _ _ _ _ _)

pub loop-k-preserved : goal.loop-k-preserved
loop-k-preserved c =
    let l = c.loop-k in
    let p = plan_of c.args.sheets.now in
    let call = call_of c.args.run p in
    let whole = block-call c.args.run c.requires.0 p in
    let x = c.args.x.now in
    let y = c.args.y.now in
    let b = c.args.bytes.now in
    let long : length x ≡ length b * p.size = rw c.requires.2 at c.requires.3 in
    let room : length y ≡ length b * p.size = rw c.requires.2 at c.requires.4 in
    let few : l.k + 1 ≤ length b = omega (arith, c.loop-k-test.true) in
    let d = done-step p call x y b whole long room l.invariant.4 c.args.n _ c.requires.2 (width (l.k * c.args.n) _)
    c.run_block.new.y c.run_block.result (omega arith) c.run_block.auto.y c.run_block.ensures in
    (few, refl, done-long p call x y b whole long room d few, done-bytes p call x y b whole long room d few, d)
