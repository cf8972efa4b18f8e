-- The first i rows are in their places (`row-closed`).
use Rattle.std.proofs.Common.{◌≡◌, ap, ◌∙◌, arith, length, ◌+◌, ◌-◌, ◌*◌}
use Rattle.passrun.specs.Layout.{length-copied, shifted, rows-near, row-closed}
use Rattle.passrun.proofs.layout.close_rows.Goals as goal

pub loop-i-preserved : goal.loop-i-preserved
loop-i-preserved c =
    let i = c.loop-i.i in
    let n = c.args.n in
    let k = c.copy_within.ensures in
    let long : length c.loop-i.x ≡ 256 =
    ap length c.loop-i.invariant.1 ∙ length-copied c.args.n _ _ c.loop-i.i c.args.x.now ∙ c.requires.2 in
    let t = c.loop-i-test.true in
    let few = c.requires.0 in
    let near = rows-near c.loop-i.i c.requires.1 in
    let e : c.loop-i.i * 16 + c.args.n - c.loop-i.i * 16 ≡ c.args.n = omega arith in
    let b = rw e at k.by_index in (
      omega arith,
      shifted (i * 16) (i * n) n c.loop-i.x k.len (omega arith) b.0 b.1 b.2 ∙ row-closed i n c.args.x.now c.requires.1 c.loop-i.invariant.1,
    )
