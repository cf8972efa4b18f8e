-- The first i rows and columns have changed places, as far as the smaller order.
use Rattle.std.proofs.Common.{ap, ◌∙◌, arith, length}
use Rattle.passrun.specs.Layout.{length-turning}
use Rattle.passrun.proofs.layout.turn.Goals as goal

pub exchange-requires : goal.exchange-requires
exchange-requires c =
    let p = c.requires in
    let t = c.loop-i-test.true in (
      omega (arith, p.0, p.1, c.max-i-end.ensures),
      omega (arith, c.min.ensures),
      ap length c.loop-i.invariant ∙ length-turning _ c.loop-i.i c.args.x.now ∙ p.2,
    )
