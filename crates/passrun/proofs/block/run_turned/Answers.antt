-- The lines are the others (`turned-done`).
use Rattle.std.proofs.Common.{◌≡◌, ap, ◌∙◌, length}
use Rattle.laws.specs.Accepted.{accepted-order}
use Rattle.passrun.specs.EndLaws.{turned-done}
use Rattle.passrun.specs.Layout.{turned, length-turning, turning-bounded}
use Rattle.rules.specs.Numbers.{count}
use Rattle.passrun.proofs.block.run_turned.Goals as goal
use Rattle.passrun.proofs.block.run_turned.Goals.{After-turn}

pub turn-requires : goal.turn-requires
turn-requires c =
    let p = c.requires in
    (rw c.order.ensures (accepted-order c.args.sheet.now.faultless).most, p.0, p.3)

-- the block then, by the order itself
made : (t : After-turn) → let a = t.args in
    t.turn.new.x ≡ turned (count a.sheet.now.numbers.now 0) a.w a.b.now
made t = rw t.order.ensures at t.turn.ensures

pub run_pass-requires : goal.run_pass-requires
run_pass-requires c =
    let p = c.requires in (
      p.0,
      p.1,
      rw (made (goal.at.run_pass-requires c).After-turn) (turning-bounded _ _ p.2),
      ap length (made (goal.at.run_pass-requires c).After-turn) ∙ length-turning _ _ c.args.b.now ∙ p.3,
    )

pub returns : goal.returns
returns c =
    let p = c.requires in
    turned-done c.args.sheet.now.faultless p.0 p.3 (made (goal.at.returns c).After-turn) c.run_pass.ensures
