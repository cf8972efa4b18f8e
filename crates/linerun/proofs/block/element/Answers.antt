-- The factor in turn is one of the sheet, and the search names the element of its stage.
use Rattle.std.proofs.Common.{rules, ◌≡◌, ◌-◌, ◌<◌, arith, length}
use Rattle.factor.specs.Tasks.{stage-below}
use Rattle.laws.specs.Accepted.{accepted-order}
use Rattle.rules.specs.Numbers.{count}
use Rattle.linerun.proofs.block.element.Goals as goal
use Rattle.linerun.proofs.block.element.Goals.{Start}

-- the turn of the stage
in-turn : (s : Start) → s.args.halted.stage - 1 < count s.args.s.now.numbers.now 1
in-turn s = omega (arith, s.requires.some, s.requires.most)

len : (s : Start) → length s.args.halted.before ≡ 16
len s = search rules

pub line_element-requires : goal.line_element-requires
line_element-requires c =
    let here = goal.at.line_element-requires c in
    let a = c.args.s.now.faultless in
    let r = accepted-order a in (
      rw c.order.ensures r.least,
      rw c.order.ensures r.most,
      rw (c.nth_start-i.ensures, c.order.ensures) (a.each _ (stage-below _ _ _ (in-turn here.Start))),
      c.requires.small,
      omega (arith, c.order.ensures, r.most, len here.Start),
    )
