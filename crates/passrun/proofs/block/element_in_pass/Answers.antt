-- The block is read off, and the element found at its front (`named-read`).
use Rattle.factor.specs.Tasks.{stage-below}
use Rattle.laws.specs.Accepted.{accepted-order}
use Rattle.passrun.specs.OneLaws.{named-read}
use Rattle.passrun.proofs.block.element_in_pass.Goals as goal

pub read_off-requires : goal.read_off-requires
read_off-requires c =
    (c.requires.1, rw c.order-n.ensures (accepted-order c.args.sheet.now.faultless).most, c.requires.4)

pub first_named-requires : goal.first_named-requires
first_named-requires c =
    let s = c.args.sheet.now in
    let o = accepted-order s.faultless in
    let e = c.order-n.ensures in (
      rw e o.least,
      rw e o.most,
      c.requires.0,
      c.requires.1,
      rw (c.nth_start-i.ensures, e) (s.faultless.each _ (stage-below _ _ _ c.requires.2)),
      c.read_off.ensures.small _ c.requires.3,
      c.read_off.ensures.wide,
    )

pub returns : goal.returns
returns c =
    let a = c.args in
    named-read a.columns a.run a.sheet.now.numbers.now a.many a.t c.order-n.ensures c.nth_start-i.ensures
    c.read_off.ensures c.first_named.ensures
