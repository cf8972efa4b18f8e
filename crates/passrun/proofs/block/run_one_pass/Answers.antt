-- The lent numbers in their lines, then the stages (`one-reaches`).
use Rattle.laws.specs.Accepted.{accepted-order}
use Rattle.passrun.specs.BlockRuns.{LaidIn}
use Rattle.passrun.specs.OneLaws.{lent_by, laid-small, one-reaches}
use Rattle.rules.specs.Numbers.{count}
use Rattle.passrun.proofs.block.run_one_pass.Goals as goal
use Rattle.passrun.proofs.block.run_one_pass.Goals.{After-lay}

pub lay-requires : goal.lay-requires
lay-requires c =
    let a = c.args in
    let p = c.requires.0 in
    let e = c.order.ensures in
    (p.most, rw e (accepted-order a.sheet.now.faultless).most, rw e (lent_by a.run.task a.x.now _ p.input), c.requires.2)

-- the block then, of the order itself
laid_in : (l : After-lay) → let a = l.args in
    LaidIn a.columns a.many (count a.sheet.now.numbers.now 0) a.x.now l.lay.new.b
laid_in l = rw l.order.ensures at l.lay.ensures

pub run_pass-requires : goal.run_pass-requires
run_pass-requires c =
    let p = c.requires.0 in (
      p.most,
      c.requires.1,
      laid-small c.args.columns c.args.run p (laid_in (goal.at.run_pass-requires c).After-lay),
      c.lay.ensures.wide,
    )

pub returns : goal.returns
returns c =
    one-reaches c.args.columns c.args.run c.requires.0 (laid_in (goal.at.returns c).After-lay) c.args.sheet.now.faultless
    c.run_pass.ensures
