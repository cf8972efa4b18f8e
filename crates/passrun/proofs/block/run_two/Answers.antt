-- Refused at stage 0 (`run_out`); else both passes end (`ran-is`, `two_is`), refused or done.
use Rattle.std.proofs.Common.{◌≡◌, refl, sym, ◌∙◌}
use borrow.Author.Tests.{not-false}
use Rattle.factor.specs.RunReplies.{run_out}
use Rattle.factor.specs.Tasks.{ran}
use Rattle.laws.specs.Accepted.{accepted-order}
use Rattle.passrun.specs.BlockRuns.{other, one_lines, two_size, two_stages}
use Rattle.passrun.specs.Blocks.{sizes-turn}
use Rattle.passrun.specs.EndLaws.{pair_run, ran-is, two_is, ends-refused, ends-done, other-not, stored-as}
use Rattle.passrun.specs.Laid.{laid}
use Rattle.rules.specs.Numbers.{count}
use Rattle.passrun.proofs.block.run_two.Goals as goal
use Rattle.passrun.proofs.block.run_two.Goals.{After-store, Start}

pub returns-then-not-is_inside : goal.returns-then-not-is_inside
returns-then-not-is_inside c =
    let out = sym c.is_inside.ensures ∙ c.if-not-is_inside.true in
    run_out _ _ c.args.x.now _ out c.args.run c.requires.input (rw c.first_beyond.ensures)

-- the document's run
whole : (s : Start) → let a = s.args in
    ran a.run (two_size a.columns a.first.now.numbers.now a.second.now.numbers.now) (two_stages a.columns a.first.now.numbers.now a.second.now.numbers.now)
    a.x.now
    ≡ pair_run a.columns a.run a.first.now.numbers.now a.second.now.numbers.now a.x.now
whole s =
    let a = s.args in
    ran-is a.run _ _ a.x.now s.requires.input ∙ two_is a.run a.first.now.numbers.now a.second.now.numbers.now _ s.requires.way

pub returns-in-Err : goal.returns-in-Err
returns-in-Err c =
    let a = c.args in
    ends-refused a.run.task a.y.now (whole (goal.at.returns-in-Err c).Start ∙ c.element_of_two.ensures)

pub store-requires : goal.store-requires
store-requires c =
    let a = c.args in
    let s = a.first.now in
    let z = a.second.now in (
      rw c.order.ensures (accepted-order s.faultless).most,
      rw c.order-2.ensures (accepted-order z.faultless).most,
      c.run_two_passes.ensures.wide,
      rw (other-not a.columns, c.order.ensures, c.order-2.ensures)
          (c.requires.output ∙ sym (sizes-turn a.columns (count z.numbers.now 0) (count s.numbers.now 0))),
    )

-- the output, of the orders themselves
stored : (c : After-store) → let a = c.args in let s = a.first.now.numbers.now in let z = a.second.now.numbers.now in
    c.store.new.y
    ≡ laid (two_size a.columns s z) (one_lines (other a.columns) (count s 0) z) c.run_two_passes.new.b
stored c =
    let a = c.args in
    stored-as a.columns a.first.now.numbers.now a.second.now.numbers.now _ c.order.ensures c.order-2.ensures c.store.ensures

pub returns : goal.returns
returns c =
    ends-done _ c.args.y.now (whole (goal.at.returns c).Start ∙ c.in_default.ensures.takes refl)
    (stored (goal.at.returns c).After-store)
