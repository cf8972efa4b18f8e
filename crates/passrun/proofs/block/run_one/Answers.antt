-- Refused at stage 0 (`run_out`); else the pass ends (`ran-is`), refused or done.
use Rattle.std.proofs.Common.{◌≡◌, refl, sym, ◌∙◌, arith, ◌+◌, ◌-◌}
use borrow.Author.Tests.{not-true, not-false}
use Rattle.factor.specs.RunReplies.{run_out}
use Rattle.laws.specs.Accepted.{accepted-order}
use Rattle.passrun.specs.BlockRuns.{one_size, one_lines, OneDone}
use Rattle.passrun.specs.EndLaws.{ran-is, ends-refused, ends-done, ends_at}
use Rattle.passrun.specs.Laid.{laid}
use Rattle.passrun.specs.OneLaws.{one-done, one-named}
use Rattle.rules.specs.Numbers.{count}
use Rattle.passrun.proofs.block.run_one.Goals as goal
use Rattle.passrun.proofs.block.run_one.Goals.{After-store}

pub returns-then-not-is_inside : goal.returns-then-not-is_inside
returns-then-not-is_inside c =
    let out = sym c.is_inside.ensures ∙ c.if-not-is_inside.true in
    run_out _ _ c.args.x.now _ out c.args.run c.requires.input (rw c.first_beyond.ensures)

-- refused at one of its stages
pub returns-in-Err : goal.returns-in-Err
returns-in-Err c =
    let a = c.args in
    let stage = c.in-Err.field-0.stage in
    let f = (rw c.many-all.ensures at c.in-Err.ensures).reached.stops refl in
    let next : c.in-Err.field-0.stage ≡ c.in-Err.field-0.stage - 1 + 1 = (let l = f.0 in omega arith) in
    ends-refused a.run.task a.y.now
    (ran-is a.run _ _ a.x.now c.requires.input
    ∙ ends_at (one-named c.run_one_pass-in-Err.ensures f.2 next f.1) refl c.element_in_pass.ensures)

-- or done
pub store-requires : goal.store-requires
store-requires c =
    let q = c.requires in
    let e = c.order.ensures in
    (q.most, rw e (accepted-order c.args.sheet.now.faultless).most, c.run_one_pass.ensures.wide, rw e q.output)

-- the output, of the order itself
stored : (c : After-store) → let a = c.args in let s = a.sheet.now.numbers.now in
    c.store.new.y ≡ laid (one_size a.columns a.many s) (one_lines a.columns a.many s) c.run_one_pass.new.b
stored c = rw c.order.ensures at c.store.ensures

pub returns : goal.returns
returns c =
    let a = c.args in
    ends-done _ a.y.now
    (ran-is a.run _ _ a.x.now c.requires.input ∙ one-done c.in_default.ensures c.many-all.ensures refl)
    (stored (goal.at.returns c).After-store)
