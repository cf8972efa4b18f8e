-- Stage 0 (`run_out`), then the run of the block in its room (`run_ends`), refused or done.
use Rattle.std.proofs.Common.{rules, ◌≡◌, refl, sym, ◌∙◌, ◌≤◌, arith, length}
use Rattle.factor.specs.RunReplies.{given-all, ended-noted, ended-done, run_ends, run_out, start-bounded}
use Rattle.factor.specs.Tasks.{number_of, inputs-most}
use Rattle.laws.specs.Accepted.{accepted-order}
use Rattle.linerun.specs.Runs.{stages-good}
use Rattle.rules.specs.Numbers.{count}
use Rattle.linerun.proofs.block.run_any.Goals as goal
use Rattle.linerun.proofs.block.run_any.Goals.{Start}

pub returns-then-not-is_inside : goal.returns-then-not-is_inside
returns-then-not-is_inside c =
    given-all
    (run_out _ _ c.args.x.now _ (sym c.is_inside.ensures ∙ c.if-not-is_inside.true) c.args.run c.requires.0
    (rw c.first_beyond.ensures))

-- the lent numbers fit into the array
few : (s : Start) → length s.args.x.now ≤ 16
few s =
    let m = (accepted-order s.args.s.now.faultless).most in
    omega (arith, s.requires.0, inputs-most s.args.run.task (count s.args.s.now.numbers.now 0))

pub load-requires : goal.load-requires
load-requires c = few (goal.at.load-requires c).Start

pub run_stages-requires : goal.run_stages-requires
run_stages-requires c =
    rw c.load.ensures
    (start-bounded 16 c.args.run.task c.args.x.now (sym c.is_inside.ensures ∙ c.if-not-is_inside.false))

pub copy_front-requires : goal.copy_front-requires
copy_front-requires c =
    let m = (accepted-order c.args.s.now.faultless).most in
    let l : length c.in-Ok.block ≡ 16 = search rules in
    (omega (arith, c.requires.1), omega (arith, c.requires.1))

pub returns-in-Ok : goal.returns-in-Ok
returns-in-Ok c =
    let x = c.args.x.now in
    let y = c.args.y.now in
    let a = c.args.s.now.faultless in
    rw (← (run_ends 16 (stages-good a) x y c.requires.1 c.args.run c.requires.0 (accepted-order a).most))
    (ended-done (number_of c.args.run.task) y (rw c.load.ensures at c.in-Ok.ensures) refl c.copy_front.ensures)

pub returns-in-Err : goal.returns-in-Err
returns-in-Err c =
    let x = c.args.x.now in
    let y = c.args.y.now in
    let a = c.args.s.now.faultless in
    let q = (rw c.load.ensures at c.in-Err.ensures).0 in
    rw (← (run_ends 16 (stages-good a) x y c.requires.1 c.args.run c.requires.0 (accepted-order a).most))
    (ended-noted (number_of c.args.run.task) y q (λ z. rw (c.element.ensures z) q))
