-- Stage 0 (`run_out`), then the run of the block in its room (`run_ends`): it stands after the copy in, goes on through the
-- stages, and is written or refused.
use Rattle.std.proofs.Common.{List, refl, sym, ◌∙◌, ℤ}
use Rattle.factor.specs.PaddedBlocks.{padded_block, ended}
use Rattle.factor.specs.RunReplies.{GivesAsked, given-all, ended-noted, ended-done, run_ends, run_out}
use Rattle.factor.specs.Tasks.{number_of}
use Rattle.laws.specs.AnswersInTurn.{ran_reply}
use Rattle.rectanglerun.specs.Runs.{joint_ran, joint_run_by, stages-good, size-most}
use Rattle.rules.specs.declared.Answer.{Answer}
use Rattle.rectanglerun.proofs.block.run_block.Goals as goal
use Rattle.rectanglerun.proofs.block.run_block.Goals.{Start}

-- the reply to the run of the block in its room is the reply to the run of the lent numbers
replies :
    (s : Start) {a : Answer} {z : List ℤ} →
    let x = s.args.x.now in
    let run = s.args.run in
    let named = s.args.named in
    let c = s.args.col.now.numbers.now in
    let r = s.args.row.now.numbers.now in
    GivesAsked named a z (ended (joint_run_by run c r (padded_block 256 x)) (number_of run.task) s.args.y.now) →
    GivesAsked named a z (ran_reply (number_of run.task) (joint_ran run c r x) s.args.y.now)
replies s h =
    let m = s.requires.0 in
    rw (run_ends 256 (stages-good m) s.args.x.now _ s.requires.2 s.args.run s.requires.1 (size-most m)) at h

pub returns-then-not-is_inside : goal.returns-then-not-is_inside
returns-then-not-is_inside c =
    let out = sym c.is_inside.ensures ∙ c.if-not-is_inside.true in
    given-all (run_out _ _ c.args.x.now _ out c.args.run c.requires.1 (rw c.first_beyond.ensures))

pub returns-in-Err : goal.returns-in-Err
returns-in-Err c =
    let q = (c.in-Err.ensures.0.stops refl).2 _ c.load-from.ensures.stands in
    replies (goal.at.returns-in-Err c).Start
    (ended-noted (number_of c.args.run.task) c.args.y.now q.is c.element-element.ensures)

pub returns : goal.returns
returns c =
    let on = c.in_default.ensures.0.passes refl _ c.load-from.ensures.stands in
    let z = c.store.ensures _ on in
    replies (goal.at.returns c).Start (ended-done (number_of c.args.run.task) c.args.y.now z.ends refl z.written)
