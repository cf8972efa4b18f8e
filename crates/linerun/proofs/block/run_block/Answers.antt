-- Only an accepted run of four ends here (`replies`).
use Rattle.std.proofs.Common.{rules, ◌≡◌, refl, ◌∙◌, length}
use Rattle.factor.specs.RunReplies.{given-all}
use Rattle.factor.specs.Tasks.{number_of}
use Rattle.linerun.specs.Fours.{fill-four, replies}
use Rattle.linerun.proofs.block.run_block.Goals as goal
use Rattle.linerun.proofs.block.run_block.Goals.{In-Some}

-- the block and the output have four numbers
wide : (c : In-Some) → length c.in-Some.block ≡ 4
wide c = search rules

four : (c : In-Some) → length c.args.y.now ≡ 4
four c = c.requires.1 ∙ c.in-Some.ensures.0

pub returns-in-Some : goal.returns-in-Some
returns-in-Some c =
    let w = (goal.at.returns-in-Some c).In-Some in
    given-all
    (replies (number_of c.args.run.task) c.args.y.now c.in-Some.ensures.1 refl
    (c.copy_front.ensures ∙ fill-four _ _ (wide w) (four w)))
