-- From the copy is from the line itself (`moved-aside`).
use Rattle.std.proofs.Common.{◌∙◌}
use Rattle.factor.specs.MovedInPlace.{moved-aside}
use Rattle.factor.specs.Tasks.{is_inverse}
use Rattle.factor.proofs.moves.move_line.Goals as goal

pub returns : goal.returns
returns c =
    let s = c.before in
    c.move_from.ensures
    ∙ moved-aside (is_inverse s.args.task) s.args.k s.args.s s.args.x.now s.requires.0.order s.requires.0.permutes
    c.copy_line.ensures
