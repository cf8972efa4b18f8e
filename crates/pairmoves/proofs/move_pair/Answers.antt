-- The rows and then the columns take every number where the pair of permutations says (`pair-moved`).
use Rattle.std.proofs.Common.{arith}
use Rattle.factor.specs.Tasks.{is_inverse}
use Rattle.pairmoves.specs.Moves.{source_of, few, rows, columns, pair-moved}
use Rattle.pairmoves.proofs.move_pair.Goals as goal

pub move_lines-requires : goal.move_lines-requires
move_lines-requires c =
    let p = c.requires in (p.1, rows _ _ _ (omega (arith, few p.0 p.1)))

pub move_lines-requires-2 : goal.move_lines-requires-2
move_lines-requires-2 c =
    let p = c.requires in
    let o = p.1.order in (p.0, columns _ _ _ (omega arith) (omega (arith, few p.0 p.1)))

pub returns : goal.returns
unfolding source_of
returns c =
    pair-moved (is_inverse c.args.task) c.args.fa.order c.args.fb.order c.requires.0.permutes c.requires.1.permutes
    (omega (arith, few c.requires.0 c.requires.1)) c.move_lines.ensures
    c.move_lines-2.ensures
