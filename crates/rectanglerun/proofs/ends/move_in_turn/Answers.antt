-- The places are those of the factors in turn (`column-places`, `row-places`).
use Rattle.std.proofs.Common.{◌≡◌, refl, ◌∙◌, arith}
use Rattle.factor.specs.LayoutInSheet.{Paired}
use Rattle.laws.specs.Sound.{counts-agree}
use Rattle.rectanglerun.specs.Turns.{in_turn, row-has, pair-in-turn, column-places, row-places}
use Rattle.rules.specs.Answers.{start}
use Rattle.rules.specs.Numbers.{count}
use Rattle.rectanglerun.proofs.ends.move_in_turn.Goals as goal
use Rattle.rectanglerun.proofs.ends.move_in_turn.Goals.{After-nth_start-j}

pub nth_start-j-requires : goal.nth_start-j-requires
nth_start-j-requires c = row-has c.requires.0 c.args.run.task _ c.requires.1

-- where the row sheet's factor starts
row-start : (c : After-nth_start-j) → let a = c.args in
    c.nth_start-j.result ≡ start a.row.now.numbers.now (in_turn a.col.now.numbers.now a.run.task a.t)
row-start c = c.nth_start-j.ensures ∙ rw (counts-agree _ _ c.requires.0.match)

pair :
    (c : After-nth_start-j) →
    let x = c.args.col.now.numbers.now in
    let y = c.args.row.now.numbers.now in
    Paired x y (count x 0) (count y 0) c.nth_start-i.result c.nth_start-j.result
pair c = pair-in-turn c.requires.0 c.args.run.task _ c.requires.1 refl refl c.nth_start-i.ensures c.nth_start-j.ensures

pub overflow_add-i : goal.overflow_add-i
overflow_add-i c = let h = (pair (goal.at.overflow_add-i c).After-nth_start-j).column.kind.there in omega arith

pub overflow_add-j : goal.overflow_add-j
overflow_add-j c = let h = (pair (goal.at.overflow_add-j c).After-nth_start-j).row.kind.there in omega arith

pub move_into-requires : goal.move_into-requires
move_into-requires c =
    let p = c.requires in
    let j = row-start (goal.at.move_into-requires c).After-nth_start-j in
    rw (c.nth_start-i.ensures, j, c.order.ensures, c.order-2.ensures) (
      column-places p.0 c.args.run _ p.1 p.2,
      row-places p.0 c.args.run _ p.1 p.2,
      p.3,
      p.4,
    )

pub returns : goal.returns
returns c =
    rw (c.nth_start-i.ensures, row-start (goal.at.returns c).After-nth_start-j, c.order.ensures, c.order-2.ensures) at
    c.move_into.ensures
