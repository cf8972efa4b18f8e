-- Rows 16 apart are closed up (`read-columns`); where the lines are rows, they are turned to that first (`read-rows`).
use Rattle.passrun.specs.BlockLaws.{read-columns, read-rows}
use Rattle.passrun.proofs.block.read_off.Goals as goal

pub returns-then-columns : goal.returns-then-columns
returns-then-columns c =
    let a = c.args in
    rw c.if-columns.true (read-columns a.many a.long c.requires.0 c.requires.1 c.requires.2 c.close_rows.ensures)

pub returns : goal.returns
returns c =
    let a = c.args in
    rw c.if-columns.false
    (read-rows a.many a.long c.requires.0 c.requires.1 c.requires.2 c.turn.ensures c.close_rows-2.ensures)
