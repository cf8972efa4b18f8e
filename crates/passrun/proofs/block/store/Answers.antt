-- The numbers of every line, from side by side to reading order (`out-columns`, `out-rows`).
use Rattle.std.proofs.Common.{◌∙◌}
use Rattle.passrun.specs.BlockLaws.{from-columns, from-rows, into-lines, out-columns, out-rows}
use Rattle.passrun.proofs.block.store.Goals as goal

pub copy_lines-requires : goal.copy_lines-requires
copy_lines-requires c =
    let a = c.args in (
      into-lines a.many a.long c.requires.0 c.requires.1 c.requires.2,
      from-columns a.many a.long c.requires.0 c.requires.1 (rw c.if-columns.true at c.requires.3),
    )

pub returns-then-columns : goal.returns-then-columns
returns-then-columns c =
    let a = c.args in
    rw c.if-columns.true (c.copy_lines.ensures
    ∙ out-columns a.many a.long a.b.now a.y.now c.requires.0 c.requires.1 (rw c.if-columns.true at c.requires.3))

pub copy_lines-requires-2 : goal.copy_lines-requires-2
copy_lines-requires-2 c =
    let a = c.args in (
      into-lines a.many a.long c.requires.0 c.requires.1 c.requires.2,
      from-rows a.many a.long c.requires.0 c.requires.1 (rw c.if-columns.false at c.requires.3),
    )

pub returns : goal.returns
returns c =
    let a = c.args in
    rw c.if-columns.false (c.copy_lines-2.ensures
    ∙ out-rows a.many a.long a.b.now a.y.now c.requires.0 c.requires.1 (rw c.if-columns.false at c.requires.3))
