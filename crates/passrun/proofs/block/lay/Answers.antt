-- Nothing is lent, and the block stays all 0 (`laid-zeros`); or the numbers are copied to their lines (`Laid-in`).
use Rattle.std.proofs.Common.{ap, length}
use Rattle.passrun.specs.BlockLaws.{lent-all, laid-nothing, laid-columns, laid-rows, from-columns, from-rows, into-lines}
use Rattle.passrun.proofs.block.lay.Goals as goal

pub returns-then-x-eq0 : goal.returns-then-x-eq0
returns-then-x-eq0 c =
    let a = c.args in laid-nothing a.columns a.many a.long a.x.now c.if-x-eq0.true c.requires.3

pub copy_lines-requires : goal.copy_lines-requires
copy_lines-requires c =
    let a = c.args in
    let l = rw c.if-columns.true at (lent-all a.x.now c.requires.2 c.if-x-eq0.false) in (
      from-columns a.many a.long c.requires.0 c.requires.1 l,
      into-lines a.many a.long c.requires.0 c.requires.1 (ap length c.requires.3),
    )

pub returns-then-columns : goal.returns-then-columns
returns-then-columns c =
    let a = c.args in
    let l = rw c.if-columns.true at (lent-all a.x.now c.requires.2 c.if-x-eq0.false) in
    rw c.if-columns.true
    (laid-columns a.many a.long a.x.now c.requires.0 c.requires.1 l c.requires.3 c.copy_lines.ensures)

pub copy_lines-requires-2 : goal.copy_lines-requires-2
copy_lines-requires-2 c =
    let a = c.args in
    let l = rw c.if-columns.false at (lent-all a.x.now c.requires.2 c.if-x-eq0.false) in (
      from-rows a.many a.long c.requires.0 c.requires.1 l,
      into-lines a.many a.long c.requires.0 c.requires.1 (ap length c.requires.3),
    )

pub returns : goal.returns
returns c =
    let a = c.args in
    let f = c.if-columns.false in
    let l = rw f at (lent-all a.x.now c.requires.2 c.if-x-eq0.false) in
    rw f (laid-rows a.many a.long a.x.now c.requires.0 c.requires.1 l c.requires.3 c.copy_lines-2.ensures)
