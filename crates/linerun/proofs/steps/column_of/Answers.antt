-- The two runs of entries, told apart by the test.
use Rattle.std.proofs.Common.{sym}
use Rattle.linerun.specs.RowColumns.{column-left, column-right}
use Rattle.linerun.proofs.steps.column_of.Goals as goal

pub returns-then-j-r : goal.returns-then-j-r
returns-then-j-r c = sym (column-left c.args.r c.args.m c.args.j c.if-j-r.true)

pub returns-else-j-r : goal.returns-else-j-r
returns-else-j-r c = sym (column-right c.args.r c.args.m c.args.j c.if-j-r.false)
