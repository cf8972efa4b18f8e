-- How many bytes a code takes: one, two or three groups.
use Rattle.std.proofs.Common.{arith}
use Rattle.recipebytes.specs.Spelling.{spell-1, spell-2, spell-3}
use Rattle.recipebytes.proofs.number.code_size.Goals as goal

pub returns-then-u-lt-GROUP : goal.returns-then-u-lt-GROUP
returns-then-u-lt-GROUP c = rw (spell-1 _ c.if-u-lt-GROUP.true)

pub returns-then-u-lt-TWO_GROUPS : goal.returns-then-u-lt-TWO_GROUPS
returns-then-u-lt-TWO_GROUPS c = rw (spell-2 c.args.u c.if-u-lt-GROUP.false (omega arith))

pub returns-else-u-lt-TWO_GROUPS : goal.returns-else-u-lt-TWO_GROUPS
returns-else-u-lt-TWO_GROUPS c = rw (spell-3 c.args.u c.if-u-lt-GROUP.false (omega arith))
