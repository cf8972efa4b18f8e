-- Each branch has its own number of lines.
use Rattle.passstage.specs.Parts.{together-4, together-8, together-16}
use Rattle.passstage.proofs.sums.add_columns.Goals as goal

pub returns-then-w-le4 : goal.returns-then-w-le4
returns-then-w-le4 c =
    rw (together-4 c.args.w c.if-w-le4.true) at c.add_entries.ensures

pub returns-then-w-le8 : goal.returns-then-w-le8
returns-then-w-le8 c =
    rw (together-8 c.args.w c.if-w-le4.false c.if-w-le8.true) at c.add_entries-then-w-le8.ensures

pub returns-else-w-le8 : goal.returns-else-w-le8
returns-else-w-le8 c =
    rw (together-16 c.args.w c.if-w-le4.false c.if-w-le8.false) at c.add_entries-else-w-le8.ensures
