-- A row without entries is turned (`row-turned`), another is made of its sums (`row-summed`).
use Rattle.std.proofs.Common.{◌≡◌, ◌+◌, ◌*◌, arith, w32, to_z, of_z}
use Rattle.factor.specs.Layouts.{row_of}
use Rattle.factor.specs.Rounding.{rule_by}
use Rattle.passstage.specs.Parts.{whole, rest, Raised, zeros, parts_sum, together, together-wide}
use Rattle.passstage.specs.RowLaws.{left-parting, right-parting, sums-small, sums-along, row-given, row-turned, row-summed}
use Rattle.rules.specs.Numbers.{most_order, at}
use Rattle.rules.specs.declared.Rule.{Rule}
use Rattle.whole.specs.Machine.{reads, sign-within}
use Rattle.passstage.proofs.rows.take_row.Goals as goal
use Rattle.passstage.proofs.rows.take_row.Goals.{After-add_columns, After-add_columns-2, Start}

-- the sign of the row, as it was read
sign : (s : Start) → let z = at s.args.sheet.now (s.args.f.signs + s.args.m) in to_z w32 (of_z w32 z) ≡ z
sign s = reads w32 (sign-within (s.requires.0.sign s.args.m s.requires.1)) tt

abbrev K : Start → Rule
K s = rule_by s.args.down s.args.even

pub returns-then-r-eq0 : goal.returns-then-r-eq0
returns-then-r-eq0 c =
    let s = (goal.at.returns-then-r-eq0 c).Start in
    row-turned c.args.back (K s) c.requires.0 c.args.m c.requires.1 c.requires.3 c.args.w c.requires.2 c.requires.4
    (rw c.row_of-r.ensures at c.if-r-eq0.true) (rw (sign s) at c.turn_row.ensures)

pub add_columns-requires : goal.add_columns-requires
add_columns-requires c = rw c.row_of-r.ensures (left-parting c.requires.0 c.args.m c.requires.1 c.requires.3)

-- the sums of the entries on the left
left : (c : After-add_columns) → let r = row_of c.args.f c.args.m in
    Raised (together c.args.w) (parts_sum whole c.args.sheet.now r.at r.left c.args.x.now 0)
    (parts_sum rest c.args.sheet.now r.at r.left c.args.x.now 0) zeros
    c.add_columns.new.v
left c = rw c.row_of-r.ensures at c.add_columns.ensures

pub add_columns-requires-2 : goal.add_columns-requires-2
add_columns-requires-2 c =
    rw c.row_of-r.ensures
    (right-parting c.requires.0 c.args.m c.requires.1 c.requires.3 (left (goal.at.add_columns-requires-2 c).After-add_columns))

-- and on the right
right : (c : After-add_columns-2) → let r = row_of c.args.f c.args.m in
    Raised (together c.args.w)
    (parts_sum whole c.args.sheet.now (r.at + r.left) r.right c.args.x.now ((c.args.m + 1) * most_order))
    (parts_sum rest c.args.sheet.now (r.at + r.left) r.right c.args.x.now ((c.args.m + 1) * most_order))
    c.add_columns.new.v c.add_columns-2.new.v
right c = rw c.row_of-r.ensures at c.add_columns-2.ensures

pub make_numbers-requires : goal.make_numbers-requires
make_numbers-requires c =
    let a = left (goal.at.make_numbers-requires c).After-add_columns in
    let b = right (goal.at.make_numbers-requires c).After-add_columns-2 in (
      rw (sign (goal.at.make_numbers-requires c).Start)
          (row-given c.requires.0 c.args.m c.requires.1 c.requires.3 c.args.w c.requires.2 c.requires.4),
      sums-small c.requires.0 c.args.m c.requires.1 c.requires.3 a b,
    )

pub returns : goal.returns
returns c =
    let s = (goal.at.returns c).Start in
    let w = together-wide c.args.w c.requires.2 in
    let a = left (goal.at.returns c).After-add_columns in
    let b = right (goal.at.returns c).After-add_columns-2 in
    row-summed c.args.back (K s) c.requires.0 c.args.m c.requires.1 c.requires.3 c.args.w c.requires.2
    c.add_columns-2.new.v
    (λ i l. sums-along c.requires.0 c.args.m c.requires.1 c.requires.3 a b i (omega (arith, w.0)) w.1)
    (rw (sign s) at c.make_numbers.ensures)
