-- The row is turned, and the one sum is of the row as turned: what it looks at is recovered then (`undone-row`).
use Rattle.std.proofs.Common.{rules, ◌≡◌, refl, ◌∙◌, ◌+◌, ◌*◌, ◌≤◌, arith, ℤ, length, w32, w64, to_z, of_z}
use Rattle.factor.specs.Rounding.{rule_by}
use Rattle.factor.specs.SumBounds.{Bounded}
use Rattle.joint.specs.Elements.{sign_at}
use Rattle.rules.specs.Numbers.{bound, at}
use Rattle.singlerows.specs.LaidRows.{laid-room, laid-column, laid-given, laid-narrow, laid-turned, undone-laid}
use Rattle.singlerows.specs.SingleRows.{beside_sum, undone_beside, Turned}
use Rattle.singlerows.specs.SingleRowsInPlace.{row-kept, turned-small, undone-row, undone-stops}
use Rattle.whole.specs.Diff.{Within}
use Rattle.whole.specs.Machine.{reads, back}
use Rattle.singlerows.proofs.undo_beside.Goals as goal
use Rattle.singlerows.proofs.undo_beside.Goals.{After-sign_at-d, After-turn_row, After-undone_beside-z, After-keep, Start}

-- the sign of the row
abbrev D : Start → ℤ
D s = sign_at s.args.col.now s.args.fa s.args.i

sign : (c : After-sign_at-d) → to_z w32 (of_z w32 c.sign_at-d.result) ≡ D c.before
sign c = back w32 _ c.sign_at-d.type_inv ∙ c.sign_at-d.ensures

pub turn_row-requires : goal.turn_row-requires
turn_row-requires c =
    let a = c.requires.0 in
    rw (sign (goal.at.turn_row-requires c).After-sign_at-d) (laid-given a c.requires.3 a.small, a.long)

turned : (c : After-turn_row) →
    Turned (sign_at c.args.row.now c.args.fb) (sign_at c.args.col.now c.args.fa c.args.i)
    (c.args.i * c.args.fb.order) c.args.fb.order c.args.x.now c.turn_row.new.x
turned c =
    laid-turned c.requires.0 c.requires.3 (rw (sign c.before.before.before) at c.turn_row.ensures)

small : (c : After-turn_row) → Bounded bound c.turn_row.new.x
small c =
    let a = c.requires.0 in
    turned-small (turned c) (a.column.sign c.args.i a.below) a.row.sign a.small

number : (s : Start) → Within bound (at s.args.x.now (s.args.i * s.args.n + s.args.fb.row))
number s = s.requires.0.small.small _

pub undone_beside-z-requires : goal.undone_beside-z-requires
undone_beside-z-requires c =
    let g = goal.at.undone_beside-z-requires c in
    let t = small g.After-turn_row in
    let a = c.requires.0 in
    let l = c.requires.3 in
    rw (sign g.After-sign_at-d, reads w32 (number g.Start) tt)
    (laid-given a l t, laid-narrow a l c.requires.1 t, laid-column a l, number g.Start)

-- what its element in column q was
abbrev Z : After-turn_row → ℤ
Z c =
    let k = c.args.i * c.args.fb.order in
    let q = c.args.fb.row in
    undone_beside (rule_by c.args.down c.args.even) (sign_at c.args.col.now c.args.fa c.args.i)
    (sign_at c.args.row.now c.args.fb q)
    (beside_sum c.args.row.now c.args.fb q k c.turn_row.new.x) (at c.args.x.now (k + q))

value : (c : After-undone_beside-z) → to_z w64 (of_z w64 c.undone_beside-z.result) ≡ Z c.before
value c =
    let g = c.before.before.before.before in
    back w64 _ c.undone_beside-z.type_inv ∙ c.undone_beside-z.ensures
    ∙ rw (sign g, reads w32 (number g.before) tt)
    (undone-laid c.requires.0 c.requires.3 (rule_by c.args.down c.args.even) c.requires.1 c.args.x.now _)

room : (s : Start) → s.args.i * s.args.fb.order + s.args.fb.order ≤ length s.args.x.now
room s =
    let a = s.requires.0 in
    let l = s.requires.3 in
    let h = rw l.order at (laid-room a l) in omega (arith, a.long)

long : (c : After-keep) → length c.keep.new.x ≡ length c.args.x.now
long c = search rules

pub returns : goal.returns
returns c =
    let g = goal.at.returns c in
    let t = turned g.After-turn_row in
    let a = c.requires.0 in
    row-kept (rw (value g.After-undone_beside-z, c.requires.3.order) at c.keep.ensures) (long g.After-keep)
    (small g.After-turn_row)
    (undone-row (rule_by c.args.down c.args.even) c.args.col.now c.args.fa c.args.i (a.alike ∙ c.requires.1)
    c.requires.2 c.requires.1
    a.row a.low c.args.x.now (room g.Start) t refl)
    (undone-stops (rule_by c.args.down c.args.even) c.args.col.now c.args.fa c.args.i
    (a.alike ∙ c.requires.1) c.requires.2 c.requires.1
    a.row a.low c.args.x.now (room g.Start) t refl)
