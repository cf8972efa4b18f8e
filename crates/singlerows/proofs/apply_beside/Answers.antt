-- The row is turned, and the one sum that it looks at was made before (`applied-row`).
use Rattle.std.proofs.Common.{rules, length, ◌≡◌, refl, ◌∙◌, ◌+◌, ◌*◌, arith, ℤ, w32, w64, to_z, of_z}
use Rattle.factor.specs.Rounding.{rule_by}
use Rattle.joint.specs.Elements.{sign_at, applied_of}
use Rattle.singlerows.specs.LaidRows.{laid-room, laid-column, laid-given, laid-narrow, laid-turned, applied-laid}
use Rattle.singlerows.specs.SingleRows.{Turned}
use Rattle.singlerows.specs.SingleRowsInPlace.{row-kept, turned-small, applied-row}
use Rattle.whole.specs.Machine.{back}
use Rattle.singlerows.proofs.apply_beside.Goals as goal
use Rattle.singlerows.proofs.apply_beside.Goals.{After-applied_beside-z, After-sign_at-d, After-turn_row, After-keep, Start}

-- the sign of the row
abbrev D : Start → ℤ
D s = sign_at s.args.col.now s.args.fa s.args.i

sign : (c : After-sign_at-d) → to_z w32 (of_z w32 c.sign_at-d.result) ≡ D c.before
sign c = back w32 _ c.sign_at-d.type_inv ∙ c.sign_at-d.ensures

pub applied_beside-z-requires : goal.applied_beside-z-requires
applied_beside-z-requires c =
    let a = c.requires.0 in
    let l = c.requires.3 in
    rw (sign (goal.at.applied_beside-z-requires c).After-sign_at-d)
    (laid-given a l a.small, laid-narrow a l c.requires.1 a.small, laid-column a l)

-- what its element in column q becomes
abbrev Z : Start → ℤ
Z s =
    applied_of (rule_by s.args.down s.args.even) s.args.col.now s.args.fa s.args.row.now s.args.fb
    s.args.x.now
    (s.args.i * s.args.fb.order + s.args.fb.row)

value : (c : After-applied_beside-z) → to_z w64 (of_z w64 c.applied_beside-z.result) ≡ Z c.before.before
value c =
    back w64 _ c.applied_beside-z.type_inv ∙ c.applied_beside-z.ensures
    ∙ rw (sign c.before) (applied-laid c.requires.0 c.requires.3 (rule_by c.args.down c.args.even) c.requires.1
    c.requires.2)

pub turn_row-requires : goal.turn_row-requires
turn_row-requires c =
    let a = c.requires.0 in
    rw (sign (goal.at.turn_row-requires c).After-sign_at-d) (laid-given a c.requires.3 a.small, a.long)

turned : (c : After-turn_row) →
    Turned (sign_at c.args.row.now c.args.fb) (sign_at c.args.col.now c.args.fa c.args.i)
    (c.args.i * c.args.fb.order) c.args.fb.order c.args.x.now c.turn_row.new.x
turned c =
    laid-turned c.requires.0 c.requires.3 (rw (sign c.before.before.before) at c.turn_row.ensures)

long : (c : After-keep) → length c.keep.new.x ≡ length c.args.x.now
long c = search rules

pub returns : goal.returns
returns c =
    let g = goal.at.returns c in
    let a = c.requires.0 in
    let l = c.requires.3 in
    let t = turned g.After-turn_row in
    row-kept (rw (value g.After-applied_beside-z, l.order) at c.keep.ensures) (long g.After-keep)
    (turned-small t (a.column.sign c.args.i a.below) a.row.sign a.small)
    (applied-row (rule_by c.args.down c.args.even) c.args.col.now c.args.fa c.args.i (a.alike ∙ c.requires.1)
    c.requires.2 c.requires.1
    a.row a.low c.args.x.now (let r = rw l.order at (laid-room a l) in omega (arith, a.long)) t refl)
    (λ far. record { turn = c.args.fb.row; before = a.low; far = far })
