-- The diagonal, no entry, or an entry: each stands where the layout says (`on-diagonal`, `no-entry`, `entry_at_lem`).
use Rattle.std.proofs.Common.{true, ◌≡◌, sym, ◌∙◌, ◌+◌, ◌<◌, arith, pos, ◌*ℤ◌, length, w32, w64, to_z, of_z}
use Rattle.offender.specs.FactorMatrix.{sign-there, on-diagonal, no-entry, entry-there, entry_at_lem, matrix-small}
use Rattle.rules.specs.Factors.{factor_at, has_entry, matrix}
use Rattle.rules.specs.Numbers.{unit, at}
use Rattle.whole.specs.Machine.{fits, reads, back}
use Rattle.offender.proofs.weights.matrix_at.Goals as goal
use Rattle.offender.proofs.weights.matrix_at.Goals.{After-entries_before, After-from, Else-not-has_entry, Then-m-k}

-- ---- the diagonal
sign-inside : (c : Then-m-k) →
    c.layout_at-f.result.signs + c.args.m < length c.args.sheet.now
sign-inside c =
    sign-there c.requires.0 c.layout_at-f.ensures c.args.m c.requires.1

pub overflow_add-f : goal.overflow_add-f
overflow_add-f c = let h = sign-inside (goal.at.overflow_add-f c).Then-m-k in omega arith

pub offset_bounds-sheet-f : goal.offset_bounds-sheet-f
offset_bounds-sheet-f c = let h = sign-inside (goal.at.offset_bounds-sheet-f c).Then-m-k in omega arith

pub bounds-sheet-f : goal.bounds-sheet-f
bounds-sheet-f c = sign-inside (goal.at.bounds-sheet-f c).Then-m-k

-- the sign, as it was read, gives the diagonal's number
diagonal : (c : After-from) →
    pos unit *ℤ to_z w64 (of_z w64 c.from.result) ≡ matrix (factor_at c.args.sheet.now c.args.n c.args.i) c.args.m c.args.k
diagonal c =
    let v : to_z w64 (of_z w64 c.from.result) ≡ at c.args.sheet.now (c.layout_at-f.result.signs + c.args.m) =
    back w64 _ c.from.type_inv ∙ c.from.ensures ∙ back w32 _ c.from-arg-1.given in
    rw v (on-diagonal c.requires.0 c.layout_at-f.ensures c.args.m c.args.k c.if-m-k.true)

pub overflow_mul-result : goal.overflow_mul-result
overflow_mul-result c =
    rw (diagonal (goal.at.overflow_mul-result c).After-from)
    (fits (matrix-small c.requires.0 c.args.m c.args.k c.requires.1 c.requires.2) tt)

pub returns-then-m-k : goal.returns-then-m-k
returns-then-m-k c =
    rw (diagonal (goal.at.returns-then-m-k c).After-from)
    (reads w64 (matrix-small c.requires.0 c.args.m c.args.k c.requires.1 c.requires.2) tt)

pub returns-then-not-has_entry : goal.returns-then-not-has_entry
returns-then-not-has_entry c =
    no-entry c.requires.0 c.layout_at-f.ensures c.args.m c.args.k c.if-m-k.false
    (sym c.has_entry.ensures ∙ c.if-not-has_entry.true)

has : (c : Else-not-has_entry) →
    let f = c.layout_at-f.result in
    has_entry f.kind f.row c.args.m c.args.k ≡ true
has c = sym c.has_entry.ensures ∙ c.if-not-has_entry.false

entry-inside : (c : After-entries_before) →
    c.layout_at-f.result.entries + c.entries_before.result < length
    c.args.sheet.now
entry-inside c =
    rw c.entries_before.ensures
    (entry-there c.requires.0 c.layout_at-f.ensures c.args.m c.args.k c.if-m-k.false c.requires.1 c.requires.2
    (has c.before))

pub overflow_add-f-2 : goal.overflow_add-f-2
overflow_add-f-2 c = let h = entry-inside (goal.at.overflow_add-f-2 c).After-entries_before in omega arith

pub offset_bounds-sheet-f-2 : goal.offset_bounds-sheet-f-2
offset_bounds-sheet-f-2 c =
    let h = entry-inside (goal.at.offset_bounds-sheet-f-2 c).After-entries_before in omega arith

pub bounds-sheet-f-2 : goal.bounds-sheet-f-2
bounds-sheet-f-2 c = entry-inside (goal.at.bounds-sheet-f-2 c).After-entries_before

pub returns : goal.returns
returns c =
    let f = c.layout_at-f.result in
    let v : to_z w64 (of_z w64 c.from-2.result) ≡ at c.args.sheet.now (f.entries + c.entries_before.result) =
    back w64 _ c.from-2.type_inv ∙ c.from-2.ensures ∙ back w32 _ c.from-arg-2-1.given in
    rw (v, c.entries_before.ensures)
    (entry_at_lem c.requires.0 c.layout_at-f.ensures c.args.m c.args.k c.if-m-k.false (has (goal.at.returns c).Else-not-has_entry))
