-- By the side of the row's own column on which it stands (`entry-left`, `entry-own`, `entry-right`).
use Rattle.std.proofs.Common.{sym, ◌+◌, ◌-◌, ◌<◌, arith, length, w32}
use Rattle.singlerows.specs.LaidRows.{entry-left, entry-own, entry-right, entry-there, entry-small}
use Rattle.whole.specs.Machine.{reads}
use Rattle.singlerows.proofs.entry_in.Goals as goal
use Rattle.singlerows.proofs.entry_in.Goals.{Else-j-q-2, Then-j-q}

-- left of it
left : (c : Then-j-q) → c.args.f.entries + c.args.j < length c.args.row.now
left c =
    let l = c.if-j-q.true in
    let o = c.requires.2 in entry-there c.requires.0 c.requires.1 c.requires.2 c.args.j (omega arith)

pub overflow_add-result : goal.overflow_add-result
overflow_add-result c = let h = left (goal.at.overflow_add-result c).Then-j-q in omega arith

pub offset_bounds-row-entries : goal.offset_bounds-row-entries
offset_bounds-row-entries c = let h = left (goal.at.offset_bounds-row-entries c).Then-j-q in omega arith

pub bounds-row-entries : goal.bounds-row-entries
bounds-row-entries c = left (goal.at.bounds-row-entries c).Then-j-q

pub returns-then-j-q : goal.returns-then-j-q
returns-then-j-q c =
    rw (← (entry-left c.args.row.now c.args.f c.args.j c.if-j-q.true))
    (reads w32 (entry-small c.requires.0 c.requires.1 c.requires.2 c.args.j c.requires.3) tt)

pub returns-then-j-q-2 : goal.returns-then-j-q-2
returns-then-j-q-2 c = sym (entry-own c.args.row.now c.args.f c.args.j c.if-j-q-2.true)

-- right of it
beyond : (c : Else-j-q-2) → c.args.f.row < c.args.j
beyond c = omega arith

right : (c : Else-j-q-2) → c.args.f.entries + (c.args.j - 1) < length c.args.row.now
right c =
    let l = beyond c in
    let o = c.requires.3 in entry-there c.requires.0 c.requires.1 c.requires.2 (c.args.j - 1) (omega arith)

pub overflow_add-result-2 : goal.overflow_add-result-2
overflow_add-result-2 c = let h = right (goal.at.overflow_add-result-2 c).Else-j-q-2 in omega arith

pub offset_bounds-row-entries-2 : goal.offset_bounds-row-entries-2
offset_bounds-row-entries-2 c = let h = right (goal.at.offset_bounds-row-entries-2 c).Else-j-q-2 in omega arith

pub bounds-row-entries-2 : goal.bounds-row-entries-2
bounds-row-entries-2 c = right (goal.at.bounds-row-entries-2 c).Else-j-q-2

pub returns : goal.returns
returns c =
    rw (← (entry-right c.args.row.now c.args.f c.args.j (beyond (goal.at.returns c).Else-j-q-2)))
    (reads w32 (entry-small c.requires.0 c.requires.1 c.requires.2 c.args.j c.requires.3) tt)
