-- Invariant: the first k places were seen, and each of them is marked. Assumes nothing.
use Rattle.std.proofs.Common.{◌≡◌, ◌∙◌, ◌+◌, ◌<◌, arith, length-set}
use Rattle.laws.specs.Accepted.{row_is, row_counts}
use Rattle.laws.specs.Readers.{Seen}
use Rattle.rules.specs.declared.Item.TheVariants.{Row}
use Rattle.sheetcheck.proofs.Marks.{marked_more}
use Rattle.sheetcheck.proofs.Rows.{tested, saw-all}
use Rattle.sheetcheck.proofs.quick.end_of_places.Goals as goal
use Rattle.sheetcheck.proofs.quick.end_of_places.Goals.{After-count_at-place, In_ok-ok}

-- a number of 0 to n - 1
row :
    (c : In_ok-ok) →
    let a = c.args in Seen a.sheet.now (Row a.n) (a.p + c.loop-k.k)
row c =
    let r = c.check_number in
    tested _ _ _ r.result (omega (arith, c.in_ok-end.ensures)) r.ensures c.in_ok-ok.ensures.value

pub count_at-place-requires : goal.count_at-place-requires
count_at-place-requires c = row_counts (row (goal.at.count_at-place-requires c).In_ok-ok)

low : (c : After-count_at-place) → c.count_at-place.result < 16
low c = let b = (row_is (row c.before)).1 in omega (arith, c.count_at-place.ensures)

pub bounds-used-place : goal.bounds-used-place
bounds-used-place c = low (goal.at.bounds-used-place c).After-count_at-place

pub bounds-used-place-in-loop-k : goal.bounds-used-place-in-loop-k
bounds-used-place-in-loop-k c = low (goal.at.bounds-used-place-in-loop-k c).After-count_at-place

pub loop-k-preserved : goal.loop-k-preserved
loop-k-preserved c =
    let a = c.args in
    let e = c.count_at-place.ensures in
    let free = rw e at c.if-used-place.false in
    let r = row (goal.at.loop-k-preserved c).In_ok-ok in
    let h = marked_more a.p c.loop-k.k (omega arith) r free c.loop-k.invariant.0 in
    (rw e h, length-set c.loop-k.used _ _ ∙ c.loop-k.invariant.1)

pub returns : goal.returns
returns c =
    let a = c.args in
    let e : c.loop-k.k ≡ a.n = omega arith in
    let f = c.in_ok-end.ensures in
    rw f.0 (saw-all a.sheet.now _ a.n a.p (omega (arith, f)) (rw e at c.loop-k.invariant.0.each))
