-- Invariant: if none had a fault so far, the first k numbers were seen. Assumes nothing.
use Rattle.std.proofs.Common.{◌≡◌, arith}
use Rattle.sheetcheck.proofs.Rows.{fine_more, saw-all}
use Rattle.sheetcheck.proofs.quick.are_fine.Goals as goal

pub loop-k-preserved : goal.loop-k-preserved
loop-k-preserved c t =
    let l = c.loop-k in
    let a = c.args in
    let r = c.check_number in
    let h = rw c.is_ok-fine.ensures.value at t in
    fine_more a.sheet.now a.what a.p l.k l.fine r.result (omega arith) r.ensures l.invariant h

pub returns : goal.returns
returns c t =
    let l = c.loop-k in
    let a = c.args in
    let e : l.k ≡ a.m = omega arith in
    saw-all a.sheet.now a.what a.m a.p c.requires (rw e at (l.invariant t))
