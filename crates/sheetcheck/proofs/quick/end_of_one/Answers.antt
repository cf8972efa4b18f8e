-- The number is there, and has no fault. Assumes nothing.
use Rattle.std.proofs.Common.{arith}
use Rattle.sheetcheck.proofs.Rows.{tested}
use Rattle.sheetcheck.proofs.quick.end_of_one.Goals as goal

pub returns : goal.returns
returns c =
    let a = c.args in
    let r = c.check_number in
    record {
      next = (tested a.sheet.now a.what a.p r.result (omega arith) r.ensures c.in_ok-ok.ensures.value).next;
      room = omega arith;
    }
