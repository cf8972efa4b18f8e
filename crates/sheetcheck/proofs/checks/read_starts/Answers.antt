-- A sheet that passes the quick test is read to its end. Else the readers tell. Assumes nothing.
use Rattle.std.proofs.Common.{sym}
use Rattle.laws.specs.Accepted.{reading-accepted}
use Rattle.sheetcheck.proofs.Readings.{read-accepted}
use Rattle.sheetcheck.proofs.checks.read_starts.Goals as goal

pub returns-then-is_faultless : goal.returns-then-is_faultless
returns-then-is_faultless c = let h = c.is_faultless.ensures.1 c.if-is_faultless.true in (sym (reading-accepted h.0), h)

pub returns : goal.returns
returns c =
    let r = c.read_sheet.ensures in
    (r.0, read-accepted _ _ c.read_sheet.result r.0 r.1)
