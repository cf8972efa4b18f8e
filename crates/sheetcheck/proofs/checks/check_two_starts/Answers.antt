-- The first answer that is a refusal: column sheet, then row sheet. Assumes nothing.
use Rattle.std.proofs.Common.{sym, ◌∙◌}
use Rattle.std.proofs.lemmas.Result.{on_ok_weaker}
use Rattle.laws.specs.Results.{passed, err-stops, ok-passes}
use Rattle.sheetcheck.proofs.checks.check_two_starts.Goals as goal

pub returns-in_err-check_side : goal.returns-in_err-check_side
returns-in_err-check_side c =
    rw (passed c.from_residual.ensures.1) (err-stops c.check_side.ensures.0 _ c.in_err-check_side.was, tt)

pub returns : goal.returns
returns c =
    let col = c.in_ok-check_side.ensures.1 in (
      c.check_side-2.ensures.0 ∙ sym (ok-passes c.check_side.ensures.0 _ c.in_ok-check_side.was),
      on_ok_weaker c.check_side-2.result (λ row. (col.0, col.1, row.0, row.1)) c.check_side-2.ensures.1,
    )
