-- A faulty sheet's refusal, or what fits.
use Rattle.std.proofs.Common.{sym, ◌∙◌}
use Rattle.laws.specs.Results.{passed, err-stops, ok-passes}
use Rattle.recipe.proofs.writing.write_answer.Goals as goal

pub returns-in_err-check : goal.returns-in_err-check
returns-in_err-check c = rw (passed c.from_residual.ensures.1) (err-stops c.check.ensures _ c.in_err-check.was)

pub returns : goal.returns
returns c = rw c.packed_size.ensures at c.fitting.ensures ∙ sym (ok-passes c.check.ensures _ c.in_ok-check.was)
