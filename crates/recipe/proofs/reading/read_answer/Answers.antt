-- The first refusal of the two checks, or what fits.
use Rattle.std.proofs.Common.{sym, ◌∙◌}
use Rattle.laws.specs.Results.{passed, err-stops, ok-passes}
use Rattle.recipe.proofs.reading.read_answer.Goals as goal

pub returns-in_err-check_spelling : goal.returns-in_err-check_spelling
returns-in_err-check_spelling c =
    rw (passed c.from_residual.ensures.1) (err-stops c.check_spelling.ensures _ c.in_err-check_spelling.was)

pub returns-in_err-check_numbers : goal.returns-in_err-check_numbers
returns-in_err-check_numbers c =
    rw (passed c.from_residual-in_err-check_numbers.ensures.1)
    (err-stops c.check_numbers.ensures _ c.in_err-check_numbers.was
    ∙ sym (ok-passes c.check_spelling.ensures _ c.in_ok-check_spelling.was))

pub returns : goal.returns
returns c =
    c.fitting.ensures ∙ sym (ok-passes c.check_numbers.ensures _ c.in_ok-check_numbers.was)
    ∙ sym (ok-passes c.check_spelling.ensures _ c.in_ok-check_spelling.was)
