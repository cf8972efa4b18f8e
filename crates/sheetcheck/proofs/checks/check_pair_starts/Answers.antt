-- The first answer that is a refusal: that of the two sheets, then 12, for which both sheets are accepted. Assumes nothing.
use Rattle.std.proofs.Common.{sym, ◌∙◌}
use Rattle.laws.specs.AnswersInTurn.{in-turn}
use Rattle.laws.specs.Results.{passed, on-any, err-stops, ok-passes}
use Rattle.rules.specs.Answers.{pair_checked}
use Rattle.sheetcheck.proofs.checks.check_pair_starts.Goals as goal

pub returns-in_err-check_two_starts : goal.returns-in_err-check_two_starts
unfolding pair_checked
returns-in_err-check_two_starts c =
    let d = c.check_two_starts.ensures.0 in
    rw (passed c.from_residual.ensures.1)
    (err-stops d _ c.in_err-check_two_starts.was ∙ sym (in-turn _ _ _), tt)

pub returns : goal.returns
unfolding pair_checked
returns c =
    let d = c.check_two_starts.ensures.0 in (
      c.check_match.ensures ∙ sym (in-turn _ _ _ ∙ ok-passes d _ c.in_ok-check_two_starts.was),
      on-any c.check_match.result c.in_ok-check_two_starts.ensures.1,
    )
