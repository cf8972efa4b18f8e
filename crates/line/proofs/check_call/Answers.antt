-- The checks in turn (`rule-err`, `sheets-err`, `lengths-told`).
use Rattle.std.proofs.Common.{◌≡◌, sym, ap, ◌∙◌}
use Rattle.std.proofs.lemmas.Result.{err_from_is_err_and}
use Rattle.factor.specs.CallAnswers.{checks_of, rule-err, sheets-err, lengths-told}
use Rattle.laws.specs.Accepted.{order-counts}
use Rattle.rules.specs.Calls.{line}
use Rattle.rules.specs.Results.{answered}
use Rattle.rules.specs.declared.Answer.{Answer}
use Rattle.line.proofs.check_call.Goals as goal
use Rattle.line.proofs.check_call.Goals.{After-check_lengths}

pub returns-in_err-rule : goal.returns-in_err-rule
returns-in_err-rule c =
    let a = c.args in
    let p = err_from_is_err_and c.from_residual.result c.from_residual.ensures.1 in
    rw (p.1, p.2) (rule-err a.rule a.task (line a.s.now) a.x a.y _ c.in_err-rule.ensures, tt)

pub returns-in_err-check_starts : goal.returns-in_err-check_starts
unfolding line
returns-in_err-check_starts c =
    let a = c.args in
    let r = c.from_residual-in_err-check_starts in
    let p = err_from_is_err_and r.result r.ensures.1 in
    rw (p.1, p.2)
    (sheets-err a.rule a.task (line a.s.now) a.x a.y c.in_ok-rule.ensures.0 _ c.in_err-check_starts.ensures.0, tt)

pub count_at-requires : goal.count_at-requires
count_at-requires c = order-counts c.in_ok-check_starts.ensures.1.0

-- what the lengths told, of the plan's size
told : (c : After-check_lengths) →
    let a = c.args in
    answered c.check_lengths.result ≡ checks_of a.rule a.task (line a.s.now) a.x a.y
unfolding line
told c =
    let a = c.args in
    lengths-told a.rule a.task (line a.s.now) a.x a.y c.in_ok-rule.ensures.0 c.check_lengths.result
    (ap (λ (q : Answer). q.number) (sym c.in_ok-check_starts.ensures.0)) (c.check_lengths.ensures ∙ rw c.count_at.ensures)

pub returns-in_err-check_lengths : goal.returns-in_err-check_lengths
returns-in_err-check_lengths c =
    let r = c.from_residual-in_err-check_lengths in
    let p = err_from_is_err_and r.result r.ensures.1 in
    let e = c.in_err-check_lengths.was in
    rw (p.1, p.2) (rw e at (told (goal.at.returns-in_err-check_lengths c).After-check_lengths), tt)

pub returns : goal.returns
returns c =
    let e = c.in_ok-check_lengths.was in (
      rw e at (told (goal.at.returns c).After-check_lengths),
      (c.in_ok-rule.ensures.1, c.in_ok-check_starts.ensures.1.0, c.in_ok-check_starts.ensures.1.1),
    )
