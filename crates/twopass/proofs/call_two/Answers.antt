-- The checks refuse (`call-err`), or nothing is left but the run (`call-runs`).
use Rattle.std.proofs.Common.{◌≡◌, ◌*◌, length, sym, ap, ◌∙◌, mul-le-mul, arith}
use Rattle.laws.specs.Accepted.{accepted-order}
use Rattle.laws.specs.Results.{passed}
use Rattle.rules.specs.declared.Answer.{Answer}
use Rattle.rules.specs.Results.{answered}
use Rattle.factor.specs.CallAnswers.{checks_of, rule-err, sheets-err, lengths-told, call-err, call-fine, call-runs}
use Rattle.factor.specs.Tasks.{inputs_of}
use Rattle.twopass.specs.Plans.{two_by, two_size_lem, two-stages, two-orders}
use Rattle.twopass.proofs.call_two.Goals as goal
use Rattle.twopass.proofs.call_two.Goals.{After-check_lengths}

pub returns-in_err-rule : goal.returns-in_err-rule
returns-in_err-rule c =
    let a = c.args in
    let p = two_by a.columns a.first.now a.second.now in
    rw (passed c.from_residual.ensures.1)
    (call-err a.rule a.task p a.x.now a.y.now c.requires.1 _ (rule-err a.rule a.task p _ _ _ c.in_err-rule.ensures))

pub returns-in_err-check_in_order : goal.returns-in_err-check_in_order
returns-in_err-check_in_order c =
    let a = c.args in
    let p = two_by a.columns a.first.now a.second.now in
    rw (passed c.from_residual-in_err-check_in_order.ensures.1)
    (call-err a.rule a.task p a.x.now a.y.now c.requires.1 _
    (sheets-err a.rule a.task p _ _ c.in_ok-rule.ensures.0 _ c.in_err-check_in_order.ensures.0))

pub overflow_mul-order : goal.overflow_mul-order
overflow_mul-order c =
    let f = c.in_ok-check_in_order.ensures.1 in
    let h = mul-le-mul (accepted-order f.0).most (accepted-order f.2).most in
    rw (c.order.ensures, c.order-2.ensures) (omega arith)

-- what all checks told
told : (c : After-check_lengths) → let a = c.args in
    answered c.check_lengths.result
    ≡ checks_of a.rule a.task (two_by a.columns a.first.now a.second.now) (length a.x.now) (length a.y.now)
told c =
    let a = c.args in
    let size : c.order.result * c.order-2.result ≡ (two_by a.columns a.first.now a.second.now).size =
    rw (c.order.ensures, c.order-2.ensures) (two-orders a.first.now a.second.now a.columns) in
    lengths-told a.rule a.task (two_by a.columns a.first.now a.second.now) _ _ c.in_ok-rule.ensures.0 c.check_lengths.result
    (ap (λ (q : Answer). q.number) (sym c.in_ok-check_in_order.ensures.0)) (c.check_lengths.ensures ∙ rw size)

pub returns-in_err-check_lengths : goal.returns-in_err-check_lengths
returns-in_err-check_lengths c =
    let a = c.args in
    let p = two_by a.columns a.first.now a.second.now in
    rw (passed c.from_residual-in_err-check_lengths.ensures.1)
    (call-err a.rule a.task p a.x.now a.y.now c.requires.1 _
    (rw c.in_err-check_lengths.was at (told (goal.at.returns-in_err-check_lengths c).After-check_lengths)))

pub run_two-requires : goal.run_two-requires
run_two-requires c =
    let a = c.args in
    let h = call-fine a.rule a.task (two_by a.columns a.first.now a.second.now) a.x.now a.y.now c.requires.1
    (told (goal.at.run_two-requires c).After-check_lengths) c.in_ok-check_lengths.was in
    let n = two_size_lem a.first.now a.second.now a.columns in
    record { way = c.requires.0; input = h.1 ∙ ap (inputs_of a.task) n; output = h.2 ∙ n }

pub returns : goal.returns
returns c =
    let a = c.args in
    rw (
      call-runs a.rule a.task (two_by a.columns a.first.now a.second.now) a.x.now a.y.now c.requires.1
          (told (goal.at.returns c).After-check_lengths) c.in_ok-check_lengths.was c.in_ok-rule.ensures.1,
      two_size_lem a.first.now a.second.now a.columns,
      two-stages a.first.now a.second.now a.columns,
    )
    (c.end_of.ensures ∙ c.run_two.ensures.0, c.run_two.ensures.1)
