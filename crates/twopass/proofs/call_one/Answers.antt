-- The checks refuse (`call-err`), or nothing is left but the run (`call-runs`).
use Rattle.std.proofs.Common.{◌≡◌, ◌*◌, length, sym, ap, ◌∙◌, mul-le-mul, arith}
use Rattle.laws.specs.Accepted.{accepted-order}
use Rattle.laws.specs.Passes.{order-read}
use Rattle.laws.specs.Results.{passed, err-stops, ok-passes}
use Rattle.rules.specs.declared.Answer.{Answer}
use Rattle.rules.specs.Answers.{accepted}
use Rattle.rules.specs.Calls.{order_checked}
use Rattle.rules.specs.Results.{answered}
use Rattle.factor.specs.CallAnswers.{checks_of, rule-err, sheets-err, lengths-told, call-err, call-fine, call-runs}
use Rattle.factor.specs.Tasks.{inputs_of}
use Rattle.twopass.specs.Plans.{one_by, one_size_lem, one-stages, one-checked, one-orders}
use Rattle.twopass.proofs.call_one.Goals as goal
use Rattle.twopass.proofs.call_one.Goals.{After-check_lengths}

pub returns-in_err-rule : goal.returns-in_err-rule
returns-in_err-rule c =
    let a = c.args in
    let p = one_by a.columns a.sheet.now a.other in
    rw (passed c.from_residual.ensures.1)
    (call-err a.rule a.task p a.x.now a.y.now c.requires _ (rule-err a.rule a.task p _ _ _ c.in_err-rule.ensures))

pub returns-in_err-check_starts : goal.returns-in_err-check_starts
returns-in_err-check_starts c =
    let a = c.args in
    let p = one_by a.columns a.sheet.now a.other in
    rw (passed c.from_residual-in_err-check_starts.ensures.1)
    (call-err a.rule a.task p a.x.now a.y.now c.requires _
    (sheets-err a.rule a.task p _ _ c.in_ok-rule.ensures.0 _
    (err-stops c.check_starts.ensures.0 (order_checked a.other) c.in_err-check_starts.was ∙ one-checked a.sheet.now a.other a.columns)))

pub returns-in_err-check_order : goal.returns-in_err-check_order
returns-in_err-check_order c =
    let a = c.args in
    let p = one_by a.columns a.sheet.now a.other in
    rw (passed c.from_residual-in_err-check_order.ensures.1)
    (call-err a.rule a.task p a.x.now a.y.now c.requires _
    (sheets-err a.rule a.task p _ _ c.in_ok-rule.ensures.0 _
    (c.in_err-check_order.ensures ∙ sym (ok-passes c.check_starts.ensures.0 (order_checked a.other) c.in_ok-check_starts.was)
    ∙ one-checked a.sheet.now a.other a.columns)))

-- the sheet and the other order have no fault
fine : (c : After-check_lengths) → let a = c.args in accepted ≡ (one_by a.columns a.sheet.now a.other).sheets
fine c =
    let a = c.args in
    c.in_ok-check_order.ensures ∙ sym (ok-passes c.check_starts.ensures.0 (order_checked a.other) c.in_ok-check_starts.was)
    ∙ one-checked a.sheet.now a.other a.columns

pub overflow_mul-order : goal.overflow_mul-order
overflow_mul-order c =
    let f = c.in_ok-check_starts.ensures.1.0 in
    let o = order-read c.args.other (ap (λ (q : Answer). q.number) (sym c.in_ok-check_order.ensures)) in
    let h = mul-le-mul (accepted-order f).most o.1 in
    rw c.order.ensures (omega arith)

-- what all checks told
told : (c : After-check_lengths) → let a = c.args in
    answered c.check_lengths.result
    ≡ checks_of a.rule a.task (one_by a.columns a.sheet.now a.other) (length a.x.now) (length a.y.now)
told c =
    let a = c.args in
    let size : c.order.result * a.other ≡ (one_by a.columns a.sheet.now a.other).size =
    rw c.order.ensures (one-orders a.sheet.now a.other a.columns) in
    lengths-told a.rule a.task (one_by a.columns a.sheet.now a.other) _ _ c.in_ok-rule.ensures.0 c.check_lengths.result
    (ap (λ (q : Answer). q.number) (sym (fine c))) (c.check_lengths.ensures ∙ rw size)

pub returns-in_err-check_lengths : goal.returns-in_err-check_lengths
returns-in_err-check_lengths c =
    let a = c.args in
    let p = one_by a.columns a.sheet.now a.other in
    rw (passed c.from_residual-in_err-check_lengths.ensures.1)
    (call-err a.rule a.task p a.x.now a.y.now c.requires _
    (rw c.in_err-check_lengths.was at (told (goal.at.returns-in_err-check_lengths c).After-check_lengths)))

pub run_one-requires : goal.run_one-requires
run_one-requires c =
    let a = c.args in
    let o = order-read a.other (ap (λ (q : Answer). q.number) (sym c.in_ok-check_order.ensures)) in
    let h = call-fine a.rule a.task (one_by a.columns a.sheet.now a.other) a.x.now a.y.now c.requires
    (told (goal.at.run_one-requires c).After-check_lengths) c.in_ok-check_lengths.was in
    let n = one_size_lem a.sheet.now a.other a.columns in
    record { some = o.0; most = o.1; input = h.1 ∙ ap (inputs_of a.task) n; output = h.2 ∙ n }

pub returns : goal.returns
returns c =
    let a = c.args in
    rw (
      call-runs a.rule a.task (one_by a.columns a.sheet.now a.other) a.x.now a.y.now c.requires
          (told (goal.at.returns c).After-check_lengths) c.in_ok-check_lengths.was c.in_ok-rule.ensures.1,
      one_size_lem a.sheet.now a.other a.columns,
      one-stages a.sheet.now a.other a.columns,
    )
    (c.end_of.ensures ∙ c.run_one.ensures.0, c.run_one.ensures.1)
