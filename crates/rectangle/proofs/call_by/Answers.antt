-- The checks refuse (`call-err`), or nothing is left but the run (`call-runs`).
use Rattle.std.proofs.Common.{◌≡◌, sym, ap, ◌∙◌, arith, length}
use Rattle.factor.specs.CallAnswers.{checks_of, rule-err, sheets-err, lengths-told, call-err, call-fine, call-runs}
use Rattle.factor.specs.RunReplies.{given-asked}
use Rattle.laws.specs.Results.{passed}
use Rattle.rectanglerun.specs.Runs.{Matched, matched, size-most}
use Rattle.rules.specs.Calls.{joint}
use Rattle.rules.specs.Results.{answered}
use Rattle.rules.specs.declared.Answer.{Answer}
use Rattle.rectangle.proofs.call_by.Goals as goal
use Rattle.rectangle.proofs.call_by.Goals.{After-check_lengths, In_ok-check_pair_starts}

pub returns-in_err-rule : goal.returns-in_err-rule
returns-in_err-rule c =
    let a = c.args in
    let p = joint a.col.now a.row.now in
    let d = c.in_err-rule.field-0.0 in
    rw (passed c.from_residual.ensures.1)
    (call-err a.rule a.task p a.x.now a.y.now c.requires d
    (rule-err a.rule a.task p (length a.x.now) (length a.y.now) d c.in_err-rule.ensures))

pub returns-in_err-check_pair_starts : goal.returns-in_err-check_pair_starts
unfolding joint
returns-in_err-check_pair_starts c =
    let a = c.args in
    let p = joint a.col.now a.row.now in
    let d = c.in_err-check_pair_starts.field-0.0 in
    rw (passed c.from_residual-in_err-check_pair_starts.ensures.1)
    (call-err a.rule a.task p a.x.now a.y.now c.requires d
    (sheets-err a.rule a.task p (length a.x.now) (length a.y.now) c.in_ok-rule.ensures.0 d
    c.in_err-check_pair_starts.ensures.0))

-- the sheets match
fine : (c : In_ok-check_pair_starts) → Matched c.args.col.now c.args.row.now
fine c = matched _ _ (sym (ap (λ (a : Answer). a.number) c.in_ok-check_pair_starts.ensures.0))

pub overflow_mul-order : goal.overflow_mul-order
overflow_mul-order c =
    let h = size-most (fine (goal.at.overflow_mul-order c).In_ok-check_pair_starts) in
    rw (c.order.ensures, c.order-2.ensures) (omega arith)

-- all checks in the last one
told : (c : After-check_lengths) → let a = c.args in
    answered c.check_lengths.result
    ≡ checks_of a.rule a.task (joint a.col.now a.row.now) (length a.x.now) (length a.y.now)
unfolding joint
told c =
    let a = c.args in
    lengths-told a.rule a.task (joint a.col.now a.row.now) (length a.x.now) (length a.y.now) c.in_ok-rule.ensures.0 _
    (sym (ap (λ (a : Answer). a.number) c.in_ok-check_pair_starts.ensures.0))
    (c.check_lengths.ensures ∙ rw (c.order.ensures, c.order-2.ensures))

pub returns-in_err-check_lengths : goal.returns-in_err-check_lengths
returns-in_err-check_lengths c =
    let a = c.args in
    let p = joint a.col.now a.row.now in
    let d = c.in_err-check_lengths.field-0.0 in
    rw (passed c.from_residual-in_err-check_lengths.ensures.1)
    (call-err a.rule a.task p a.x.now a.y.now c.requires d
    (rw c.in_err-check_lengths.was at (told (goal.at.returns-in_err-check_lengths c).After-check_lengths)))

pub run_block-requires : goal.run_block-requires
unfolding joint
run_block-requires c =
    let a = c.args in
    let g = goal.at.run_block-requires c in
    let h = call-fine a.rule a.task (joint a.col.now a.row.now) a.x.now a.y.now c.requires (told g.After-check_lengths)
    c.in_ok-check_lengths.was in
    (fine g.In_ok-check_pair_starts, h.1, h.2)

pub returns : goal.returns
unfolding joint
returns c =
    let a = c.args in
    let g = given-asked c.run_block.ensures in
    rw (call-runs a.rule a.task (joint a.col.now a.row.now) a.x.now a.y.now c.requires
    (told (goal.at.returns c).After-check_lengths) c.in_ok-check_lengths.was c.in_ok-rule.ensures.1)
    (c.end_of.ensures ∙ g.0, g.1)
