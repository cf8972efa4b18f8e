-- A check that refuses ends the strip (`rule-err`, `sheets-err`); else it is the one of that rule (`rule-runs`).
use Rattle.std.proofs.Common.{sym, ap}
use Rattle.laws.specs.Results.{passed}
use Rattle.rules.specs.Calls.{joint}
use Rattle.rules.specs.declared.Answer.{Answer}
use Rattle.striprun.specs.Lengths.{rule-err, sheets-err, rule-runs}
use Rattle.striprun.specs.Plans.{plan_of}
use Rattle.striprun.proofs.runs.joint_by.Goals as goal

pub returns-in_err-rule : goal.returns-in_err-rule
returns-in_err-rule c =
    let a = c.args in
    rw (passed c.from_residual.ensures.1)
    (rule-err a.task a.rule (joint a.col.now a.row.now) a.x.now a.y.now a.bytes.now c.in_err-rule.field-0.0 c.in_err-rule.ensures)

pub returns-in_err-check_pair_starts : goal.returns-in_err-check_pair_starts
unfolding joint
returns-in_err-check_pair_starts c =
    let a = c.args in
    rw (passed c.from_residual-in_err-check_pair_starts.ensures.1)
    (sheets-err a.task a.rule (joint a.col.now a.row.now) a.x.now a.y.now a.bytes.now c.in_ok-rule.ensures.0
    c.in_err-check_pair_starts.field-0.0 c.in_err-check_pair_starts.ensures.0)

pub run_strip-requires : goal.run_strip-requires
unfolding plan_of joint
run_strip-requires c = (c.requires, sym (ap (λ (a : Answer). a.number) c.in_ok-check_pair_starts.ensures.0))

pub returns : goal.returns
unfolding plan_of
returns c =
    let a = c.args in
    rule-runs a.task a.rule (joint a.col.now a.row.now) a.x.now a.y.now a.bytes.now c.in_ok-rule.ensures.0 c.in_ok-rule.ensures.1
    c.run_strip.ensures
