-- The checks refuse (`call-err`), or nothing is left but the run (`call-runs`).
use Rattle.std.proofs.Common.{◌∙◌}
use Rattle.std.proofs.lemmas.Result.{err_from_is_err_and}
use Rattle.factor.specs.CallAnswers.{call-err, call-fine, call-runs}
use Rattle.factor.specs.RunReplies.{given-asked}
use Rattle.rules.specs.Calls.{line}
use Rattle.line.proofs.call_by.Goals as goal

pub returns-in_err-rule : goal.returns-in_err-rule
returns-in_err-rule c =
    let a = c.args in
    let p = err_from_is_err_and c.from_residual.result c.from_residual.ensures.1 in
    rw (p.1, p.2) (call-err a.rule a.task (line a.s.now) a.x.now a.y.now c.requires _ c.in_err-rule.ensures.0)

pub run_block-requires : goal.run_block-requires
unfolding line
run_block-requires c =
    let a = c.args in
    let f = call-fine a.rule a.task (line a.s.now) a.x.now a.y.now c.requires c.check_call.ensures.0 c.in_ok-rule.was in
    (f.1, f.2)

pub returns : goal.returns
unfolding line
returns c =
    let a = c.args in
    let g = given-asked c.run_block.ensures in
    rw (call-runs a.rule a.task (line a.s.now) a.x.now a.y.now c.requires c.check_call.ensures.0 c.in_ok-rule.was
    c.in_ok-rule.ensures.1.0)
    (c.end_of.ensures ∙ g.0, g.1)
