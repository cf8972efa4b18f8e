-- A refusal's line, or the numbers'.
use Rattle.std.proofs.Common.{sym, refl}
use Rattle.laws.specs.Results.{some-fault}
use Rattle.printing.specs.Digits.{replied-refused, replied-numbers}
use Rattle.printing.specs.Writing.{wrote_as}
use Rattle.rules.specs.Answers.{accepted}
use Rattle.rules.specs.Results.{refused_for}
use Rattle.printing.proofs.put_reply.Goals as goal

pub returns-in-Ok : goal.returns-in-Ok
returns-in-Ok c =
    let s = c.args in
    rw c.in-Ok.is (wrote_as c.put_line.ensures (sym (replied-numbers s.word.now accepted s.v.now refl)))

pub returns-in-Err : goal.returns-in-Err
returns-in-Err c =
    let s = c.args in
    let r = c.in-Err.refusal in
    rw c.in-Err.is
    (wrote_as c.put_refusal.ensures (sym (replied-refused s.word.now (refused_for r) s.v.now (some-fault r.fault))))
