-- The count's refusal, or the runs on the parts of the numbers.
use Rattle.std.proofs.Common.{sym, ap, ◌∙◌}
use Rattle.laws.specs.Results.{some-fault}
use Rattle.printing.specs.Program.{refusal}
use Rattle.printing.specs.Writing.{wrote_as}
use Rattle.rules.specs.declared.Answer.{Answer}
use Rattle.session.specs.Inputs.{session-refused, session-runs, session-parts}
use Rattle.session.proofs.put_session.Goals as goal

pub returns-in-Ok : goal.returns-in-Ok
returns-in-Ok c =
    let s = c.args in
    let v = s.v.now in
    let h = c.in-Ok.ensures in
    wrote_as c.put_runs.ensures
    (session-parts v c.in-Ok.e s.y.now s.z.now h.place.0 c.requires.0 c.requires.1
    ∙ session-runs v (ap (λ (a : Answer). a.number) (sym h.answer)))

pub returns-in-Err : goal.returns-in-Err
returns-in-Err c =
    let e = c.in-Err.ensures.answer in
    wrote_as c.put_refusal.ensures
    (ap refusal e
    ∙ session-refused c.args.v.now (λ z. some-fault c.in-Err.refusal.fault (ap (λ (a : Answer). a.number) e ∙ z)))
