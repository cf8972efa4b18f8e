-- The line of the forward run; after a refused one nothing follows.
use Rattle.std.proofs.Common.{sym}
use Rattle.printing.specs.Writing.{wrote_then, wrote_as}
use Rattle.session.specs.Sessions.{refused-some, refused-none, ran-stops, ran-goes}
use Rattle.session.proofs.put_runs.Goals as goal

pub returns-then-is_err : goal.returns-then-is_err
returns-then-is_err c =
    let s = c.args in
    wrote_as c.put_reply-i.ensures
    (ran-stops s.s.now s.x.now s.y.now s.z.now c.forward-there.ensures (refused-some _ (sym c.if-is_err.ensures.value)))

pub returns : goal.returns
returns c =
    let s = c.args in
    wrote_as (wrote_then c.put_reply-i.ensures c.put_afterwards.ensures)
    (ran-goes s.s.now s.x.now s.y.now s.z.now c.forward-there.ensures (refused-none _ (sym c.if-is_err.ensures.value)))
