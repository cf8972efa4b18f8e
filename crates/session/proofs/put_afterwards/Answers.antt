-- The line of the inverse, then that of the allowance.
use Rattle.printing.specs.Writing.{wrote_then, wrote_as}
use Rattle.session.specs.Sessions.{afterwards-is}
use Rattle.session.proofs.put_afterwards.Goals as goal

pub returns : goal.returns
returns c =
    let s = c.args in
    wrote_as (wrote_then c.put_reply-j.ensures c.put_reply.ensures)
    (afterwards-is s.s.now s.y.now s.z.now c.inverse-back.ensures c.allowance-allowed.ensures)
