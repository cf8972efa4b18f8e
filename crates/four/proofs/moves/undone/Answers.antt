-- The places are those of the sheet, and the numbers are moved one by one.
use Rattle.std.proofs.Common.{true, ◌+◌, w32}
use Rattle.factor.specs.MovedInPlace.{moved_by, moved-bounded}
use Rattle.four.specs.TurnLaws.{became-by}
use Rattle.rules.specs.Numbers.{count}
use Rattle.rules.specs.Stages.{put_back}
use Rattle.whole.specs.Machine.{reads}
use Rattle.four.proofs.moves.undone.Goals as goal

pub returns : goal.returns
unfolding moved_by put_back
returns c =
    let h = c.requires.1 in
    became-by
    (rw (
      reads w32 (h.small 0) tt,
      reads w32 (h.small 1) tt,
      reads w32 (h.small 2) tt,
      reads w32 (h.small 3) tt,
      c.place-a.ensures.0,
      c.place-b.ensures.0,
      c.place-c.ensures.0,
      c.place-d.ensures.0,
    ))
    (moved-bounded true 4 (λ m. count c.args.sheet.now (c.args.p + m)) h)
