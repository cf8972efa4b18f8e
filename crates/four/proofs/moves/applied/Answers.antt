-- The places are those of the sheet, and the numbers are moved one by one.
use Rattle.std.proofs.Common.{rules, false, ◌≡◌, sym, ap, ◌+◌, length, w32}
use Rattle.factor.specs.MovedInPlace.{moved_by, moved-bounded}
use Rattle.four.specs.Stages.{four-list}
use Rattle.four.specs.TurnLaws.{became-by}
use Rattle.rules.specs.Numbers.{at, count}
use Rattle.rules.specs.Stages.{fill}
use Rattle.whole.specs.Machine.{reads}
use Rattle.four.proofs.moves.applied.Goals as goal
use Rattle.four.proofs.moves.applied.Goals.{Start}

len : (s : Start) → length s.args.x ≡ 4
len s = search rules

pub returns : goal.returns
unfolding moved_by fill
returns c =
    let h = c.requires.1 in
    became-by
    (rw (
      reads w32 (h.small c.place-a.result) tt,
      reads w32 (h.small c.place-b.result) tt,
      reads w32 (h.small c.place-c.result) tt,
      reads w32 (h.small c.place-d.result) tt,
      c.place-a.ensures.0,
      c.place-b.ensures.0,
      c.place-c.ensures.0,
      c.place-d.ensures.0,
    )
    (ap (fill 4 (λ e. at c.args.x (count c.args.sheet.now (c.args.p + e))))
    (sym (four-list c.args.x (len (goal.at.returns c).Start)))))
    (moved-bounded false 4 (λ m. count c.args.sheet.now (c.args.p + m)) h)
