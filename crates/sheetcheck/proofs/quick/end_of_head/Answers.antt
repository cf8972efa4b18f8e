-- The order, then the count: both were seen. Assumes nothing.
use Rattle.std.proofs.Common.{ap, List, ℕ, ℤ}
use Rattle.std.specs.Prelude.{Option, None, Some, IfSome}
use Rattle.laws.specs.Accepted.{Headed, headed}
use Rattle.rules.specs.Sheets.{head}
use Rattle.rules.specs.Marks.{Mark}
use Rattle.sheetcheck.specs.Quick.{EndsAt, ends-then}
use Rattle.sheetcheck.proofs.quick.end_of_head.Goals as goal

headed-at : (s : List ℤ) (end : Option ℕ) → EndsAt s (head s) end → IfSome end (λ i. Headed s)
headed-at s None h = tt
headed-at s (Some i) h = headed s (ap (λ (m : Mark). m.number) h.next)

pub returns : goal.returns
unfolding head
returns c = headed-at _ _ (ends-then _ _ c.in_ok-i.ensures c.end_of_one-2.ensures)
