-- WHAT THE QUICK TEST SAYS of a sheet, part by part. It says nothing of a part that it does not pass: the readers do.
use Rattle.std.specs.Prelude.{Option, None, Some, IfSome, List, ◌≡◌, ℕ, ◌≤◌, ℤ, length}
use Rattle.rules.specs.Marks.{Mark}
use Rattle.rules.specs.Sheets.{on, ◌then◌}
use Rattle.laws.specs.Readers.{then-goes}

-- a reading that found no fault and ended at place q of the sheet
pub record Passes (s : List ℤ) (found : Mark) (q : ℕ) : Type 0 where
  pub next : found ≡ on q
  pub room : q ≤ length s

-- what an answer tells: nothing if it is None
abbrev pub EndsAt : List ℤ → Mark → Option ℕ → Type 0
EndsAt s found end = IfSome end (λ q. Passes s found q)

-- one part, then another from where it ended
pub ends-then :
    {s : List ℤ} {found : Mark} (r : ℕ → Mark) {q : ℕ} (end : Option ℕ) → Passes s found q → EndsAt s (r q) end →
    EndsAt s (found then r) end
ends-then r None h k = tt
ends-then r (Some e) h k = record { next = then-goes r h.next k.next; room = k.room }
