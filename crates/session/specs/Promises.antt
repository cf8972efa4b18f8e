-- ONE LENGTH AND ONE MEMORY of `text_of`: what its contract says leaves no other.
use Rattle.std.specs.Prelude.{List, ◌≡◌, ℕ}
use Rattle.std.proofs.Common.{sym, ◌∙◌}
use Rattle.printing.specs.Program.{printed}
use Rattle.printing.specs.Stated.{Wrote}

-- `text_of` has the contract Wrote out 0 (printed input) m r: r is the length that it answers, m what the lent slice holds then
pub one-text : (input out : List ℕ) {m n : List ℕ} {q r : ℕ} → Wrote out 0 (printed input) m q → Wrote out 0 (printed input) n r →
    (q ≡ r) × (m ≡ n)
one-text input out g h = (g.place ∙ sym h.place, g.list ∙ sym h.list)
