-- TEXT IN A LENT SLICE: some bytes are put from a place on, and what passes the slice's end is left out.
use Rattle.std.specs.Prelude.{List, ◌≡◌, ℕ, ◌+◌, min, length}
use Rattle.std.proofs.lemmas.List.Edits.{sets}

-- l with the text put from place i on, and the place after it
pub record Wrote (l : List ℕ) (i : ℕ) (text out : List ℕ) (r : ℕ) : Type 0 where
  pub list : out ≡ sets l i text
  pub place : r ≡ min (i + length text) (length l)
