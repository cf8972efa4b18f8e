-- A SHEET AS LONG AS SHEETS GET: "the longest sheet has 4386 numbers".
use Rattle.std.specs.Prelude.{List, [], ◌∷◌, ◌++◌, ℕ, zero, suc, ℤ, pos, replicate}
use Rattle.rules.specs.Numbers.{most_order, most_count}

-- the same numbers n times
unfoldable pub again : ℕ → List ℤ → List ℤ
again zero v = []
again (suc n) v = v ++ again n v

-- order 16, and 32 lower factors, their signs and entries all 1
abbrev pub lower_factor : List ℤ
lower_factor = pos 2 ∷ replicate 136 (pos 1)

abbrev pub longest_sheet : List ℤ
longest_sheet = pos most_order ∷ pos most_count ∷ again most_count lower_factor
