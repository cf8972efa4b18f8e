-- WHAT A READER OF ONE NUMBER GIVES BACK, as "RECIPE BYTES" says it.
use Rattle.std.specs.Prelude.{Option, None, Some, ◌≡◌, IsSome}
use Rattle.std.proofs.Common.{sym, ap, refl}
use Rattle.rules.specs.Marks.{Spelt}
use Rattle.rules.specs.Recipes.{spelt, none}
use Rattle.recipebytes.specs.declared.spelled.Spelled.{Spelled}

-- the bytes and the code of the number that was read, or no number
abbrev pub spelled : Option Spelled → Spelt
spelled None = none
spelled (Some r) = spelt r.size r.code

-- where bytes spell a number, one was read
pub spelled-some : (r : Option Spelled) {s : Spelt} → spelled r ≡ s → (s.size ≡ 0 → ⊥) → IsSome r
spelled-some None e n = absurd (n (ap (λ (x : Spelt). x.size) (sym e)))
spelled-some (Some r) e n = refl
