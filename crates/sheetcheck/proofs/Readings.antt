-- What a reading that ended without fault says of its sheet. Assumes nothing.
use mathlib.Core.List.{List}
use mathlib.Core.Path.{◌≡◌, sym, ap}
use Prim.Native.Nat.{ℕ}
use lib.IntN.{ℤ}
use Rattle.std.specs.Prelude.{Result, Ok, Err, OnOk}
use Rattle.rules.specs.declared.Found.{Found}
use Rattle.rules.specs.Marks.{Mark}
use Rattle.rules.specs.Results.{marked}
use Rattle.rules.specs.Sheets.{reading}
use Rattle.laws.specs.Accepted.{Accepted, accepted-reading}

pub read-accepted :
    (s : List ℤ) (P : Type 0) (r : Result ℕ Found) → marked r ≡ reading s → OnOk r P → OnOk r (Accepted s × P)
read-accepted s P (Ok i) e p = (accepted-reading s (ap (λ (m : Mark). m.number) (sym e)), p)
read-accepted s P (Err f) e p = tt
