-- A blank, then the digits.
use Rattle.std.proofs.Common.{List, ◌∷◌, sym, ap, ℕ}
use Rattle.printing.specs.Digits.{decimal-count}
use Rattle.printing.specs.Writing.{wrote_then, wrote_as}
use Rattle.printing.proofs.put_count.Goals as goal

pub returns : goal.returns
returns c =
    let s = c.args in
    wrote_as (wrote_then c.put-j.ensures c.put_digits.ensures) (ap (λ (l : List ℕ). 32 ∷ l) (sym (decimal-count s.n)))
