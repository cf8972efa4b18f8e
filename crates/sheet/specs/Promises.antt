-- ONE ANSWER of each call on sheets: what their contracts say leaves one answer, and one part of one of the two slices. And how
-- long a checked sheet is at most.
use Rattle.std.specs.Prelude.{Bool, true, false, cond, List, ◌≡◌, ℕ, ◌≤◌, eqb, ℤ, length}
use Rattle.std.proofs.Common.{sym, ◌∙◌}
use Rattle.std.specs.Borrow.{Bor}
use Rattle.rules.specs.declared.Answer.{Answer}
use Rattle.rules.specs.Sheets.{reading}
use Rattle.rules.specs.Answers.{checked, pair_checked, IsTail, IsRest}
use Rattle.laws.specs.Accepted.{accepted-read}
use Rattle.laws.specs.Prefix.{accepted-length}
use Rattle.sheet.specs.Stated.{Same}

-- `check` has the contract a ≡ checked s; a is the answer of its result (`answered`), and tells it (`one-result`)
pub one-check : (s : List ℤ) {a b : Answer} → a ≡ checked s → b ≡ checked s → a ≡ b
one-check s g h = g ∙ sym h

-- `check_pair` has the contract a ≡ pair_checked c r
pub one-pair : (c r : List ℤ) {a b : Answer} → a ≡ pair_checked c r → b ≡ pair_checked c r → a ≡ b
one-pair c r g h = g ∙ sym h

one-tail : {q r s : Bor (List ℤ)} {a : ℕ} → IsTail q s a → IsTail r s a → Same q r
one-tail g h = record { block = g.block ∙ sym h.block; offset = g.offset ∙ sym h.offset; list = g.list ∙ sym h.list }

-- `rest` has the contract IsRest r col row
pub one-rest : (q r col row : Bor (List ℤ)) → IsRest q col row → IsRest r col row → Same q r
unfolding IsRest
one-rest q r col row = pick (eqb (reading col.now).number 0) (eqb (reading row.now).number 0)
  where
    pick :
        (a b : Bool) →
        cond a (cond b (IsTail q col (length col.now)) (IsTail q row (reading row.now).place))
        (IsTail q col (reading col.now).place) →
        cond a (cond b (IsTail r col (length col.now)) (IsTail r row (reading row.now).place))
        (IsTail r col (reading col.now).place) →
        Same q r
    pick true true g h = one-tail g h
    pick true false g h = one-tail g h
    pick false b g h = one-tail g h

-- "The longest sheet has 4386 numbers"
pub longest-sheet : (s : List ℤ) → (checked s).number ≡ 0 → length s ≤ 4386
longest-sheet s h = accepted-length (accepted-read s h)
