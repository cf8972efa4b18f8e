-- "WHAT COMES BACK" of document 01: the answers, and those of the calls that only look at sheets.
use Rattle.std.specs.Prelude.{Bool, not, cond, List, ◌≡◌, ℕ, zero, suc, ◌+◌, ◌*◌, min, eqb, ℤ, length, drop}
use Rattle.std.specs.Borrow.{Bor}
use Rattle.rules.specs.declared.Answer.{Answer}
use Rattle.rules.specs.Marks.{Mark}
use Rattle.rules.specs.Numbers.{count}
use Rattle.rules.specs.Sheets.{kind_of, reading}
use Rattle.rules.specs.Factors.{numbers}

-- "Accepted: 0, 0, and the place is 0, or the count written for a call that can answer 15"
abbrev pub accepted : Answer
accepted = record { number = 0; side = 0; place = 0; element = 0 }

abbrev pub counted : ℕ → Answer
counted n = record { number = 0; side = 0; place = n; element = 0 }

abbrev pub refused : ℕ → ℕ → ℕ → Answer
refused number side place = record { number = number; side = side; place = place; element = 0 }

-- request R-7: "The answer gains an element number, counted row by row, for refusal 11"; "It is 0 in every other answer"
abbrev pub refused_at : ℕ → ℕ → ℕ → ℕ → Answer
refused_at number side place element = record { number = number; side = side; place = place; element = element }

-- an answer that is no refusal gives way to the next one
infixr 20 ◌or_else◌
unfoldable pub ◌or_else◌ : Answer → Answer → Answer
a or_else b = cond (eqb a.number 0) b a

-- ---- one sheet, 1 to 9
abbrev pub read_answer : ℕ → Mark → Answer
read_answer side m = cond (eqb m.number 0) accepted (refused m.number side m.place)

abbrev pub checked : List ℤ → Answer
checked s = read_answer 0 (reading s)

-- ---- two sheets, 12
-- where the f-th factor from place i on starts, in a sheet of order n
unfoldable pub further : List ℤ → ℕ → ℕ → ℕ → ℕ
further s n i zero = i
further s n i (suc f) = further s n i f + numbers n (kind_of (count s (further s n i f)))

abbrev pub start : List ℤ → ℕ → ℕ
start s f = further s (count s 0) 2 f

-- the first k below m at which the test holds, else m
unfoldable pub first : (ℕ → Bool) → ℕ → ℕ
first test zero = 0
first test (suc m) = cond (test 0) 0 (suc (first (λ k. test (suc k)) m))

abbrev pub differ : List ℤ → List ℤ → ℕ → Bool
differ c r f = not (eqb (count c (start c f)) (count r (start r f)))

-- "first position whose kinds differ, else the smaller count"
abbrev pub clash : List ℤ → List ℤ → ℕ
clash c r = first (differ c r) (min (count c 1) (count r 1))

-- "The sheets match if they have equal counts and equal kinds at each position": then that is the count of both
unfoldable pub matching : List ℤ → List ℤ → Answer
matching c r =
    cond (eqb (clash c r) (count c 1))
    (cond (eqb (clash c r) (count r 1)) accepted (refused 12 0 (clash c r)))
    (refused 12 0 (clash c r))

-- "Order: column sheet, row sheet, 12"; "Side is 1 for the row sheet of a pair"
unfoldable pub pair_checked : List ℤ → List ℤ → Answer
pair_checked c r = read_answer 0 (reading c) or_else read_answer 1 (reading r) or_else matching c r

-- ---- "the rest of the faulty sheet, from the place on, as a part of whichever of the two slices it is"
-- r is the part of s from place a on: the same memory, a numbers of four bytes further, to the end
pub record IsTail (r s : Bor (List ℤ)) (a : ℕ) : Type 0 where
  pub block : r.ref_ptr.0 ≡ s.ref_ptr.0
  pub offset : r.ref_ptr.1 ≡ s.ref_ptr.1 + a * 4
  pub list : r.now ≡ drop a s.now

-- "with no fault in 1 to 9, the empty end of the column sheet"
unfoldable pub IsRest : Bor (List ℤ) → Bor (List ℤ) → Bor (List ℤ) → Type 0
IsRest r col row =
    cond (eqb (reading col.now).number 0)
    (cond (eqb (reading row.now).number 0)
    (IsTail r col (length col.now))
    (IsTail r row (reading row.now).place))
    (IsTail r col (reading col.now).place)
