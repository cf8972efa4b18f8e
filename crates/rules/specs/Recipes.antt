-- "RECIPE BYTES" of document 01.
use Rattle.std.specs.Prelude.{Bool, true, false, cond, List, [], ◌∷◌, ◌++◌, ℕ, zero, suc, ◌+◌, ◌-◌, ◌*◌, ◌/◌, ◌%◌, eqb, ltb, ℤ, pos, negsuc, nat_abs, length, drop}
use Rattle.std.specs.Int.Signed.{non_neg}
use Rattle.rules.specs.Marks.{Spelt}

-- ---- one number
-- "Each sheet number v becomes 2v, or -2v-1 below zero", and back
unfoldable pub code : ℤ → ℕ
code v = cond (non_neg v) (2 * nat_abs v) (2 * nat_abs v - 1)

unfoldable pub value : ℕ → ℤ
value u = cond (eqb (u % 2) 0) (pos (u / 2)) (negsuc (u / 2))

-- "in groups of seven bits, low group first, the top bit set on all but the last"; here at most k more after the first
unfoldable pub spell : ℕ → ℕ → List ℕ
spell zero u = u ∷ []
spell (suc k) u = cond (ltb u 128) (u ∷ []) ((128 + u % 128) ∷ spell k (u / 128))

-- "At most three groups"
abbrev pub written : ℤ → List ℕ
written v = spell 2 (code v)

-- what stands at the front of some bytes: so many bytes that spell a code, or, at size 0, no number
abbrev pub spelt : ℕ → ℕ → Spelt
spelt n u = record { size = n; code = u }

abbrev pub none : Spelt
none = record { size = 0; code = 0 }

-- a group, its top bit taken off, before what the next groups spell
abbrev pub ahead : ℕ → Spelt → Spelt
ahead g next = cond (eqb next.size 0) none (spelt (next.size + 1) (g + 128 * next.code))

-- "the last group is 0 only if it stands alone"
unfoldable pub group : Bool → List ℕ → Spelt → Spelt
group alone [] next = none
group alone (x ∷ l) next = cond (ltb x 128) (cond (eqb x 0) (cond alone (spelt 1 x) none) (spelt 1 x)) (ahead (x % 128) next)

abbrev pub tail : List ℕ → List ℕ
tail [] = []
tail (x ∷ l) = l

-- at most k groups; the first stands alone if none is before it
unfoldable pub groups : ℕ → Bool → List ℕ → Spelt
groups zero alone l = none
groups (suc k) alone l = group alone l (groups k false (tail l))

-- the number at the front of some bytes
abbrev pub number : List ℕ → Spelt
number l = groups 3 true l

-- ---- a sheet: "The bytes are the numbers of the sheet and nothing more"
unfoldable pub packed : List ℤ → List ℕ
packed [] = []
packed (v ∷ s) = written v ++ packed s

-- the numbers at the front of some bytes, one after another, at most k of them, and the bytes that they leave
unfoldable pub unpack : ℕ → List ℕ → List ℤ
unpack zero l = []
unpack (suc k) l = cond (eqb (number l).size 0) [] (value (number l).code ∷ unpack k (drop (number l).size l))

unfoldable pub left : ℕ → List ℕ → List ℕ
left zero l = l
left (suc k) l = cond (eqb (number l).size 0) l (left k (drop (number l).size l))

-- all of them, since each number has a byte at least
abbrev pub numbers_of : List ℕ → List ℤ
numbers_of b = unpack (length b) b

abbrev pub left_of : List ℕ → List ℕ
left_of b = left (length b) b
