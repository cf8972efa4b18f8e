-- "PROGRAM" of document 01: the text that is printed for the bytes of standard input.
use Rattle.std.specs.Prelude.{cond, List, [], ◌∷◌, ◌++◌, ℕ, zero, suc, ◌+◌, ◌/◌, ◌%◌, max, eqb, leb, ltb, ℤ, pos, nat_abs, length, get_or, take, drop}
use Rattle.std.specs.Int.Signed.{non_neg}
use Rattle.rules.specs.declared.Answer.{Answer}
use Rattle.rules.specs.Numbers.{at, count}
use Rattle.rules.specs.declared.Rule.TheVariants.{Nearest}
use Rattle.rules.specs.Recipes.{numbers_of}
use Rattle.rules.specs.Answers.{accepted, refused, ◌or_else◌}
use Rattle.rules.specs.Calls.{Reply, spelling, line, forward_call, inverse_call, allowance_call}

-- ---- numbers in decimal, as bytes of ASCII
abbrev pub powers : List ℕ
powers =
    10000000000000000000 ∷ 1000000000000000000 ∷ 100000000000000000 ∷ 10000000000000000 ∷ 1000000000000000
    ∷ 100000000000000 ∷ 10000000000000 ∷ 1000000000000 ∷ 100000000000 ∷ 10000000000
    ∷ 1000000000 ∷ 100000000 ∷ 10000000 ∷ 1000000 ∷ 100000
    ∷ 10000 ∷ 1000 ∷ 100 ∷ 10 ∷ 1
    ∷ []

abbrev pub power : ℕ → ℕ
power t = get_or powers t 0

-- the digit at a power of ten, if the number reaches it; 0 has the digit at 1
unfoldable pub digit_at : ℕ → ℕ → List ℕ
digit_at p n = cond (leb p (max n 1)) ((48 + n / p % 10) ∷ []) []

-- the digits at the first t powers
unfoldable pub digits : ℕ → ℕ → List ℕ
digits zero n = []
digits (suc t) n = digits t n ++ digit_at (power t) n

-- a number of at most 20 digits, with its sign
unfoldable pub decimal : ℤ → List ℕ
decimal z = cond (non_neg z) (digits 20 (nat_abs z)) (45 ∷ digits 20 (nat_abs z))

-- ---- lines
unfoldable pub spaced : List ℤ → List ℕ
spaced [] = []
spaced (z ∷ v) = (32 ∷ decimal z) ++ spaced v

-- a word, then numbers, each after a blank, then the line's end
unfoldable pub line_of : List ℕ → List ℤ → List ℕ
line_of word v = word ++ (spaced v ++ (10 ∷ []))

abbrev pub say_forward : List ℕ
say_forward = 102 ∷ 111 ∷ 114 ∷ 119 ∷ 97 ∷ 114 ∷ 100 ∷ []

abbrev pub say_back : List ℕ
say_back = 98 ∷ 97 ∷ 99 ∷ 107 ∷ []

abbrev pub say_allow : List ℕ
say_allow = 97 ∷ 108 ∷ 108 ∷ 111 ∷ 119 ∷ []

abbrev pub say_refused : List ℕ
say_refused = 114 ∷ 101 ∷ 102 ∷ 117 ∷ 115 ∷ 101 ∷ 100 ∷ []

-- "A refused call prints `refused`, number, side, place as its line"
unfoldable pub refusal : Answer → List ℕ
refusal a = line_of say_refused (pos a.number ∷ pos a.side ∷ pos a.place ∷ [])

unfoldable pub replied : List ℕ → Reply ℤ → List ℕ
replied word r = cond (eqb r.answer.number 0) (line_of word r.memory) (refusal r.answer)

-- ---- "prints the forward result, the inverse of that, the allowance"; y and z are lent as outputs
unfoldable pub afterwards : List ℤ → List ℤ → List ℤ → List ℕ
afterwards s y z =
    let back = inverse_call Nearest (line s) y z in
    replied say_back back ++ replied say_allow (allowance_call Nearest (line s) back.memory)

-- "after a refused forward run nothing follows"
unfoldable pub ran : List ℤ → List ℤ → List ℤ → List ℤ → List ℕ
ran s x y z =
    let there = forward_call Nearest (line s) x y in
    replied say_forward there ++ cond (eqb there.answer.number 0) (afterwards s there.memory z) []

-- ---- "a count c, c sheet numbers, then the block"
abbrev pub limit : ℕ
limit = 16384

-- where the block starts
abbrev pub block_at : List ℤ → ℕ
block_at v = count v 0 + 1

abbrev pub block_in : List ℤ → List ℤ
block_in v = drop (block_at v) v

abbrev pub sheet_in : List ℤ → List ℤ
sheet_in v = take (count v 0) (drop 1 v)

-- "c missing or not between 0 and the numbers after it: `refused 10 0 0`"; a missing c counts as 0, and then the block would
-- start past the end
unfoldable pub counts : List ℤ → Answer
counts v = cond (non_neg (at v 0)) (cond (leb (block_at v) (length v)) accepted (refused 10 0 0)) (refused 10 0 0)

-- "More bytes: `refused 15 0 16384`. Then 14; then c"
abbrev pub too_many : List ℕ → Answer
too_many b = cond (ltb limit (length b)) (refused 15 0 limit) accepted

abbrev pub input_answer : List ℕ → Answer
input_answer b = too_many b or_else spelling b or_else counts (numbers_of b)

-- the outputs that are lent have the block's length; that they hold the block to begin with can't be seen
abbrev pub session : List ℤ → List ℕ
session v = ran (sheet_in v) (block_in v) (block_in v) (block_in v)

unfoldable pub printed : List ℕ → List ℕ
printed b = cond (eqb (input_answer b).number 0) (session (numbers_of b)) (refusal (input_answer b))
