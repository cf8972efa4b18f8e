-- "WHAT COMES BACK" of document 01: each refusal with its place and side, and the order of faults, as one table. The worked cases
-- (Figures) have few refusals. The table is checked once against the definitions by computation.
use Rattle.std.specs.Prelude.{List, [], ◌∷◌, ◌++◌, map, ◌≡◌, refl, ℕ, zero, suc, ℤ, pos}
use Rattle.whole.specs.Stated.{sum}
use Rattle.rules.specs.declared.Answer.{Answer}
use Rattle.rules.specs.Sheets.{go, times, among, fault_of, one, kind_of, triangle, weights, body, factor, closed, head}
use Rattle.rules.specs.Sheets.{reading}
use Rattle.rules.specs.Factors.{numbers, signs_at, above, entries_before, factor_at, factors_from, factors, has_entry, matrix}
use Rattle.rules.specs.declared.Rule.TheVariants.{Nearest}
use Rattle.rules.specs.Stages.{R, share, ceiling, fill, inside, those, offender, off, weighed, multiples, put_back, forward}
use Rattle.rules.specs.Stages.{recover, undo}
use Rattle.rules.specs.Stages.{allow, later, run, recovery, run_forward, run_inverse, run_allowance}
use Rattle.rules.specs.Shapes.{by_turn, turn, order, in_row, stage_of, line_stage, line_stages, joint_source, joint_sign}
use Rattle.rules.specs.Shapes.{joint_weight, joint_shared, joint_stage, joint_stages, pass_source, pass_sign, pass_weight}
use Rattle.rules.specs.Shapes.{pass_turn, pass_stage, pass_stages}
use Rattle.rules.specs.Recipes.{code, value, spell, group, groups, packed, unpack, left}
use Rattle.rules.specs.Answers.{◌or_else◌, accepted, refused, refused_at, checked, further, first, matching, pair_checked}
use Rattle.rules.specs.Calls.{Reply, reply, read, write, Plan, line, joint, ran_answer, ran_memory, run_reply, forward_call}
use Rattle.rules.specs.Calls.{inverse_call}
use Rattle.rules.specs.Calls.{allowance_call, ruled, two_pass, column_pass, row_pass}
use Rattle.rules.specs.Figures.{Figure, answer-of, gives, spells, neg, two, three, four, nines, found₂, found₄, a, a-bytes}
use Rattle.rules.specs.Figures.{b, d, e}

-- what the check of a sheet answers, and that of a column and a row sheet
abbrev checks : List ℤ → Answer → Figure
checks s answer = record { found = answer-of (checked s); printed = answer-of answer }

abbrev pairs : List ℤ → List ℤ → Answer → Figure
pairs c r answer = record { found = answer-of (pair_checked c r); printed = answer-of answer }

-- a sheet of order 2 of so many factors, and the factors that it may have
abbrev sheet₂ : ℕ → List ℤ → List ℤ
sheet₂ n fs = pos 2 ∷ pos n ∷ fs

abbrev permutation : ℤ → ℤ → List ℤ
permutation p q = pos 1 ∷ p ∷ q ∷ []

abbrev lower : ℤ → ℤ → ℤ → List ℤ
lower x y z = pos 2 ∷ x ∷ y ∷ z ∷ []

abbrev upper : ℤ → ℤ → ℤ → List ℤ
upper x y z = pos 3 ∷ x ∷ y ∷ z ∷ []

abbrev single : ℤ → ℤ → ℤ → ℤ → List ℤ
single r x y z = pos 4 ∷ r ∷ x ∷ y ∷ z ∷ []

-- lower and upper factors by turns, which let allowances grow, and a sheet of ten factors, the last two with entries x and y
unfoldable turns : ℕ → List ℤ
turns zero = []
turns (suc n) = lower (pos 1) (pos 1) (pos 16366) ++ upper (pos 1) (pos 1) (pos 16366) ++ turns n

abbrev growing : ℤ → ℤ → List ℤ
growing x y = sheet₂ 10 (turns 4 ++ lower (pos 1) (pos 1) x ++ upper (pos 1) (pos 1) y)

-- factors of order 3 whose entries are 0 and 1
abbrev lower₃ : List ℤ
lower₃ = pos 2 ∷ pos 1 ∷ pos 1 ∷ pos 1 ∷ pos 4096 ∷ pos 4096 ∷ pos 0 ∷ []

abbrev upper₃ : List ℤ
upper₃ = pos 3 ∷ pos 1 ∷ pos 1 ∷ pos 1 ∷ pos 0 ∷ pos 4096 ∷ pos 4096 ∷ []

abbrev single₃ : List ℤ
single₃ = pos 4 ∷ pos 1 ∷ pos 1 ∷ pos 1 ∷ pos 1 ∷ pos 4096 ∷ pos 4096 ∷ []

abbrev turned₃ : List ℤ
turned₃ = pos 1 ∷ pos 2 ∷ pos 0 ∷ pos 1 ∷ []

abbrev sheet₃ : ℕ → List ℤ → List ℤ
sheet₃ n fs = pos 3 ∷ pos n ∷ fs

abbrev ones : (ℤ → ℤ → ℤ → List ℤ) → List ℤ
ones factor = sheet₂ 1 (factor (pos 1) (pos 1) (pos 4096))

-- the largest number in bound, the next, and the least in bound
abbrev top : ℤ
top = pos 16777215

abbrev over : ℤ
over = pos 16777216

abbrev bottom : ℤ
bottom = neg 16777215

-- a block of three by three, and a lent slice of three
abbrev nine : ℤ → ℤ → ℤ → ℤ → List ℤ
nine x y z t = x ∷ y ∷ pos 0 ∷ z ∷ t ∷ pos 0 ∷ pos 0 ∷ pos 0 ∷ pos 0 ∷ []

abbrev found₃ : List ℤ
found₃ = three (pos 9) (pos 9) (pos 9)

-- a block of three by two, or of two by three
abbrev six : ℤ → ℤ → ℤ → ℤ → ℤ → ℤ → List ℤ
six x y z t u v = x ∷ y ∷ z ∷ t ∷ u ∷ v ∷ []

-- a run refused 11 at a stage for an element, line and pair
abbrev names : (Plan → List ℤ → List ℤ → Reply ℤ) → Plan → List ℤ → List ℤ → ℕ → ℕ → Figure
names call p x y stage element = gives (call p x y) (refused_at 11 0 stage element) y

pub table : List Figure
table =
    -- 1: "sheet ends where a number is needed", at "its length"
    checks [] (refused 1 0 0)
    ∷ checks (pos 2 ∷ []) (refused 1 0 1)
    ∷ checks (sheet₂ 1 []) (refused 1 0 2)
    ∷ checks (sheet₂ 1 (pos 2 ∷ pos 1 ∷ pos 1 ∷ [])) (refused 1 0 5)
    ∷ checks (sheet₂ 1 (pos 4 ∷ pos 1 ∷ pos 1 ∷ pos 1 ∷ [])) (refused 1 0 6)
    ∷ checks (sheet₂ 2 (lower (pos 1) (pos 1) (pos 2048))) (refused 1 0 6)
    -- 2: "n not 1..16", at 0; "the first fault answers", so the sheet 0 is 2 and not 1, and 2 comes before 3
    ∷ checks (pos 0 ∷ []) (refused 2 0 0)
    ∷ checks (pos 17 ∷ pos 0 ∷ []) (refused 2 0 0)
    ∷ checks (neg 2 ∷ pos 1 ∷ []) (refused 2 0 0)
    -- 3: "K not 1..32", at 1; 16 and 32 are still accepted
    ∷ checks (sheet₂ 0 []) (refused 3 0 1)
    ∷ checks (pos 16 ∷ pos 33 ∷ []) (refused 3 0 1)
    ∷ checks (pos 2 ∷ neg 1 ∷ []) (refused 3 0 1)
    ∷ checks (pos 16 ∷ pos 32 ∷ []) (refused 1 0 2)
    -- 4: "kind not 1..4", at its index, also of a later factor
    ∷ checks (sheet₂ 1 (pos 0 ∷ [])) (refused 4 0 2)
    ∷ checks (sheet₂ 1 (pos 5 ∷ [])) (refused 4 0 2)
    ∷ checks (sheet₂ 2 (lower (pos 1) (pos 1) (pos 2048) ++ (neg 2 ∷ []))) (refused 4 0 6)
    ∷ checks (sheet₂ 2 (single (pos 1) (pos 1) (pos 1) (pos 2048) ++ (pos 5 ∷ []))) (refused 4 0 7)
    -- 5: "permutation place or row not 0..n-1", at its index
    ∷ checks (sheet₂ 1 (permutation (pos 0) (pos 2))) (refused 5 0 4)
    ∷ checks (sheet₂ 1 (permutation (neg 1) (pos 0))) (refused 5 0 3)
    ∷ checks (sheet₂ 1 (single (pos 2) (pos 1) (pos 1) (pos 0))) (refused 5 0 3)
    -- 6: "place used earlier in that permutation", at its index; a place out of range that stands twice is 5
    ∷ checks (sheet₂ 1 (permutation (pos 1) (pos 1))) (refused 6 0 4)
    ∷ checks (sheet₂ 2 (permutation (pos 1) (pos 0) ++ permutation (pos 1) (pos 0))) accepted
    ∷ checks (sheet₂ 1 (permutation (pos 2) (pos 2))) (refused 5 0 3)
    ∷ checks (pos 3 ∷ pos 1 ∷ pos 1 ∷ pos 0 ∷ pos 0 ∷ pos 3 ∷ []) (refused 6 0 4)
    -- 7: "sign not 1 or -1", at its index
    ∷ checks (sheet₂ 1 (lower (pos 0) (pos 1) (pos 2048))) (refused 7 0 3)
    ∷ checks (sheet₂ 1 (upper (neg 1) (pos 2) (pos 16385))) (refused 7 0 4)
    ∷ checks (sheet₂ 1 (single (pos 1) (pos 1) (neg 2) (pos 2048))) (refused 7 0 5)
    -- 8: "entry beyond 16384", at its index; 16384 and -16384 are accepted
    ∷ checks (sheet₂ 1 (lower (pos 1) (pos 1) (pos 16385))) (refused 8 0 5)
    ∷ checks (sheet₂ 1 (upper (pos 1) (pos 1) (neg 16385))) (refused 8 0 5)
    ∷ checks (sheet₂ 1 (single (pos 1) (pos 1) (pos 1) (pos 16385))) (refused 8 0 6)
    ∷ checks (sheet₂ 2 (lower (pos 1) (pos 1) (pos 16384) ++ upper (pos 1) (pos 1) (neg 16384))) accepted
    -- 9: "numbers after the last factor", at the "first of them"
    ∷ checks (a ++ (pos 0 ∷ pos 0 ∷ [])) (refused 9 0 6)
    ∷ checks (sheet₂ 1 (permutation (pos 1) (pos 0) ++ (pos 1 ∷ []))) (refused 9 0 5)
    -- "Side is 1 for the row sheet of a pair"
    ∷ pairs a [] (refused 1 1 0)
    ∷ pairs a (sheet₂ 1 (lower (pos 1) (pos 0) (pos 2048))) (refused 7 1 4)
    -- "Order: column sheet, row sheet, 12": here the row sheet's fault has the smaller number, or the kinds differ
    ∷ pairs (a ++ (pos 0 ∷ [])) [] (refused 9 0 6)
    ∷ pairs a (sheet₂ 1 (upper (pos 1) (pos 1) (pos 16385))) (refused 8 1 5)
    -- 12: "first position whose kinds differ, else the smaller count"
    ∷ pairs a (sheet₂ 1 (upper (pos 1) (pos 1) (pos 2048))) (refused 12 0 0)
    ∷ pairs b (sheet₂ 2 (turns 1)) accepted
    ∷ pairs b (sheet₂ 2 (lower (pos 1) (pos 1) (pos 0) ++ lower (pos 1) (pos 1) (pos 0))) (refused 12 0 1)
    ∷ pairs a b (refused 12 0 1)
    ∷ pairs (growing (pos 0) (pos 0)) b (refused 12 0 2)
    -- kinds differ and counts too: the position comes first
    ∷ pairs b (sheet₂ 1 (upper (pos 1) (pos 1) (pos 2048))) (refused 12 0 0)
    -- "orders and single rows may differ"
    ∷ pairs d (sheet₂ 1 (single (pos 0) (pos 1) (pos 1) (pos 2048))) accepted
    -- a run: 1 to 9, then "12, 10 for the input, 10 for the output, then 11 or 13"; "Side is 1 .. for the output of 10"
    ∷ gives (forward_call Nearest (line (sheet₂ 0 [])) [] found₂) (refused 3 0 1) found₂
    ∷ gives (forward_call Nearest (joint a (sheet₂ 1 (upper (pos 1) (pos 1) (pos 2048)))) [] found₄) (refused 12 0 0) found₄
    ∷ gives (forward_call Nearest (line a) [] []) (refused 10 0 0) []
    ∷ gives (forward_call Nearest (line a) (two (pos 16777216) (pos 0)) []) (refused 10 1 0) []
    ∷ gives (forward_call Nearest (line a) (pos 16777216 ∷ []) found₂) (refused 10 0 0) found₂
    ∷ gives (forward_call Nearest (joint a a) (two (pos 1) (pos 1)) found₄) (refused 10 0 0) found₄
    -- 11 of an inverse run: the "stage" counts the factors undone, the last factor first
    ∷ gives (inverse_call Nearest (line e) (two (pos 16777215) (neg 1)) found₂) (refused_at 11 0 1 1) found₂
    ∷ gives
    (inverse_call Nearest (line (sheet₂ 2 (lower (pos 1) (pos 1) (pos 4096) ++ permutation (pos 0) (pos 1))))
    (two (pos 16777215) (neg 1)) found₂)
    (refused_at 11 0 2 1) found₂
    -- 11 of request R-7: with several numbers beyond the bound, "in a forward run and at stage 0 the first offending element in
    -- reading order, in an inverse run the first in 01's recovery order for that factor". Stage 0, forward and back
    ∷ names (forward_call Nearest) (line (sheet₃ 1 upper₃)) (three (pos 0) over (neg 16777216)) found₃ 0 1
    ∷ names (inverse_call Nearest) (line (sheet₃ 1 upper₃)) (three (pos 0) over (neg 16777216)) found₃ 0 1
    ∷ names (inverse_call Nearest) (joint (ones upper) (ones upper)) (four (pos 0) over (pos 0) (neg 16777216)) found₄ 0 1
    -- a line: kind 2 from the top both ways; kind 3 from the top, back from the bottom; kind 4 with r in the middle
    ∷ names (forward_call Nearest) (line (sheet₃ 1 lower₃)) (three (pos 1) top top) found₃ 1 1
    ∷ names (inverse_call Nearest) (line (sheet₃ 1 lower₃)) (three (neg 1) top top) found₃ 1 1
    ∷ names (forward_call Nearest) (line (sheet₃ 1 upper₃)) (three top top (pos 1)) found₃ 1 0
    ∷ names (inverse_call Nearest) (line (sheet₃ 1 upper₃)) (three top top (neg 1)) found₃ 1 1
    ∷ names (forward_call Nearest) (line (sheet₃ 1 single₃)) (three (pos 1) top (pos 0)) found₃ 1 1
    ∷ names (inverse_call Nearest) (line (sheet₃ 1 single₃)) (three (neg 1) top (pos 0)) found₃ 1 1
    -- at stage 2, after a permutation
    ∷ names (forward_call Nearest) (line (sheet₃ 2 (turned₃ ++ upper₃))) (three top (pos 1) top) found₃ 2 0
    ∷ names (inverse_call Nearest) (line (sheet₃ 2 (upper₃ ++ turned₃))) (three (neg 1) top top) found₃ 2 1
    -- a rectangle, its elements counted row by row over the whole block
    ∷ names (forward_call Nearest) (joint e e) (four (pos 1) top top bottom) found₄ 1 1
    ∷ names (inverse_call Nearest) (joint e e) (four (neg 1) top top top) found₄ 1 1
    ∷ names (forward_call Nearest) (joint (ones upper) (ones upper)) (four bottom top top (pos 1)) found₄ 1 0
    ∷ names (inverse_call Nearest) (joint (ones upper) (ones upper)) (four top top top (neg 1)) found₄ 1 2
    -- kind 4: both (0,0) of column q and (1,1) of row r lie beyond, and row r comes first; r and q in the middle: (0,1) of column
    -- q and (1,0) of row r
    ∷ names (forward_call Nearest) (joint (ones (single (pos 1))) (ones (single (pos 0)))) (four top (pos 1) bottom top) found₄ 1 0
    ∷ names (inverse_call Nearest) (joint (ones (single (pos 1))) (ones (single (pos 0)))) (four top (neg 1) top top) found₄ 1 3
    ∷ names (forward_call Nearest) (joint (sheet₃ 1 single₃) (sheet₃ 1 single₃)) (nine (pos 1) top top bottom) (nines 9) 1 1
    ∷ names (inverse_call Nearest) (joint (sheet₃ 1 single₃) (sheet₃ 1 single₃)) (nine (neg 1) top top top) (nines 9) 1 3
    -- R-4, "in a two-pass inverse or the inverse of a pass alone, line after line by number": kind 2 down two columns, where 3 is
    -- first in reading order and 4 in column 0; kind 3 down two columns, 0 and 2; kind 3 along two rows, 0 and 1
    ∷ names (forward_call Nearest) (column_pass (sheet₃ 1 lower₃) 2) (six (pos 1) (pos 1) (pos 0) top top (pos 0)) (nines 6) 1 3
    ∷ names (inverse_call Nearest) (column_pass (sheet₃ 1 lower₃) 2) (six (neg 1) (neg 1) (pos 0) top top (pos 0)) (nines 6) 1 4
    ∷ names (forward_call Nearest) (column_pass (sheet₃ 1 upper₃) 2) (six top top top top (pos 1) (pos 1)) (nines 6) 1 0
    ∷ names (inverse_call Nearest) (column_pass (sheet₃ 1 upper₃) 2) (six top top top top (neg 1) (neg 1)) (nines 6) 1 2
    ∷ names (forward_call Nearest) (row_pass (sheet₃ 1 upper₃) 2) (six top top (pos 1) top top (pos 1)) (nines 6) 1 0
    ∷ names (inverse_call Nearest) (row_pass (sheet₃ 1 upper₃) 2) (six top top (neg 1) top top (neg 1)) (nines 6) 1 1
    ∷ names (inverse_call Nearest) (column_pass (sheet₃ 1 lower₃) 2) (six (pos 0) over over (pos 0) (pos 0) (pos 0)) (nines 6) 0 1
    -- two passes, "counted in the order applied or undone": the columns first, or last
    ∷ names (forward_call Nearest) (two_pass (sheet₃ 1 lower₃) (ones upper))
    (six (pos 1) (pos 1) (pos 0) top top (pos 0)) (nines 6) 1 3
    ∷ names (forward_call Nearest) (two_pass (sheet₃ 1 turned₃) (ones upper))
    (six top (pos 1) (pos 0) (pos 0) top (pos 1)) (nines 6) 2 0
    ∷ names (inverse_call Nearest) (two_pass e (sheet₃ 1 upper₃)) (six top top (neg 1) top top (neg 1)) (nines 6) 1 1
    ∷ names (inverse_call Nearest)
    (two_pass (sheet₃ 1 lower₃) (sheet₂ 2 (permutation (pos 1) (pos 0) ++ upper (pos 1) (pos 1) (pos 4096))))
    (six (neg 2) (neg 1) top (pos 0) top top) (nines 6) 3 4
    -- 13: "allowance above its limit at some element", at the "first stage"; it names no element. One of 67108863 is accepted,
    -- 67108864 is refused
    ∷ gives (allowance_call Nearest (line (growing (pos 1768) (pos 533))) found₂) accepted (two (pos 67108863) (pos 41240528))
    ∷ gives (allowance_call Nearest (line (growing (pos 1996) (pos 492))) found₂) (refused 13 0 10) found₂
    ∷ gives (allowance_call Nearest (line (growing (pos 16384) (pos 16384))) found₂) (refused 13 0 9) found₂
    -- 10, of the output, before it
    ∷ gives (allowance_call Nearest (line (growing (pos 16384) (pos 16384))) []) (refused 10 1 0) []
    -- two passes: the row pass at stages after the column pass's one, and from allowances that are not 0, so earlier
    ∷ gives (allowance_call Nearest (two_pass (growing (pos 16384) (pos 16384)) e) found₄) (refused 13 0 9) found₄
    ∷ gives (allowance_call Nearest (two_pass e (growing (pos 16384) (pos 16384))) found₄) (refused 13 0 10) found₄
    ∷ gives (allowance_call Nearest (two_pass a (growing (pos 16384) (pos 16384))) found₄) (refused 13 0 8) found₄
    -- request R-4, "as for the joint run, without 12": the column sheet, the row sheet with side 1, the input, the output
    ∷ gives (forward_call Nearest (two_pass (a ++ (pos 0 ∷ [])) []) [] found₄) (refused 9 0 6) found₄
    ∷ gives (inverse_call Nearest (two_pass a []) [] found₄) (refused 1 1 0) found₄
    ∷ gives (forward_call Nearest (two_pass a (ones upper)) [] []) (refused 10 0 0) []
    ∷ gives (inverse_call Nearest (two_pass a b) (two over over) found₂) (refused 10 0 0) found₂
    ∷ gives (forward_call Nearest (two_pass a d) (six over over over over over over) found₂) (refused 10 1 0) found₂
    ∷ gives (allowance_call Nearest (two_pass a (sheet₂ 0 [])) []) (refused 3 1 1) []
    ∷ gives (allowance_call Nearest (two_pass a (growing (pos 16384) (pos 16384))) []) (refused 10 1 0) []
    -- a pass alone: the sheet, with side 0 whichever way it goes; the other order, "refused 2, place 0, after the sheet's own
    -- faults"; the input, the output. 1 and 16 are orders
    ∷ gives (forward_call Nearest (column_pass (a ++ (pos 0 ∷ [])) 0) [] found₂) (refused 9 0 6) found₂
    ∷ gives (inverse_call Nearest (row_pass (sheet₂ 0 []) 17) [] found₂) (refused 3 0 1) found₂
    ∷ gives (forward_call Nearest (column_pass a 0) [] []) (refused 2 0 0) []
    ∷ gives (inverse_call Nearest (column_pass a 17) [] found₂) (refused 2 0 0) found₂
    ∷ gives (forward_call Nearest (row_pass a 0) (two over over) found₂) (refused 2 0 0) found₂
    ∷ gives (inverse_call Nearest (row_pass a 17) [] found₂) (refused 2 0 0) found₂
    ∷ gives (forward_call Nearest (row_pass a 4294967295) [] []) (refused 2 0 0) []
    ∷ gives (forward_call Nearest (column_pass a 16) [] []) (refused 10 0 0) []
    ∷ gives (inverse_call Nearest (row_pass a 16) (two over over) found₂) (refused 10 0 0) found₂
    ∷ gives (forward_call Nearest (column_pass a 1) (two over over) found₄) (refused 10 1 0) found₄
    ∷ gives (inverse_call Nearest (row_pass a 2) (four over over over over) found₂) (refused 10 1 0) found₂
    -- 14: "number cut, too long or not shortest", at "its first byte"
    ∷ gives (read (0x04 ∷ 0x80 ∷ []) found₂) (refused 14 0 1) found₂
    ∷ gives (read (0x80 ∷ 0x80 ∷ 0x80 ∷ 0x01 ∷ []) found₂) (refused 14 0 0) found₂
    ∷ gives (read (0x80 ∷ 0x01 ∷ 0x80 ∷ 0x80 ∷ 0x00 ∷ []) found₂) (refused 14 0 2) found₂
    -- "The reader answers 14 for the whole byte string first, then 1 to 9, then 15": 14 with 2 and with 9, 2 and 1 with no room
    ∷ gives (read (0x00 ∷ 0x84 ∷ 0x00 ∷ []) found₂) (refused 14 0 1) found₂
    ∷ gives (read (a-bytes ++ (0x80 ∷ [])) []) (refused 14 0 7) []
    ∷ gives (read (0x00 ∷ []) []) (refused 2 0 0) []
    ∷ gives (read [] found₂) (refused 1 0 0) found₂
    -- "the writer 1 to 9, then 15", at "the count needed"
    ∷ spells (write (a ++ (pos 0 ∷ [])) []) (refused 9 0 6) []
    ∷ spells (write a (1 ∷ 1 ∷ [])) (refused 15 0 7) (1 ∷ 1 ∷ [])
    -- 16, request R-5: "16 for a rule not 0, 1 or 2, place 0, before all others": with 1, 12, 10 for the output, 11 and 13
    ∷ gives (ruled 2 forward_call (line []) [] []) (refused 1 0 0) []
    ∷ gives (ruled 3 forward_call (line []) [] []) (refused 16 0 0) []
    ∷ gives (ruled 4 inverse_call (joint a d) (two (pos 1) (pos 2)) found₂) (refused 16 0 0) found₂
    ∷ gives (ruled 256 forward_call (line a) (two (pos 1) (pos 2)) found₄) (refused 16 0 0) found₄
    ∷ gives (ruled 65536 inverse_call (line e) (two (pos 16777216) (pos 0)) found₂) (refused 16 0 0) found₂
    ∷ gives (ruled 4294967295 allowance_call (line (growing (pos 16384) (pos 16384))) found₂) (refused 16 0 0) found₂
    ∷ gives (ruled 3 forward_call (two_pass [] []) [] []) (refused 16 0 0) []
    ∷ gives (ruled 3 allowance_call (two_pass a []) []) (refused 16 0 0) []
    ∷ gives (ruled 3 inverse_call (column_pass [] 0) [] []) (refused 16 0 0) []
    ∷ gives (ruled 3 forward_call (row_pass a 17) [] []) (refused 16 0 0) []
    ∷ []

-- every case answers what document 01 says
pub refusals : map (λ (f : Figure). f.found) table ≡ map (λ (f : Figure). f.printed) table
unfolding table turns sum go times among fault_of one kind_of triangle weights body factor closed head reading numbers signs_at above
    entries_before factor_at factors_from factors has_entry matrix R share ceiling fill inside offender off weighed multiples put_back
    forward recover undo allow later run recovery run_forward run_inverse run_allowance those by_turn turn order in_row stage_of
    line_stage line_stages joint_source joint_sign joint_weight joint_shared joint_stage joint_stages pass_source pass_sign pass_weight
    pass_turn pass_stage pass_stages code value spell group groups packed unpack left ◌or_else◌ further first matching pair_checked
    reply read write line joint two_pass column_pass row_pass ran_answer ran_memory run_reply forward_call inverse_call allowance_call
refusals = refl
