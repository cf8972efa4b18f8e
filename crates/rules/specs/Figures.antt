-- "FIGURES TO PROVE" of document 01: cases a to h as one table, checked once against the definitions by computation.
use Rattle.std.specs.Prelude.{List, [], ◌∷◌, ◌++◌, map, ◌≡◌, refl, ℕ, ◌+◌, ◌-◌, ◌*◌, ℤ, pos, neg_ℤ, replicate}
use Rattle.whole.specs.Stated.{sum}
use Rattle.rules.specs.declared.Answer.{Answer}
use Rattle.rules.specs.declared.Kind.{Kind}
use Rattle.rules.specs.declared.Kind.TheVariants.{Lower, Upper, Single}
use Rattle.rules.specs.Numbers.{unit, unit²}
use Rattle.rules.specs.Sheets.{go, times, among, fault_of, one, kind_of, triangle, weights, body, factor, closed, head}
use Rattle.rules.specs.Sheets.{reading}
use Rattle.rules.specs.Factors.{Factor, numbers, signs_at, above, entries_before, factor_at, factors_from, factors, has_entry}
use Rattle.rules.specs.Factors.{matrix}
use Rattle.rules.specs.declared.Rule.TheVariants.{Nearest, Down, Even}
use Rattle.rules.specs.Stages.{to_even, R, share, ceiling, fill, inside, those, offender, off, weighed, multiples, put_back}
use Rattle.rules.specs.Stages.{forward, recover}
use Rattle.rules.specs.Stages.{undo}
use Rattle.rules.specs.Stages.{allow, later, run, recovery, run_forward, run_inverse, run_allowance}
use Rattle.rules.specs.Shapes.{by_turn, turn, order, in_row, stage_of, line_stage, line_stages, joint_source, joint_sign}
use Rattle.rules.specs.Shapes.{joint_weight, joint_shared, joint_stage, joint_stages, Lines, columns, rows, pass_source}
use Rattle.rules.specs.Shapes.{pass_sign, pass_weight, pass_turn, pass_stage, pass_stages}
use Rattle.rules.specs.Recipes.{code, value, spell, group, groups, packed, unpack, left, written}
use Rattle.rules.specs.Answers.{◌or_else◌, accepted, counted, refused, refused_at, further, first, matching, pair_checked}
use Rattle.rules.specs.Strips.{StripReply, strip_answer, outputs, bytes_of, strip}
use Rattle.rules.specs.Calls.{Reply, reply, read, write, built_in, first_printing, write_table, line, joint, ran_answer}
use Rattle.rules.specs.Calls.{ran_memory, run_reply, forward_call, inverse_call, allowance_call, rule_of, ruled, two_pass}
use Rattle.rules.specs.Calls.{column_pass, row_pass}

-- what a case shows, and what document 01 prints for it
pub data Shown : Type 0 where
  answer-of : Answer → Shown
  numbers_of : Reply ℤ → Shown
  bytes-of : Reply ℕ → Shown
  bytes : List ℕ → Shown
  strip-of : StripReply → Shown

pub record Figure : Type 0 where
  pub found : Shown
  pub printed : Shown

abbrev pub gives : Reply ℤ → Answer → List ℤ → Figure
gives r a v = record { found = numbers_of r; printed = numbers_of (record { answer = a; memory = v }) }

abbrev pub spells : Reply ℕ → Answer → List ℕ → Figure
spells r a l = record { found = bytes-of r; printed = bytes-of (record { answer = a; memory = l }) }

-- a forward strip of the built-in recipe
abbrev strips : List ℤ → List ℤ → List ℕ → Answer → List ℤ → List ℕ → Figure
strips x y b a out marks = record {
  found = strip-of (strip (line built_in) (forward_call Nearest (line built_in)) x y b);
  printed = strip-of (record { answer = a; output = out; bytes = marks });
}

-- numbers as document 01 writes them
abbrev pub neg : ℕ → ℤ
neg n = neg_ℤ (pos n)

abbrev pub two : ℤ → ℤ → List ℤ
two x y = x ∷ y ∷ []

abbrev pub three : ℤ → ℤ → ℤ → List ℤ
three x y z = x ∷ y ∷ z ∷ []

abbrev pub four : ℤ → ℤ → ℤ → ℤ → List ℤ
four x y z t = x ∷ y ∷ z ∷ t ∷ []

abbrev pub nines : ℕ → List ℤ
nines n = replicate n (pos 9)

abbrev blocks₃ : ℤ → ℤ → ℤ → ℤ → List ℤ
blocks₃ x o y z = x ∷ o ∷ o ∷ o ∷ o ∷ y ∷ o ∷ o ∷ o ∷ z ∷ o ∷ o ∷ []

-- what the lent slice holds before a call
abbrev pub found₂ : List ℤ
found₂ = two (pos 9) (neg 9)

abbrev pub found₄ : List ℤ
found₄ = four (pos 0) (pos 0) (pos 0) (pos 0)

abbrev pub a : List ℤ
a = pos 2 ∷ pos 1 ∷ pos 2 ∷ pos 1 ∷ pos 1 ∷ pos 2048 ∷ []

abbrev pub a-bytes : List ℕ
a-bytes = 0x04 ∷ 0x02 ∷ 0x04 ∷ 0x02 ∷ 0x02 ∷ 0x80 ∷ 0x20 ∷ []

abbrev pub b : List ℤ
b = pos 2 ∷ pos 2 ∷ pos 2 ∷ pos 1 ∷ pos 1 ∷ pos 2048 ∷ pos 3 ∷ pos 1 ∷ neg 1 ∷ neg 6144 ∷ []

abbrev c : List ℤ
c = pos 3 ∷ pos 1 ∷ pos 1 ∷ pos 2 ∷ pos 0 ∷ pos 1 ∷ []

abbrev pub d : List ℤ
d = pos 3 ∷ pos 1 ∷ pos 4 ∷ pos 1 ∷ pos 1 ∷ neg 1 ∷ pos 1 ∷ pos 4096 ∷ pos 1024 ∷ []

abbrev pub e : List ℤ
e = pos 2 ∷ pos 1 ∷ pos 2 ∷ pos 1 ∷ pos 1 ∷ pos 4096 ∷ []

-- R-5: "long chains drift upward": a half of the first number added to the second and taken off again, four times
abbrev there-and-off : List ℤ
there-and-off = pos 2 ∷ pos 1 ∷ pos 1 ∷ pos 2048 ∷ pos 2 ∷ pos 1 ∷ pos 1 ∷ neg 2048 ∷ []

abbrev drifting : List ℤ
drifting = pos 2 ∷ pos 8 ∷ there-and-off ++ there-and-off ++ there-and-off ++ there-and-off

-- R-4: "triangles for its columns and single rows for its 4 bands"
abbrev triangles : List ℤ
triangles =
    pos 4 ∷ pos 2
    ∷ pos 2 ∷ pos 1 ∷ pos 1 ∷ pos 1 ∷ pos 1 ∷ neg 4096 ∷ pos 0 ∷ neg 4096 ∷ pos 0 ∷ pos 0 ∷ neg 4096
    ∷ pos 3 ∷ pos 1 ∷ pos 1 ∷ pos 1 ∷ pos 1 ∷ pos 3072 ∷ pos 2048 ∷ pos 1024 ∷ pos 0 ∷ pos 0 ∷ pos 0
    ∷ []

abbrev bands : List ℤ
bands =
    pos 4 ∷ pos 4
    ∷ pos 4 ∷ pos 0 ∷ pos 1 ∷ pos 1 ∷ pos 1 ∷ pos 1 ∷ neg 4096 ∷ pos 0 ∷ pos 0
    ∷ pos 4 ∷ pos 2 ∷ pos 1 ∷ pos 1 ∷ pos 1 ∷ pos 1 ∷ pos 0 ∷ neg 4096 ∷ pos 0
    ∷ pos 4 ∷ pos 3 ∷ pos 1 ∷ pos 1 ∷ pos 1 ∷ pos 1 ∷ pos 0 ∷ neg 4096 ∷ pos 0
    ∷ pos 4 ∷ pos 1 ∷ pos 1 ∷ pos 1 ∷ pos 1 ∷ pos 1 ∷ pos 1024 ∷ pos 1024 ∷ pos 1024
    ∷ []

-- a block of the camera: as it comes, after the column pass, after both passes
abbrev samples : List ℤ
samples =
    four (pos 101) (pos 104) (pos 97) (pos 121) ++ four (pos 103) (pos 107) (pos 98) (pos 124)
    ++ four (pos 102) (pos 105) (pos 99) (pos 127) ++ four (pos 98) (pos 101) (pos 96) (pos 122)

abbrev between : List ℤ
between =
    four (pos 101) (pos 104) (pos 98) (pos 124) ++ four (pos 2) (pos 3) (pos 1) (pos 3)
    ++ four (neg 1) (neg 2) (pos 1) (pos 3) ++ four (neg 4) (neg 4) (neg 3) (neg 5)

abbrev coefficients : List ℤ
coefficients =
    four (neg 3) (pos 107) (neg 6) (pos 20) ++ four (neg 1) (pos 2) (neg 2) (pos 0)
    ++ four (pos 1) (pos 0) (pos 3) (pos 5) ++ four (pos 0) (neg 4) (pos 1) (neg 1)

abbrev shares : List ℤ
shares = four (pos 0) (pos 2048) (pos 0) (pos 0)

pub table : List Figure
table =
    -- a: "(3,5) to (3,7); (-2,5) to (-2,4); (-1,5) to (-1,5); bytes 04 02 04 02 02 80 20; allowance 0, 2048"
    gives (forward_call Nearest (line a) (two (pos 3) (pos 5)) found₂) accepted (two (pos 3) (pos 7))
    ∷ gives (forward_call Nearest (line a) (two (neg 2) (pos 5)) found₂) accepted (two (neg 2) (pos 4))
    ∷ gives (forward_call Nearest (line a) (two (neg 1) (pos 5)) found₂) accepted (two (neg 1) (pos 5))
    ∷ spells (write a (1 ∷ 1 ∷ 1 ∷ 1 ∷ 1 ∷ 1 ∷ 1 ∷ 1 ∷ [])) (counted 7) (0x04 ∷ 0x02 ∷ 0x04 ∷ 0x02 ∷ 0x02 ∷ 0x80 ∷ 0x20 ∷ 1 ∷ [])
    ∷ gives (read a-bytes (pos 2 ∷ pos 1 ∷ pos 2 ∷ pos 9 ∷ pos 9 ∷ pos 9 ∷ [])) (counted 6) a
    ∷ gives (read a-bytes found₂) (refused 15 0 6) found₂
    ∷ gives (allowance_call Nearest (line a) found₂) accepted (two (pos 0) (pos 2048))
    -- b: "(3,5) to (-7,-7), back to (3,5)", and the allowance that "Program" prints
    ∷ gives (forward_call Nearest (line b) (two (pos 3) (pos 5)) found₂) accepted (two (neg 7) (neg 7))
    ∷ gives (inverse_call Nearest (line b) (two (neg 7) (neg 7)) found₂) accepted (two (pos 3) (pos 5))
    ∷ gives (allowance_call Nearest (line b) found₂) accepted (two (pos 5120) (pos 2048))
    -- c: "(10,20,30) to (30,10,20)"
    ∷ gives (forward_call Nearest (line c) (three (pos 10) (pos 20) (pos 30)) (three (pos 0) (pos 0) (pos 0))) accepted
    (three (pos 30) (pos 10) (pos 20))
    -- d: "(4,7,3) to (4,-2,3); allowance 0, 2048, 0"
    ∷ gives (forward_call Nearest (line d) (three (pos 4) (pos 7) (pos 3)) (three (pos 0) (pos 0) (pos 0))) accepted
    (three (pos 4) (neg 2) (pos 3))
    ∷ gives (allowance_call Nearest (line d) (three (pos 0) (pos 0) (pos 0))) accepted (three (pos 0) (pos 2048) (pos 0))
    -- e: "(16777215,0) accepted; (16777215,1) refused 11 at stage 1; (16777216,0) at stage 0; allowance 0, 0"
    ∷ gives (forward_call Nearest (line e) (two (pos 16777215) (pos 0)) found₂) accepted (two (pos 16777215) (pos 16777215))
    ∷ gives (forward_call Nearest (line e) (two (pos 16777215) (pos 1)) found₂) (refused_at 11 0 1 1) found₂
    ∷ gives (forward_call Nearest (line e) (two (pos 16777216) (pos 0)) found₂) (refused 11 0 0) found₂
    ∷ gives (allowance_call Nearest (line e) found₂) accepted (two (pos 0) (pos 0))
    -- f: "sheet a on both sides: rows (1,1),(0,0) to (1,2),(1,1)", and back
    ∷ gives (forward_call Nearest (joint a a) (four (pos 1) (pos 1) (pos 0) (pos 0)) found₄) accepted
    (four (pos 1) (pos 2) (pos 1) (pos 1))
    ∷ gives (inverse_call Nearest (joint a a) (four (pos 1) (pos 2) (pos 1) (pos 1)) found₄) accepted
    (four (pos 1) (pos 1) (pos 0) (pos 0))
    -- g: "built-in: (100,0,0,0) to (50,50,50,50)", and back: from the top for kind 2, from the bottom for kind 3; in both
    -- printings
    ∷ gives (forward_call Nearest (line built_in) (four (pos 100) (pos 0) (pos 0) (pos 0)) found₄) accepted
    (four (pos 50) (pos 50) (pos 50) (pos 50))
    ∷ gives (inverse_call Nearest (line built_in) (four (pos 50) (pos 50) (pos 50) (pos 50)) found₄) accepted
    (four (pos 100) (pos 0) (pos 0) (pos 0))
    ∷ gives (forward_call Nearest (line first_printing) (four (pos 100) (pos 0) (pos 0) (pos 0)) found₄) accepted
    (four (pos 50) (pos 50) (pos 50) (pos 50))
    ∷ gives (inverse_call Nearest (line first_printing) (four (pos 50) (pos 50) (pos 50) (pos 50)) found₄) accepted
    (four (pos 100) (pos 0) (pos 0) (pos 0))
    -- R-2: "sends (0,100,0,0) to (163,-94,94,-65)", and as corrected to "(65,28,-28,-65)"
    ∷ gives (forward_call Nearest (line first_printing) (four (pos 0) (pos 100) (pos 0) (pos 0)) found₄) accepted
    (four (pos 163) (neg 94) (pos 94) (neg 65))
    ∷ gives (forward_call Nearest (line built_in) (four (pos 0) (pos 100) (pos 0) (pos 0)) found₄) accepted
    (four (pos 65) (pos 28) (neg 28) (neg 65))
    -- cosine coefficients "come from the inverse run": of a flat block, and of a slope
    ∷ gives (inverse_call Nearest (line built_in) (four (pos 100) (pos 100) (pos 100) (pos 100)) found₄) accepted
    (four (pos 200) (pos 0) (pos 0) (pos 0))
    ∷ gives (inverse_call Nearest (line built_in) (four (pos 100) (pos 110) (pos 120) (pos 130)) found₄) accepted
    (four (pos 230) (neg 22) (pos 0) (neg 1))
    ∷ gives (write_table built_in found₂) (refused 15 0 45) found₂
    ∷ gives (write_table first_printing found₂) (refused 15 0 45) found₂
    -- R-1: three blocks end to end, the second beyond the bound; no blocks; no whole number of blocks
    ∷ strips (blocks₃ (pos 100) (pos 0) (pos 16777216) (pos 100)) (nines 12) (7 ∷ 7 ∷ 7 ∷ []) accepted
    (pos 50 ∷ pos 50 ∷ pos 50 ∷ pos 50 ∷ pos 9 ∷ pos 9 ∷ pos 9 ∷ pos 9 ∷ pos 65 ∷ pos 28 ∷ neg 28 ∷ neg 65 ∷ []) (0 ∷ 11 ∷ 0 ∷ [])
    ∷ strips [] [] [] accepted [] []
    ∷ strips (nines 3) (nines 3) [] (refused 10 0 0) (nines 3) []
    ∷ strips (nines 3) (nines 4) [] (refused 10 0 0) (nines 4) []
    ∷ strips (nines 4) (nines 4) [] (refused 10 1 0) (nines 4) []
    -- R-5: halves above and below zero under rules 0, 1 and 2; a pair; back; the share of rule 1; 16 before a sheet's own fault
    ∷ gives (ruled 0 forward_call (line a) (two (pos 1) (pos 5)) found₂) accepted (two (pos 1) (pos 6))
    ∷ gives (ruled 1 forward_call (line a) (two (pos 1) (pos 5)) found₂) accepted (two (pos 1) (pos 5))
    ∷ gives (ruled 2 forward_call (line a) (two (pos 1) (pos 5)) found₂) accepted (two (pos 1) (pos 5))
    ∷ gives (ruled 2 forward_call (line a) (two (pos 3) (pos 5)) found₂) accepted (two (pos 3) (pos 7))
    ∷ gives (ruled 0 forward_call (line a) (two (neg 3) (pos 5)) found₂) accepted (two (neg 3) (pos 4))
    ∷ gives (ruled 1 forward_call (line a) (two (neg 3) (pos 5)) found₂) accepted (two (neg 3) (pos 3))
    ∷ gives (ruled 2 forward_call (line a) (two (neg 3) (pos 5)) found₂) accepted (two (neg 3) (pos 3))
    ∷ gives (ruled 2 forward_call (line a) (two (neg 1) (pos 5)) found₂) accepted (two (neg 1) (pos 5))
    -- (0,1) has 1 of its own and a half beside it, which goes to 0; 1 and a half together would go to 2
    ∷ gives (ruled 2 forward_call (joint a a) (four (pos 1) (pos 1) (pos 0) (pos 0)) found₄) accepted
    (four (pos 1) (pos 1) (pos 0) (pos 1))
    ∷ gives (ruled 1 inverse_call (joint a a) (four (pos 1) (pos 1) (pos 1) (pos 1)) found₄) accepted
    (four (pos 1) (pos 1) (pos 1) (pos 0))
    ∷ gives (ruled 0 forward_call (line drifting) (two (pos 1) (pos 0)) found₂) accepted (two (pos 1) (pos 4))
    ∷ gives (ruled 1 forward_call (line drifting) (two (pos 1) (pos 0)) found₂) accepted (two (pos 1) (neg 4))
    ∷ gives (ruled 2 forward_call (line drifting) (two (pos 1) (pos 0)) found₂) accepted (two (pos 1) (pos 0))
    ∷ gives (ruled 1 allowance_call (line a) found₂) accepted (two (pos 0) (pos 4096))
    ∷ gives (ruled 2 allowance_call (line a) found₂) accepted (two (pos 0) (pos 2048))
    ∷ gives (ruled 3 forward_call (line []) [] found₂) (refused 16 0 0) found₂
    ∷ gives (ruled 4294967295 allowance_call (joint [] a) found₂) (refused 16 0 0) found₂
    -- R-4: "12 forbids the pair", and the two-pass run takes it: forward, back, the allowances
    ∷ record { found = answer-of (pair_checked triangles bands); printed = answer-of (refused 12 0 0) }
    ∷ gives (forward_call Nearest (two_pass triangles bands) samples (nines 16)) accepted coefficients
    ∷ gives (inverse_call Nearest (two_pass triangles bands) coefficients (nines 16)) accepted samples
    ∷ gives (allowance_call Nearest (two_pass triangles bands) (nines 16)) accepted
    (four (pos 4096) (pos 7168) (pos 4096) (pos 4096) ++ shares ++ shares ++ shares)
    -- "One pass alone .. is a call too, with the other order given as a number": one and then the other, and back
    ∷ gives (forward_call Nearest (column_pass triangles 4) samples (nines 16)) accepted between
    ∷ gives (forward_call Nearest (row_pass bands 4) between (nines 16)) accepted coefficients
    ∷ gives (inverse_call Nearest (row_pass bands 4) coefficients (nines 16)) accepted between
    ∷ gives (inverse_call Nearest (column_pass triangles 4) between (nines 16)) accepted samples
    -- case f by two passes ends in 2; with the rows first it would end in 1, as the joint run does
    ∷ gives (forward_call Nearest (two_pass a a) (four (pos 1) (pos 1) (pos 0) (pos 0)) found₄) accepted
    (four (pos 1) (pos 2) (pos 1) (pos 2))
    ∷ gives (inverse_call Nearest (two_pass a a) (four (pos 1) (pos 2) (pos 1) (pos 2)) found₄) accepted
    (four (pos 1) (pos 1) (pos 0) (pos 0))
    -- "The row pass's allowance starts from the column pass's": 2048, and the half of 2048 and 2048 more
    ∷ gives (allowance_call Nearest (two_pass a a) found₄) accepted (four (pos 0) (pos 2048) (pos 2048) (pos 5120))
    -- "Three rounding rules": rules 1 and 2, other kinds and counts on each side
    ∷ gives (ruled 1 forward_call (two_pass a b) (four (pos 3) (pos 5) (pos 1) (pos 1)) found₄) accepted
    (four (neg 6) (neg 6) (neg 4) (neg 4))
    ∷ gives (ruled 2 inverse_call (two_pass a b) (four (neg 7) (neg 7) (neg 5) (neg 5)) found₄) accepted
    (four (pos 3) (pos 5) (pos 1) (pos 1))
    ∷ gives (ruled 1 allowance_call (two_pass a a) found₄) accepted (four (pos 0) (pos 4096) (pos 4096) (pos 10240))
    -- three rows of two numbers: the rows change places, then half of a row's first number goes to its second
    ∷ gives (forward_call Nearest (two_pass c a) (pos 3 ∷ pos 5 ∷ pos 1 ∷ pos 0 ∷ neg 1 ∷ pos 5 ∷ []) (nines 6)) accepted
    (neg 1 ∷ pos 5 ∷ pos 3 ∷ pos 7 ∷ pos 1 ∷ pos 1 ∷ [])
    -- h: "entry 16384 is bytes 80 80 02; bytes 84 00 are refused 14"
    ∷ record { found = bytes (written (pos 16384)); printed = bytes (0x80 ∷ 0x80 ∷ 0x02 ∷ []) }
    ∷ gives (read (0x84 ∷ 0x00 ∷ []) found₂) (refused 14 0 0) found₂
    ∷ []

-- every case shows what document 01 prints
pub figures : map (λ (f : Figure). f.found) table ≡ map (λ (f : Figure). f.printed) table
unfolding table sum go times among fault_of one kind_of triangle weights body factor closed head reading numbers signs_at above
    entries_before factor_at factors_from factors has_entry matrix to_even R share ceiling fill inside offender off weighed multiples
    put_back forward recover undo allow later run recovery run_forward run_inverse run_allowance those by_turn turn order in_row stage_of
    line_stage line_stages joint_source joint_sign joint_weight joint_shared joint_stage joint_stages pass_source pass_sign pass_weight
    pass_turn pass_stage pass_stages code value spell group groups packed unpack left ◌or_else◌ further first matching pair_checked
    reply read write write_table line joint two_pass column_pass row_pass ran_answer ran_memory run_reply forward_call inverse_call
    allowance_call rule_of strip_answer outputs bytes_of strip
figures = refl

-- the recovery orders of a rectangle of three by three, kind 4 with rows 1 and 2
abbrev pub middle : ℕ → Kind → Factor
middle r k = record { kind = k; place = λ i. i; row = r; sign = λ m. pos 1; entry = λ m k. pos 0 }

abbrev pub order_of : Kind → List ℕ
order_of k = order k 9 (joint_shared 3 3 (middle 1 k) (middle 2 k))

pub orders : map order_of (Lower ∷ Upper ∷ Single ∷ []) ≡
    (0 ∷ 1 ∷ 2 ∷ 3 ∷ 4 ∷ 5 ∷ 6 ∷ 7 ∷ 8 ∷ [])
    ∷ (8 ∷ 7 ∷ 6 ∷ 5 ∷ 4 ∷ 3 ∷ 2 ∷ 1 ∷ 0 ∷ [])
    ∷ (0 ∷ 1 ∷ 6 ∷ 7 ∷ 3 ∷ 4 ∷ 2 ∷ 8 ∷ 5 ∷ [])
    ∷ []
unfolding those by_turn turn order in_row joint_shared
orders = refl

-- R-7: "line after line by number": a pass over three rows of two numbers, down the columns with row 1 for kind 4, along the rows
-- with row 0
abbrev undone : Lines → ℕ → Kind → List ℕ
undone r m k = recovery 6 (pass_stage r (middle m k))

pub pass-orders :
    (map (undone (columns 3 2) 1) (Lower ∷ Upper ∷ Single ∷ [])
    ≡ (0 ∷ 2 ∷ 4 ∷ 1 ∷ 3 ∷ 5 ∷ []) ∷ (4 ∷ 2 ∷ 0 ∷ 5 ∷ 3 ∷ 1 ∷ []) ∷ (0 ∷ 4 ∷ 2 ∷ 1 ∷ 5 ∷ 3 ∷ []) ∷ [])
    × (map (undone (rows 3 2) 0) (Lower ∷ Upper ∷ Single ∷ [])
    ≡ (0 ∷ 1 ∷ 2 ∷ 3 ∷ 4 ∷ 5 ∷ []) ∷ (1 ∷ 0 ∷ 3 ∷ 2 ∷ 5 ∷ 4 ∷ []) ∷ (1 ∷ 0 ∷ 3 ∷ 2 ∷ 5 ∷ 4 ∷ []) ∷ [])
unfolding those by_turn turn in_row stage_of pass_turn pass_stage recovery
pass-orders = (refl, refl)

-- "The quotient is a floor, also below zero": sums just below, at and just above a half, on both sides of zero, by each rule, at
-- the scale of a line and at that of a rectangle
abbrev halves : ℕ → List ℤ
halves h =
    neg (3 * h + 1) ∷ neg (3 * h) ∷ neg (3 * h - 1) ∷ neg (h + 1) ∷ neg h ∷ neg (h - 1) ∷ pos 0 ∷ pos (h - 1) ∷ pos h
    ∷ pos (h + 1) ∷ pos (3 * h - 1) ∷ pos (3 * h) ∷ pos (3 * h + 1) ∷ []

abbrev upward : List ℤ
upward =
    neg 2 ∷ neg 1 ∷ neg 1 ∷ neg 1 ∷ pos 0 ∷ pos 0 ∷ pos 0 ∷ pos 0 ∷ pos 1 ∷ pos 1 ∷ pos 1 ∷ pos 2 ∷ pos 2 ∷ []

abbrev downward : List ℤ
downward =
    neg 2 ∷ neg 2 ∷ neg 2 ∷ neg 1 ∷ neg 1 ∷ neg 1 ∷ pos 0 ∷ pos 0 ∷ pos 0 ∷ pos 0 ∷ pos 1 ∷ pos 1 ∷ pos 1 ∷ []

abbrev to_evens : List ℤ
to_evens =
    neg 2 ∷ neg 2 ∷ neg 1 ∷ neg 1 ∷ pos 0 ∷ pos 0 ∷ pos 0 ∷ pos 0 ∷ pos 0 ∷ pos 1 ∷ pos 1 ∷ pos 2 ∷ pos 2 ∷ []

pub roundings :
    (map (R Nearest unit) (halves 2048) ≡ upward) × (map (R Nearest unit²) (halves 8388608) ≡ upward)
    × (map (R Down unit) (halves 2048) ≡ downward) × (map (R Down unit²) (halves 8388608) ≡ downward)
    × (map (R Even unit) (halves 2048) ≡ to_evens) × (map (R Even unit²) (halves 8388608) ≡ to_evens)
unfolding to_even R
roundings = (refl, refl, refl, refl, refl, refl)
