-- CASES OF THE LAWS, by computation: a law that promised more would be false, and a cut counts stages as the whole does.
use Rattle.std.specs.Prelude.{true, false, List, [], ◌∷◌, ◌≡◌, refl, ℕ, ◌*◌, ◌^◌, leb, ℤ, pos, neg_ℤ, nat_abs, ◌-ℤ◌, ◌*ℤ◌}
use Rattle.whole.specs.Stated.{sum}
use Rattle.rules.specs.declared.Rule.TheVariants.{Nearest}
use Rattle.rules.specs.Numbers.{unit, unit², at}
use Rattle.rules.specs.Sheets.{go, times, among, fault_of, one, kind_of, triangle, weights, body, factor, closed, head, reading}
use Rattle.rules.specs.Factors.{numbers, signs_at, above, entries_before, factor_at, factors_from, factors, has_entry, matrix}
use Rattle.rules.specs.Stages.{R, share, ceiling, fill, inside, those, offender, off, weighed, multiples, forward, allow, scale}
use Rattle.rules.specs.Stages.{exact, later, run}
use Rattle.rules.specs.Stages.{through, run_forward, run_allowance, exact_product, exact_scale}
use Rattle.rules.specs.Shapes.{by_turn, turn, order, in_row, stage_of, line_stage, line_stages, joint_source, joint_sign}
use Rattle.rules.specs.Shapes.{joint_weight, joint_shared, joint_stage, joint_stages, columns, rows, pass_source, pass_sign, pass_weight}
use Rattle.rules.specs.Shapes.{pass_turn, pass_stage, pass_stages}
use Rattle.rules.specs.Answers.{◌or_else◌, accepted, refused_at, further}
use Rattle.rules.specs.Calls.{Reply, reply, line, joint, ran_answer, ran_memory, run_reply, forward_call, allowance_call}
use Rattle.rules.specs.Calls.{two_pass, column_pass, row_pass, rule_of, ruled}
use Rattle.rules.specs.Strips.{strip_answer, outputs, bytes_of, strip}
use Rattle.laws.specs.Stated.Calls.{E, D}
use Rattle.laws.specs.Stated.Cuts.{cut, cut_front, cut_back, farther, in_two}
use Rattle.laws.specs.Stated.Passes.{line_of}

abbrev two : ℤ → ℤ → List ℤ
two x y = x ∷ y ∷ []

abbrev neg : ℕ → ℤ
neg n = neg_ℤ (pos n)

abbrev lent : List ℤ
lent = two (pos 9) (pos 9)

-- what a forward call and an allowance call of a line leave
abbrev F : List ℤ → List ℤ → List ℤ
F s x = (forward_call Nearest (line s) x lent).memory

abbrev allowances : List ℤ → List ℤ
allowances s = (allowance_call Nearest (line s) lent).memory

-- a lower and an upper factor of two points
abbrev both : List ℤ
both = pos 2 ∷ pos 2 ∷ pos 2 ∷ pos 1 ∷ pos 1 ∷ pos 2048 ∷ pos 3 ∷ pos 1 ∷ pos 1 ∷ pos 3072 ∷ []

-- the first coefficient of (0,-1), less that of (1,1), less that of their difference (-1,-2)
abbrev apart : ℕ
apart =
    nat_abs
    ((at (F both (two (pos 0) (neg 1))) 0 -ℤ at (F both (two (pos 1) (pos 1))) 0) -ℤ at (F both (two (neg 1) (neg 2))) 0)

-- THE DIFFERENCE LAW NEEDS THREE ALLOWANCES: here two are too few
pub two-are-too-few :
    (leb (unit * apart) (2 * nat_abs (at (allowances both) 0)) ∷ leb (unit * apart) (3 * nat_abs (at (allowances both) 0)) ∷ [])
    ≡ (false ∷ true ∷ [])
unfolding sum go times among fault_of one kind_of triangle weights body factor closed head reading numbers signs_at above
    entries_before factor_at factors_from factors has_entry matrix R share ceiling fill inside offender off weighed multiples forward
    allow later run run_forward run_allowance those by_turn turn order in_row stage_of line_stage line_stages ◌or_else◌ reply line
    ran_answer ran_memory run_reply forward_call allowance_call
two-are-too-few = refl

-- a lower factor of two points, and a half exactly: document 01's sheet a
abbrev half : List ℤ
half = pos 2 ∷ pos 1 ∷ pos 2 ∷ pos 1 ∷ pos 1 ∷ pos 2048 ∷ []

-- THE ALLOWANCE LAW HAS NOTHING TO SPARE: the second coefficient of (1,0) is off by its whole allowance
pub whole-allowance :
    pos
    (unit * nat_abs ((pos (D (line half)) *ℤ at (F half (two (pos 1) (pos 0))) 1) -ℤ at (E (line half) (two (pos 1) (pos 0))) 1))
    ≡ pos (D (line half)) *ℤ at (allowances half) 1
unfolding sum go times among fault_of one kind_of triangle weights body factor closed head reading numbers signs_at above
    entries_before factor_at factors_from factors has_entry matrix R share ceiling fill inside offender off weighed multiples forward
    allow scale exact later run through run_forward run_allowance exact_product exact_scale those by_turn turn order in_row stage_of
    line_stage line_stages ◌or_else◌ reply line ran_answer ran_memory run_reply forward_call allowance_call
whole-allowance = refl

-- A SHARE OF 2048 IS TOO SMALL UNDER RULE 1: an entry of 4095 takes (1,0) down by 4095/4096, and the allowance is 4096
abbrev almost : List ℤ
almost = pos 2 ∷ pos 1 ∷ pos 2 ∷ pos 1 ∷ pos 1 ∷ pos 4095 ∷ []

abbrev fallen : ℕ
fallen =
    nat_abs
    ((pos (D (line almost)) *ℤ at (ruled 1 forward_call (line almost) (two (pos 1) (pos 0)) lent).memory 1)
    -ℤ at (E (line almost) (two (pos 1) (pos 0))) 1)

pub share-of-rule-1 :
    (leb (unit * fallen) (D (line almost) * 2048)
    ∷ leb (unit * fallen) (D (line almost) * nat_abs (at (ruled 1 allowance_call (line almost) lent).memory 1))
    ∷ [])
    ≡ (false ∷ true ∷ [])
unfolding sum go times among fault_of one kind_of triangle weights body factor closed head reading numbers signs_at above
    entries_before factor_at factors_from factors has_entry matrix R share ceiling fill inside offender off weighed multiples forward
    allow scale exact later run through run_forward run_allowance exact_product exact_scale those by_turn turn order in_row stage_of
    line_stage line_stages ◌or_else◌ reply line ran_answer ran_memory run_reply forward_call allowance_call rule_of
share-of-rule-1 = refl

-- THE SCALE OF A PAIR is that of a product of two entries
pub scales : (D (line both) ∷ D (joint both both) ∷ []) ≡ (unit ^ 2 ∷ unit² ^ 2 ∷ [])
unfolding sum go times among fault_of one kind_of triangle weights body factor closed head reading numbers signs_at above
    entries_before factor_at factors_from factors has_entry matrix scale exact_scale those by_turn turn order in_row stage_of line_stage
    line_stages joint_source joint_sign joint_weight joint_shared joint_stage joint_stages line joint
scales = refl

-- ---- A CUT: the element 1 grows by the element 0, twice
abbrev twice : List ℤ
twice = pos 2 ∷ pos 2 ∷ pos 2 ∷ pos 1 ∷ pos 1 ∷ pos 4096 ∷ pos 2 ∷ pos 1 ∷ pos 1 ∷ pos 4096 ∷ []

abbrev in_parts : List ℤ → Reply ℤ
in_parts x =
    in_two 1 (forward_call Nearest (line (cut_front twice 1)) x (two (pos 7) (pos 7)))
    (λ u. forward_call Nearest (line (cut_back twice 1)) u lent) lent

-- the second part refuses at its stage 1, the whole at stage 2; the first part refuses, and the output is as it was lent
pub cut-cases :
    (forward_call Nearest (line twice) (two (pos 16777215) (pos 0)) lent
    ∷ in_parts (two (pos 16777215) (pos 0))
    ∷ forward_call Nearest (line (cut_back twice 1)) (two (pos 16777215) (pos 16777215)) lent
    ∷ forward_call Nearest (line twice) (two (pos 16777215) (pos 1)) lent
    ∷ in_parts (two (pos 16777215) (pos 1))
    ∷ [])
    ≡ (record { answer = refused_at 11 0 2 1; memory = lent }
    ∷ record { answer = refused_at 11 0 2 1; memory = lent }
    ∷ record { answer = refused_at 11 0 1 1; memory = lent }
    ∷ record { answer = refused_at 11 0 1 1; memory = lent }
    ∷ record { answer = refused_at 11 0 1 1; memory = lent }
    ∷ [])
unfolding sum go times among fault_of one kind_of triangle weights body factor closed head reading numbers signs_at above
    entries_before factor_at factors_from factors has_entry matrix R fill inside offender off weighed forward later run run_forward
    those by_turn turn order in_row stage_of line_stage line_stages ◌or_else◌ further reply line ran_answer ran_memory run_reply
    forward_call cut farther in_two
cut-cases = refl

-- a strip of one block: the first part refuses it, and the second part runs on what the middle slice held, and writes that
pub strip-cut-case :
    (strip (line twice) (forward_call Nearest (line twice)) (two (pos 16777215) (pos 1)) lent (7 ∷ [])
    ∷ strip (line (cut_front twice 1)) (forward_call Nearest (line (cut_front twice 1))) (two (pos 16777215) (pos 1)) lent (7 ∷ [])
    ∷ strip (line (cut_back twice 1)) (forward_call Nearest (line (cut_back twice 1))) lent lent (7 ∷ [])
    ∷ [])
    ≡ (record { answer = accepted; output = lent; bytes = 11 ∷ [] }
    ∷ record { answer = accepted; output = lent; bytes = 11 ∷ [] }
    ∷ record { answer = accepted; output = two (pos 9) (pos 18); bytes = 0 ∷ [] }
    ∷ [])
unfolding sum go times among fault_of one kind_of triangle weights body factor closed head reading numbers signs_at above
    entries_before factor_at factors_from factors has_entry matrix R fill inside offender off weighed forward later run run_forward
    those by_turn turn order in_row stage_of line_stage line_stages ◌or_else◌ further reply line ran_answer ran_memory run_reply
    forward_call cut strip_answer outputs bytes_of strip
strip-cut-case = refl

-- ---- R-4: sheets of two points that need not match; the lines of a block of 2 rows by 3 numbers
pub lines_of :
    (line_of (columns 2 3) 1 (pos 1 ∷ pos 2 ∷ pos 3 ∷ pos 4 ∷ pos 5 ∷ pos 6 ∷ [])
    ∷ line_of (rows 2 3) 1 (pos 1 ∷ pos 2 ∷ pos 3 ∷ pos 4 ∷ pos 5 ∷ pos 6 ∷ [])
    ∷ [])
    ≡ (two (pos 2) (pos 5) ∷ (pos 4 ∷ pos 5 ∷ pos 6 ∷ []) ∷ [])
unfolding line_of fill
lines_of = refl

-- THE SCALE OF TWO PASSES counts the factors of both sheets; that of one pass its own
pub pass-scales :
    (D (two_pass both half) ∷ D (column_pass both 3) ∷ D (row_pass half 3) ∷ []) ≡ (unit ^ 3 ∷ unit ^ 2 ∷ unit ∷ [])
unfolding sum go times among fault_of one kind_of triangle weights body factor closed head reading numbers signs_at above
    entries_before factor_at factors_from factors has_entry matrix scale exact_scale those by_turn turn in_row stage_of pass_source
    pass_sign pass_weight pass_turn pass_stage pass_stages two_pass column_pass row_pass
pass-scales = refl

-- "The row pass's allowance starts from the column pass's": the last is 2048 + 1024 + 2048
abbrev four : List ℤ
four = pos 9 ∷ pos 9 ∷ pos 9 ∷ pos 9 ∷ []

pub pass-allowances :
    ((allowance_call Nearest (column_pass half 2) four).memory
    ∷ (allowance_call Nearest (row_pass half 2) four).memory
    ∷ (allowance_call Nearest (two_pass half half) four).memory
    ∷ [])
    ≡ ((pos 0 ∷ pos 0 ∷ pos 2048 ∷ pos 2048 ∷ [])
    ∷ (pos 0 ∷ pos 2048 ∷ pos 0 ∷ pos 2048 ∷ [])
    ∷ (pos 0 ∷ pos 2048 ∷ pos 2048 ∷ pos 5120 ∷ [])
    ∷ [])
unfolding sum go times among fault_of one kind_of triangle weights body factor closed head reading numbers signs_at above
    entries_before factor_at factors_from factors has_entry matrix R share ceiling fill inside offender off weighed multiples forward
    allow later run run_forward run_allowance those by_turn turn in_row stage_of pass_source pass_sign pass_weight pass_turn pass_stage
    pass_stages ◌or_else◌ reply two_pass column_pass row_pass ran_answer ran_memory run_reply forward_call allowance_call
pass-allowances = refl

-- A CUT BETWEEN THE PASSES: the row pass refuses at its stage 1, the whole at stage 2; element (1,1) grows by its row's first
abbrev once : List ℤ
once = pos 2 ∷ pos 1 ∷ pos 2 ∷ pos 1 ∷ pos 1 ∷ pos 4096 ∷ []

abbrev large : List ℤ
large = pos 16777215 ∷ pos 0 ∷ pos 0 ∷ pos 1 ∷ []

pub pass-cut-case :
    (forward_call Nearest (two_pass once once) large four
    ∷ in_two 1 (forward_call Nearest (column_pass once 2) large four) (λ u. forward_call Nearest (row_pass once 2) u four) four
    ∷ forward_call Nearest (column_pass once 2) large four
    ∷ forward_call Nearest (row_pass once 2) (pos 16777215 ∷ pos 0 ∷ pos 16777215 ∷ pos 1 ∷ []) four
    ∷ [])
    ≡ (record { answer = refused_at 11 0 2 3; memory = four }
    ∷ record { answer = refused_at 11 0 2 3; memory = four }
    ∷ record { answer = accepted; memory = pos 16777215 ∷ pos 0 ∷ pos 16777215 ∷ pos 1 ∷ [] }
    ∷ record { answer = refused_at 11 0 1 3; memory = four }
    ∷ [])
unfolding sum go times among fault_of one kind_of triangle weights body factor closed head reading numbers signs_at above
    entries_before factor_at factors_from factors has_entry matrix R fill inside offender off weighed forward later run run_forward
    those by_turn turn in_row stage_of pass_source pass_sign pass_weight pass_turn pass_stage pass_stages ◌or_else◌ further reply two_pass
    column_pass row_pass ran_answer ran_memory run_reply forward_call farther in_two
pass-cut-case = refl
