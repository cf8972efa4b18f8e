-- THE WORKED EXAMPLE of section "Program": case b, and the three lines that it prints.
use Rattle.std.specs.Prelude.{List, [], ◌∷◌, ◌++◌, ◌≡◌, refl, ℕ}
use Rattle.rules.specs.Sheets.{go, times, among, fault_of, one, kind_of, triangle, weights, body, factor, closed, head, reading}
use Rattle.rules.specs.Factors.{numbers, signs_at, above, entries_before, factor_at, factors_from, factors, has_entry, matrix}
use Rattle.rules.specs.Stages.{R, share, ceiling, fill, inside, off, weighed, multiples, put_back, forward, recover, undo, allow}
use Rattle.rules.specs.Stages.{those, later, run, run_forward, run_inverse, run_allowance}
use Rattle.rules.specs.Shapes.{by_turn, turn, order, in_row, stage_of, line_stage, line_stages, joint_source, joint_sign}
use Rattle.rules.specs.Shapes.{joint_weight, joint_shared, joint_stage, joint_stages}
use Rattle.rules.specs.Recipes.{code, value, spell, group, groups, packed, unpack, left}
use Rattle.rules.specs.Answers.{◌or_else◌, further, first, matching, pair_checked}
use Rattle.rules.specs.Calls.{reply, read, write, write_table, line, joint, ran_answer, ran_memory, run_reply, forward_call}
use Rattle.rules.specs.Calls.{inverse_call, allowance_call}
use Rattle.whole.specs.Stated.{sum}
use Rattle.printing.specs.Program.{digit_at, digits, decimal, spaced, line_of, say_forward, say_back, say_allow, refusal, replied}
use Rattle.printing.specs.Program.{afterwards, ran, counts, printed}

abbrev pub input : List ℕ
input = 20 ∷ 4 ∷ 4 ∷ 4 ∷ 2 ∷ 2 ∷ 128 ∷ 32 ∷ 6 ∷ 2 ∷ 1 ∷ 255 ∷ 95 ∷ 6 ∷ 10 ∷ []

-- each line's word, then its bytes as ASCII has them
abbrev pub output : List ℕ
output =
    (say_forward ++ (32 ∷ 45 ∷ 55 ∷ 32 ∷ 45 ∷ 55 ∷ 10 ∷ []))
    ++ ((say_back ++ (32 ∷ 51 ∷ 32 ∷ 53 ∷ 10 ∷ []))
    ++ (say_allow ++ (32 ∷ 53 ∷ 49 ∷ 50 ∷ 48 ∷ 32 ∷ 50 ∷ 48 ∷ 52 ∷ 56 ∷ 10 ∷ [])))

pub worked-example : printed input ≡ output
unfolding digit_at digits decimal spaced line_of refusal replied afterwards ran counts printed sum go times among fault_of one kind_of
    triangle weights body factor closed head reading numbers signs_at above entries_before factor_at factors_from factors has_entry
    matrix R share ceiling fill inside off weighed multiples put_back forward recover undo allow later run run_forward run_inverse
    run_allowance those by_turn turn order in_row stage_of line_stage line_stages joint_source joint_sign joint_weight joint_shared
    joint_stage joint_stages code value spell group groups packed unpack left ◌or_else◌ further first matching pair_checked reply
    read write write_table line joint ran_answer ran_memory run_reply forward_call inverse_call allowance_call
worked-example = refl
