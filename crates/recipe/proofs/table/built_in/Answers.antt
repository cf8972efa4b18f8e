-- 15 keeps the slice; else there is room, and the table is put into its front.
use Rattle.std.proofs.Common.{◌≤◌, List, ◌++◌, refl, sym, ap, ℤ, length, length-take-le, drop}
use Rattle.laws.specs.AnswersInTurn.{fills}
use Rattle.laws.specs.Results.{passed}
use Rattle.recipe.specs.Calls.{fitting-fine}
use Rattle.recipe.specs.Results.{count-keeps}
use Rattle.rules.specs.declared.Answer.{Answer}
use Rattle.rules.specs.Calls.{over, built_in, write_table}
use Rattle.recipe.proofs.table.built_in.Goals as goal
use Rattle.recipe.proofs.table.built_in.Goals.{In_ok-count}

room : (c : In_ok-count) → 45 ≤ length c.args.out.now
room c = (fitting-fine 45 (length c.args.out.now) (sym (ap (λ (x : Answer). x.number) c.in_ok-count.ensures))).0

pub returns-in_err-count : goal.returns-in_err-count
unfolding write_table
returns-in_err-count c =
    let out = c.args.out.now in
    count-keeps c.fitting.ensures (over built_in out) out (passed c.from_residual.ensures.1) c.in_err-count.was

pub slice_bounds-copy_from_slice-end-2 : goal.slice_bounds-copy_from_slice-end-2
slice_bounds-copy_from_slice-end-2 c =
    sym (length-take-le 45 c.args.out.now (room (goal.at.slice_bounds-copy_from_slice-end-2 c).In_ok-count))

pub copy_from_slice-requires : goal.copy_from_slice-requires
copy_from_slice-requires c =
    length-take-le 45 c.args.out.now (room (goal.at.copy_from_slice-requires c).In_ok-count)

pub returns : goal.returns
unfolding write_table
returns c =
    let out = c.args.out.now in
    fills (over built_in out) out c.in_ok-count.ensures refl
    (ap (λ (l : List ℤ). l ++ drop 45 out) c.copy_from_slice.ensures.after)
