-- A permutation and a factor with weights are each the document's stage, line by line (`StageLaws`). One call takes the rows of
-- both tasks that are no allowances.
use Rattle.std.proofs.Common.{true, false, ◌≢◌, ◌≡◌, sym, ◌∙◌}
use Rattle.factor.specs.LayoutInSheet.{in-sheet, moves, kind-yes, kind-no, row_inside}
use Rattle.factor.specs.Layouts.{layout_by, layout_at}
use Rattle.factor.specs.Rounding.{by_tests}
use Rattle.factor.specs.Tasks.{limit_of}
use Rattle.passstage.specs.LaneSteps.{is_allowance}
use Rattle.passstage.specs.StageLaws.{allowance-told, limit-taken, moved-done, taken-done, allowed-done}
use Rattle.rules.specs.Numbers.{count}
use Rattle.rules.specs.Sheets.{kind_of}
use Rattle.rules.specs.declared.Kind.TheVariants.{Permutation}
use Rattle.passstage.proofs.stage.run_stage.Goals as goal
use Rattle.passstage.proofs.stage.run_stage.Goals.{Else-is_allowance, Else-is_move, Then-is_allowance, Then-is_move}

-- both tasks that are no allowances.
yes-kind : (c : Then-is_move) →
    kind_of (count c.args.sheet.now c.args.i) ≡ Permutation
yes-kind c =
    kind-yes c.requires.2 c.layout_at-f.ensures c.is_move.ensures c.if-is_move.true

no_kind : (c : Else-is_move) →
    kind_of (count c.args.sheet.now c.args.i) ≢ Permutation
no_kind c =
    kind-no c.requires.2 c.layout_at-f.ensures c.is_move.ensures c.if-is_move.false

-- the task, as the code tells it
yes-allowance : (c : Then-is_allowance) → is_allowance c.args.run.task ≡ true
yes-allowance c = sym c.is_allowance.ensures ∙ c.if-is_allowance.true

no-allowance : (c : Else-is_allowance) → is_allowance c.args.run.task ≡ false
no-allowance c = sym c.is_allowance.ensures ∙ c.if-is_allowance.false

pub move_lines-requires : goal.move_lines-requires
move_lines-requires c =
    rw c.layout_at-f.ensures (moves c.requires.1 c.requires.2 (yes-kind (goal.at.move_lines-requires c).Then-is_move), c.requires.3, c.requires.4, c.requires.5)

pub returns-then-is_move : goal.returns-then-is_move
returns-then-is_move c =
    moved-done c.args.run c.requires.0 c.requires.1 c.requires.2 (yes-kind (goal.at.returns-then-is_move c).Then-is_move)
    (rw c.layout_at-f.ensures at c.move_lines.ensures)

-- allowances
pub allow_lines-requires : goal.allow_lines-requires
unfolding limit_of
allow_lines-requires c =
    rw c.layout_at-f.ensures (
      in-sheet c.requires.1 c.requires.2 (no_kind (goal.at.allow_lines-requires c).Else-is_move),
      c.requires.3,
      rw (allowance-told _ (yes-allowance (goal.at.allow_lines-requires c).Then-is_allowance)) at c.requires.4,
      c.requires.5,
    )

pub returns-then-is_allowance : goal.returns-then-is_allowance
returns-then-is_allowance c =
    allowed-done c.args.run c.requires.0 c.requires.1 c.requires.2 (allowance-told _ (yes-allowance (goal.at.returns-then-is_allowance c).Then-is_allowance)) (no_kind (goal.at.returns-then-is_allowance c).Else-is_move)
    (rw c.layout_at-f.ensures at c.allow_lines.ensures)

pub take_rows-requires : goal.take_rows-requires
unfolding layout_at layout_by
take_rows-requires c =
    rw c.layout_at-f.ensures (
      in-sheet c.requires.1 c.requires.2 (no_kind (goal.at.take_rows-requires c).Else-is_move),
      row_inside c.requires.0 c.requires.2,
      c.requires.3,
      rw (limit-taken _ (no-allowance (goal.at.take_rows-requires c).Else-is_allowance)) at c.requires.4,
      c.requires.5,
    )

pub returns : goal.returns
returns c =
    taken-done c.args.run c.requires.0 c.requires.1 c.requires.2 (no-allowance (goal.at.returns c).Else-is_allowance) (no_kind (goal.at.returns c).Else-is_move)
    (rw (
      c.layout_at-f.ensures,
      c.is_inverse.ensures,
      c.is_down.ensures,
      c.is_even.ensures,
      by_tests c.args.run.rule,
    ) at c.take_rows.ensures)
