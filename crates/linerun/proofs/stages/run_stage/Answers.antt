-- A permutation and a factor with weights are each the document's stage (`moves-are`; `apply-is`, `undo-is`, `allow-is`).
use Rattle.std.proofs.Common.{rules, refl, ◌≢◌, ◌≡◌, ◌∙◌, arith, length}
use Rattle.factor.specs.LayoutInSheet.{in-sheet, moves, kind-yes, kind-no, row_inside}
use Rattle.factor.specs.Layouts.{layout_by, layout_at}
use Rattle.factor.specs.MovedInPlace.{front-moved, moved-bounded}
use Rattle.factor.specs.Rounding.{by_tests}
use Rattle.factor.specs.Steps.{step-moves}
use Rattle.factor.specs.Tasks.{limit_of, is_inverse, stage_by}
use Rattle.linerun.specs.StagesAgree.{moves-are, apply-is, undo-is, allow-is}
use Rattle.rules.specs.Numbers.{count}
use Rattle.rules.specs.Sheets.{kind_of}
use Rattle.rules.specs.declared.Kind.TheVariants.{Permutation}
use Rattle.linerun.proofs.stages.run_stage.Goals as goal
use Rattle.linerun.proofs.stages.run_stage.Goals.{Else-is_move, Start, Then-is_move}

len : (s : Start) → length s.args.x ≡ 16
len s = search rules

yes-kind : (c : Then-is_move) →
    kind_of (count c.args.sheet.now c.args.i) ≡ Permutation
yes-kind c =
    kind-yes c.requires.2 c.layout_at-f.ensures c.is_move.ensures c.if-is_move.true

no_kind : (c : Else-is_move) →
    kind_of (count c.args.sheet.now c.args.i) ≢ Permutation
no_kind c =
    kind-no c.requires.2 c.layout_at-f.ensures c.is_move.ensures c.if-is_move.false

pub move_from-requires : goal.move_from-requires
unfolding layout_at layout_by
move_from-requires c =
    let here = goal.at.move_from-requires c in
    let o = c.requires.1 in
    rw c.layout_at-f.ensures (moves c.requires.1 c.requires.2 (yes-kind here.Then-is_move), λ m b. omega (arith, len here.Start))

pub returns-then-is_move : goal.returns-then-is_move
unfolding layout_at layout_by
returns-then-is_move c =
    step-moves (c.move_from.ensures ∙ front-moved _ _ _ _ ∙ rw c.layout_at-f.ensures)
    (moves-are _ _ _ _ (yes-kind (goal.at.returns-then-is_move c).Then-is_move) c.args.run.task _)
    (moved-bounded (is_inverse c.args.run.task) c.args.n _ c.requires.3)

pub apply_weights-end-requires : goal.apply_weights-end-requires
unfolding limit_of layout_at layout_by
apply_weights-end-requires c =
    rw c.layout_at-f.ensures (
      in-sheet c.requires.1 c.requires.2 (no_kind (goal.at.apply_weights-end-requires c).Else-is_move),
      no_kind (goal.at.apply_weights-end-requires c).Else-is_move,
      rw c.in-Forward.is at
          c.requires.3,
      refl,
    )

pub returns-in-Forward : goal.returns-in-Forward
unfolding layout_at layout_by limit_of stage_by
returns-in-Forward c =
    rw c.in-Forward.is
    (rw (
      c.layout_at-f.ensures,
      c.is_down-down.ensures,
      c.is_even-even.ensures,
      by_tests c.args.run.rule,
      apply-is c.args.run.rule _ _ _ c.requires.2 (no_kind (goal.at.returns-in-Forward c).Else-is_move) c.args.x,
    )
    at c.apply_weights-end.ensures)

pub undo_weights-end-requires : goal.undo_weights-end-requires
unfolding limit_of layout_at layout_by
undo_weights-end-requires c =
    rw c.layout_at-f.ensures (
      in-sheet c.requires.1 c.requires.2 (no_kind (goal.at.undo_weights-end-requires c).Else-is_move),
      no_kind (goal.at.undo_weights-end-requires c).Else-is_move,
      row_inside c.requires.0 c.requires.2,
      rw c.in-Inverse.is at
          c.requires.3,
    )

pub returns-in-Inverse : goal.returns-in-Inverse
unfolding layout_at layout_by limit_of stage_by
returns-in-Inverse c =
    let here = goal.at.returns-in-Inverse c in
    rw c.in-Inverse.is
    (rw (
      c.layout_at-f.ensures,
      c.is_down-down.ensures,
      c.is_even-even.ensures,
      by_tests c.args.run.rule,
      undo-is c.args.run.rule _ _ _ c.requires.2 (no_kind here.Else-is_move) c.args.x
          (let o = c.requires.1 in omega (arith, len here.Start)) (row_inside c.requires.0 c.requires.2),
    )
    at c.undo_weights-end.ensures)

pub allow_weights-end-requires : goal.allow_weights-end-requires
unfolding limit_of
allow_weights-end-requires c =
    rw c.layout_at-f.ensures (
      in-sheet c.requires.1 c.requires.2 (no_kind (goal.at.allow_weights-end-requires c).Else-is_move),
      rw c.in-Allowance.is at
          c.requires.3,
    )

pub returns-in-Allowance : goal.returns-in-Allowance
unfolding layout_at layout_by limit_of stage_by
returns-in-Allowance c =
    let here = goal.at.returns-in-Allowance c in
    rw c.in-Allowance.is
    (rw (c.layout_at-f.ensures, allow-is c.args.run.rule _ _ _ c.requires.2 (no_kind here.Else-is_move) c.args.x) at
    c.allow_weights-end.ensures)
