-- The search names the document's element (`none-moved`, `found-named`).
use Rattle.std.proofs.Common.{true, ◌≡◌, sym, ◌∙◌}
use Rattle.factor.specs.LayoutInSheet.{kind-yes, kind-no}
use Rattle.offender.specs.NamedElements.{is_naming, naming-limit, none_named, none-moved, found-named}
use Rattle.offender.specs.RefusedStages.{Weighed}
use Rattle.offender.proofs.stage.element.Goals as goal
use Rattle.offender.proofs.stage.element.Goals.{Else-is_move, Else-not-is_naming}
use Rattle.offender.proofs.stage.element.Goals.{then-is_move-via-then-is_move, then-is_move-via-else-is_move+then-not-is_naming}

pub returns-then-is_move : goal.returns-then-is_move
returns-then-is_move c =
    elim c.then-is_move.branch [
      | then-is_move-via-then-is_move w ↦
          sym
          (none-moved c.args.run.task c.args.run.rule c.args.q _ _
          (kind-yes c.requires.0.column c.layout_at.ensures c.is_move.ensures w.if-is_move.true) c.requires.1)
      | then-is_move-via-else-is_move+then-not-is_naming w ↦
          none_named c.args.run.task _ _ _ (sym w.is_naming.ensures ∙ w.if-not-is_naming.true)
    ]

-- the stage has weights
weighs : (c : Else-is_move) →
    Weighed c.args.q c.args.col.now c.args.row.now
weighs c =
    record {
      placed = c.requires.0;
      weighs = kind-no c.requires.0.column c.layout_at.ensures c.is_move.ensures c.if-is_move.false;
    }

-- an element is named
naming : (c : Else-not-is_naming) → is_naming c.args.run.task ≡ true
naming c = sym c.is_naming.ensures ∙ c.if-not-is_naming.false

pub first_found-requires : goal.first_found-requires
first_found-requires c =
    record {
      stage = weighs (goal.at.first_found-requires c).Else-is_move;
      small = rw (naming-limit _ (naming (goal.at.first_found-requires c).Else-not-is_naming)) at c.requires.1;
      room = c.requires.2;
    }

pub returns : goal.returns
returns c =
    c.unwrap_or.ensures
    ∙ (rw c.is_inverse.ensures at c.first_found.ensures)
    ∙ found-named (weighs (goal.at.returns c).Else-is_move) c.args.run.task c.args.run.rule c.args.x.now
    (naming (goal.at.returns c).Else-not-is_naming) c.requires.2
