-- Another turn's element is passed over; one of this turn is in bound or found beyond it (`went-applied`, `went-undone`).
use Rattle.std.proofs.Common.{eq-eqb, true, ◌≡◌, sym, ◌∙◌, eqb, w64, to_z, of_z}
use Rattle.offender.specs.RefusedStages.{turn_of, made_of}
use Rattle.offender.specs.Search.{went-applied, went-undone}
use Rattle.whole.specs.Machine.{back}
use Rattle.offender.proofs.search.look_at.Goals as goal
use Rattle.offender.proofs.search.look_at.Goals.{After-element_at-z, Else-turn_at-t}

-- it is its turn
here : (c : Else-turn_at-t) → eqb (turn_of c.args.back c.args.q c.args.col.now c.args.row.now c.args.e) c.args.t ≡ true
here c = eq-eqb _ _ (sym c.turn_at.ensures ∙ c.if-turn_at-t.false)

-- what the element becomes, or was, as it was read
value : (c : After-element_at-z) →
    let a = c.args in
    to_z w64 (of_z w64 c.element_at-z.result) ≡ made_of a.rule a.back a.q a.col.now a.row.now a.x.now a.e
value c = back w64 _ c.element_at-z.type_inv ∙ c.element_at-z.ensures

pub returns-then-back : goal.returns-then-back
returns-then-back c =
    let v = value (goal.at.returns-then-back c).After-element_at-z in
    rw (here (goal.at.returns-then-back c).Else-turn_at-t, c.if-back.true)
    (went-undone _ _ _ _ _ c.requires.0.small (rw (v, c.if-back.true) at c.keep.ensures))

pub returns-then-is_within : goal.returns-then-is_within
returns-then-is_within c =
    let v = value (goal.at.returns-then-is_within c).After-element_at-z in
    rw (here (goal.at.returns-then-is_within c).Else-turn_at-t, c.if-back.false)
    (went-applied _ _ _ _ _ c.requires.0.small (sym c.if-is_within.true ∙ (rw (v, c.if-back.false) at c.is_within.ensures)))

pub returns-else-is_within : goal.returns-else-is_within
returns-else-is_within c =
    let v = value (goal.at.returns-else-is_within c).After-element_at-z in
    rw (here (goal.at.returns-else-is_within c).Else-turn_at-t, c.if-back.false)
    (went-applied _ _ _ _ _ c.requires.0.small (sym c.if-is_within.false ∙ (rw (v, c.if-back.false) at c.is_within.ensures)))
