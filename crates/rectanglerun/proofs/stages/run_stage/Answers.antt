-- A pair of permutations and a pair of factors with weights are each the document's stage (`moves-are`, `stage-weighed`).
use Rattle.std.proofs.Common.{rules, Bool, refl, false, List, ◌≡◌, sym, ap, ap₂, subst, ◌∙◌, ◌*◌, ℤ, length}
use Rattle.factor.specs.LayoutInSheet.{moves, move-no, kind-yes}
use Rattle.factor.specs.Layouts.{layout_by, layout_at, is_move}
use Rattle.factor.specs.MovedInPlace.{moved-bounded, moved-scattered, length-scattered}
use Rattle.factor.specs.Rounding.{rule_by, by_tests}
use Rattle.factor.specs.Steps.{Step, step-moves}
use Rattle.factor.specs.Tasks.{limit_of, taken_by}
use Rattle.factor.specs.declared.run.Task.{Task}
use Rattle.rectanglerun.specs.RowsInTurn.{Weighable, Weighed}
use Rattle.joint.specs.RowsInPlace.{element_of, row_order}
use Rattle.rectanglerun.specs.StagesAgree.{moves-are, stage-asks, stage-weighed}
use Rattle.rules.specs.Factors.{factor_at}
use Rattle.rules.specs.Numbers.{most_cells, count}
use Rattle.rules.specs.Shapes.{joint_stage}
use Rattle.rules.specs.Sheets.{kind_of}
use Rattle.rules.specs.declared.Kind.TheVariants.{Permutation}
use Rattle.rectanglerun.proofs.stages.run_stage.Goals as goal
use Rattle.rectanglerun.proofs.stages.run_stage.Goals.{After-is_even-even, Then-is_move}

-- ---- a pair of permutations
permutes : (c : Then-is_move) → kind_of (count c.args.row.now c.args.j) ≡ Permutation
permutes c =
    kind-yes c.requires.0.row c.layout_at-fb.ensures c.is_move.ensures c.if-is_move.true

pub move_pair-requires : goal.move_pair-requires
move_pair-requires c =
    let p = c.requires.0 in
    let q = permutes (goal.at.move_pair-requires c).Then-is_move in
    rw (c.layout_at-fa.ensures, c.layout_at-fb.ensures)
    (moves p.most1 p.column (p.match ∙ q), moves p.most2 p.row q)

pub returns-then-is_move : goal.returns-then-is_move
unfolding layout_at layout_by
returns-then-is_move c =
    let x = c.args.x.now in
    let p = c.requires.0 in
    let q = permutes (goal.at.returns-then-is_move c).Then-is_move in
    let e = rw (c.layout_at-fa.ensures, c.layout_at-fb.ensures) at c.move_pair.ensures in (
      step-moves e (moves-are _ _ _ _ _ _ p.match (p.match ∙ q) c.args.run x) (moved-bounded _ _ _ c.requires.1),
      ap length (e ∙ moved-scattered _ _ _ x) ∙ length-scattered _ _ _ x ∙ c.requires.2,
    )

-- ---- a pair of factors with weights: what its rows ask, and that they are the stage
module _ (w : After-is_even-even) where
  weighs : is_move w.layout_at-fb.result.kind ≡ false
  weighs = sym w.is_move.ensures ∙ w.if-is_move.false

  module _ {task : Task} (t : w.args.run.task ≡ task) where
    asks : Weighable task w.args.col.now w.layout_at-fa.result w.args.row.now w.layout_at-fb.result w.args.x.now
    asks =
        stage-asks w.requires.0 w.layout_at-fa.ensures w.layout_at-fb.ensures weighs w.args.run t w.requires.1
        w.requires.2

    told : {ok : Bool} {y : List ℤ} →
        Weighed task w.args.run.rule w.args.col.now w.layout_at-fa.result w.args.row.now w.layout_at-fb.result
        w.args.x.now ok y →
        Step (limit_of w.args.run.task) (w.args.n1 * w.args.n2)
        (taken_by w.args.run (w.args.n1 * w.args.n2)
        (joint_stage w.args.n1 w.args.n2 (factor_at w.args.col.now w.args.n1 w.args.i)
        (factor_at w.args.row.now w.args.n2 w.args.j)) w.args.x.now) ok y
        × (length y ≡ most_cells)
    told v =
        stage-weighed w.requires.0 w.layout_at-fa.ensures w.layout_at-fb.ensures weighs w.args.run t w.requires.1
        w.requires.2 v

    -- the same of rows that take the rule by its two tests
    told-by : {ok : Bool} {y : List ℤ} →
        Weighed task (rule_by w.is_down-down.result w.is_even-even.result) w.args.col.now w.layout_at-fa.result
        w.args.row.now w.layout_at-fb.result w.args.x.now ok y →
        Step (limit_of w.args.run.task) (w.args.n1 * w.args.n2)
        (taken_by w.args.run (w.args.n1 * w.args.n2)
        (joint_stage w.args.n1 w.args.n2 (factor_at w.args.col.now w.args.n1 w.args.i)
        (factor_at w.args.row.now w.args.n2 w.args.j)) w.args.x.now) ok y
        × (length y ≡ most_cells)
    told-by {ok} {y} v =
        let e = ap₂ rule_by w.is_down-down.ensures w.is_even-even.ensures ∙ by_tests w.args.run.rule in
        told
        (subst (λ r. Weighed task r w.args.col.now w.layout_at-fa.result w.args.row.now w.layout_at-fb.result
        w.args.x.now ok y) e v)

pub all_rows-requires-clause-asked : goal.all_rows-requires-clause-asked
all_rows-requires-clause-asked c = asks (goal.at.all_rows-requires-clause-asked c).After-is_even-even refl

pub all_rows-requires-clause-kind : goal.all_rows-requires-clause-kind
unfolding limit_of
all_rows-requires-clause-kind c = let a = c.in-Lower.is in let b = c.in-Forward.is in (λ z. cc, rw b)

pub all_rows-requires-clause-makes : goal.all_rows-requires-clause-makes
unfolding limit_of element_of row_order
all_rows-requires-clause-makes c i v r w e = let b = c.in-Forward.is in rw b (search rules)

pub returns-in-Lower : goal.returns-in-Lower
returns-in-Lower c =
    told-by (goal.at.returns-in-Lower c).After-is_even-even refl c.all_rows.ensures

pub all_rows-requires-in-Upper-clause-asked : goal.all_rows-requires-in-Upper-clause-asked
all_rows-requires-in-Upper-clause-asked c = asks (goal.at.all_rows-requires-in-Upper-clause-asked c).After-is_even-even refl

pub all_rows-requires-in-Upper-clause-kind : goal.all_rows-requires-in-Upper-clause-kind
unfolding limit_of
all_rows-requires-in-Upper-clause-kind c = let a = c.in-Upper.is in let b = c.in-Forward.is in (λ z. cc, rw b)

pub all_rows-requires-in-Upper-clause-makes : goal.all_rows-requires-in-Upper-clause-makes
unfolding limit_of element_of row_order
all_rows-requires-in-Upper-clause-makes c i v r w e = let b = c.in-Forward.is in rw b (search rules)

pub returns-in-Upper : goal.returns-in-Upper
returns-in-Upper c =
    told-by (goal.at.returns-in-Upper c).After-is_even-even refl c.all_rows-in-Upper.ensures

pub apply_single_rows-requires : goal.apply_single_rows-requires
apply_single_rows-requires c =
    (asks (goal.at.apply_single_rows-requires c).After-is_even-even c.in-Forward.is, c.in-Single.is)

pub returns-in-Single : goal.returns-in-Single
returns-in-Single c =
    told-by (goal.at.returns-in-Single c).After-is_even-even c.in-Forward.is c.apply_single_rows.ensures

pub returns-in-Permutation : goal.returns-in-Permutation
returns-in-Permutation c =
    absurd (move-no _ (weighs (goal.at.returns-in-Permutation c).After-is_even-even) c.in-Permutation.is)

pub all_rows-requires-in-Lower-kind-clause-asked : goal.all_rows-requires-in-Lower-kind-clause-asked
all_rows-requires-in-Lower-kind-clause-asked c = asks (goal.at.all_rows-requires-in-Lower-kind-clause-asked c).After-is_even-even refl

pub all_rows-requires-in-Lower-kind-clause-kind : goal.all_rows-requires-in-Lower-kind-clause-kind
unfolding limit_of
all_rows-requires-in-Lower-kind-clause-kind c = let a = c.in-Lower-kind.is in let b = c.in-Inverse.is in (λ z. cc, rw b)

pub all_rows-requires-in-Lower-kind-clause-makes : goal.all_rows-requires-in-Lower-kind-clause-makes
unfolding limit_of element_of row_order
all_rows-requires-in-Lower-kind-clause-makes c i v r w e = let b = c.in-Inverse.is in rw b (search rules)

pub returns-in-Lower-kind : goal.returns-in-Lower-kind
returns-in-Lower-kind c =
    told-by (goal.at.returns-in-Lower-kind c).After-is_even-even refl c.all_rows-in-Lower-kind.ensures

pub all_rows-requires-in-Upper-kind-clause-asked : goal.all_rows-requires-in-Upper-kind-clause-asked
all_rows-requires-in-Upper-kind-clause-asked c = asks (goal.at.all_rows-requires-in-Upper-kind-clause-asked c).After-is_even-even refl

pub all_rows-requires-in-Upper-kind-clause-kind : goal.all_rows-requires-in-Upper-kind-clause-kind
unfolding limit_of
all_rows-requires-in-Upper-kind-clause-kind c = let a = c.in-Upper-kind.is in let b = c.in-Inverse.is in (λ z. cc, rw b)

pub all_rows-requires-in-Upper-kind-clause-makes : goal.all_rows-requires-in-Upper-kind-clause-makes
unfolding limit_of element_of row_order
all_rows-requires-in-Upper-kind-clause-makes c i v r w e = let b = c.in-Inverse.is in rw b (search rules)

pub returns-in-Upper-kind : goal.returns-in-Upper-kind
returns-in-Upper-kind c =
    told-by (goal.at.returns-in-Upper-kind c).After-is_even-even refl c.all_rows-in-Upper-kind.ensures

pub undo_single_rows-requires : goal.undo_single_rows-requires
undo_single_rows-requires c =
    (asks (goal.at.undo_single_rows-requires c).After-is_even-even c.in-Inverse.is, c.in-Single-kind.is)

pub returns-in-Single-kind : goal.returns-in-Single-kind
returns-in-Single-kind c =
    told-by (goal.at.returns-in-Single-kind c).After-is_even-even c.in-Inverse.is c.undo_single_rows.ensures

pub returns-in-Permutation-kind : goal.returns-in-Permutation-kind
returns-in-Permutation-kind c =
    absurd (move-no _ (weighs (goal.at.returns-in-Permutation-kind c).After-is_even-even) c.in-Permutation-kind.is)

pub allow_rows-requires : goal.allow_rows-requires
allow_rows-requires c =
    asks (goal.at.allow_rows-requires c).After-is_even-even c.in-Allowance.is

pub returns-in-Allowance : goal.returns-in-Allowance
returns-in-Allowance c =
    told (goal.at.returns-in-Allowance c).After-is_even-even c.in-Allowance.is c.allow_rows.ensures
