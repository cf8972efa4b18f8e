-- The sums are the row's, so the one run of four elements is the row (`asks-run`, `run_row`).
use Rattle.std.proofs.Common.{true, false, ◌≡◌, sym, ◌∙◌, arith, w32, to_z, of_z}
use Rattle.factor.specs.Rounding.{rule_by}
use Rattle.joint.specs.Elements.{sign_at}
use Rattle.joint.specs.RowsInPlace.{run-all}
use Rattle.joint.specs.Triangles.{asks-run, run_row}
use Rattle.whole.specs.Machine.{back}
use Rattle.trianglerows.proofs.applied.apply_four.Goals as goal
use Rattle.trianglerows.proofs.applied.apply_four.Goals.{After-sign_at-d}

sign : (g : _) (c : After-sign_at-d g) →
    to_z w32 (of_z w32 c.sign_at-d.result) ≡ sign_at c.args.col.now c.args.fa c.args.i
sign g c = back w32 _ c.sign_at-d.type_inv ∙ c.sign_at-d.ensures

pub apply_run-requires : goal.apply_run-requires
apply_run-requires g c = (
  asks-run c.requires.0 (sym c.requires.2) (sign g (goal.at.apply_run-requires g c).After-sign_at-d) c.sums.ensures,
  c.requires.1,
  omega arith,
  omega (arith, c.requires.2),
  sym c.requires.2,
)

pub returns-then-even : goal.returns-then-even
returns-then-even g c =
    let h = goal.at.returns-then-even g c in
    rw c.if-even.true
    (run_row c.requires.0 (sym c.requires.2) (sign g h.After-sign_at-d) c.sums.ensures (rule_by c.args.down true)
    (run-all _ 4 c.requires.2 c.apply_run.ensures))

pub apply_run-requires-2 : goal.apply_run-requires-2
apply_run-requires-2 g c = (
  asks-run c.requires.0 (sym c.requires.2) (sign g (goal.at.apply_run-requires-2 g c).After-sign_at-d) c.sums.ensures,
  c.requires.1,
  omega arith,
  omega (arith, c.requires.2),
  sym c.requires.2,
)

pub returns : goal.returns
returns g c =
    let h = goal.at.returns g c in
    rw c.if-even.false
    (run_row c.requires.0 (sym c.requires.2) (sign g h.After-sign_at-d) c.sums.ensures (rule_by c.args.down false)
    (run-all _ 4 c.requires.2 c.apply_run-2.ensures))
