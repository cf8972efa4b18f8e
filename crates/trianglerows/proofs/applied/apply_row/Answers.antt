-- The sums are the row's, so its elements are the row (`asks-run`, `run_row`).
use Rattle.std.proofs.Common.{◌≡◌, refl, ◌∙◌, w32, to_z, of_z}
use Rattle.factor.specs.Rounding.{rule_by}
use Rattle.joint.specs.Elements.{sign_at}
use Rattle.joint.specs.Triangles.{asks-run, run_row}
use Rattle.whole.specs.Machine.{back}
use Rattle.trianglerows.proofs.applied.apply_row.Goals as goal
use Rattle.trianglerows.proofs.applied.apply_row.Goals.{After-sign_at-d}

sign : (g : _) (c : After-sign_at-d g) →
    to_z w32 (of_z w32 c.sign_at-d.result) ≡ sign_at c.args.col.now c.args.fa c.args.i
sign g c = back w32 _ c.sign_at-d.type_inv ∙ c.sign_at-d.ensures

pub apply_elements-requires : goal.apply_elements-requires
apply_elements-requires g c =
    let h = goal.at.apply_elements-requires g c in
    (asks-run c.requires.0 refl (sign g h.After-sign_at-d) c.sums.ensures, c.requires.1)

pub returns : goal.returns
returns g c =
    run_row c.requires.0 refl (sign g (goal.at.returns g c).After-sign_at-d) c.sums.ensures (rule_by c.args.down c.args.even)
    c.apply_elements.ensures
