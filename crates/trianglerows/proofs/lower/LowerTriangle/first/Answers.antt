use Rattle.std.proofs.Common.{◌≡◌, sym, ap, ◌∙◌, ℕ, ◌+◌}
use Rattle.factor.specs.Layouts.{row_of}
use Rattle.joint.specs.Triangles.{lower-at}
use Rattle.trianglerows.proofs.lower.LowerTriangle.first.Goals as goal
use Rattle.trianglerows.proofs.lower.LowerTriangle.first.Goals.{After-before_lower}

place : (c : After-before_lower) → c.args.f.entries + c.before_lower.result ≡ (row_of c.args.f c.args.m).at
place c = ap (λ (z : ℕ). c.args.f.entries + z) c.before_lower.ensures ∙ sym (lower-at c.args.f c.args.m c.requires.0)

pub overflow_add-result : goal.overflow_add-result
overflow_add-result c = rw (place (goal.at.overflow_add-result c).After-before_lower) c.requires.4

pub returns : goal.returns
returns c = place (goal.at.returns c).After-before_lower
