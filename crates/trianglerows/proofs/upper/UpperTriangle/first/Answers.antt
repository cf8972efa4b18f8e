use Rattle.std.proofs.Common.{◌≡◌, sym, ap, ◌∙◌, ℕ, ◌+◌}
use Rattle.factor.specs.Layouts.{row_of}
use Rattle.joint.specs.Triangles.{upper-at}
use Rattle.trianglerows.proofs.upper.UpperTriangle.first.Goals as goal
use Rattle.trianglerows.proofs.upper.UpperTriangle.first.Goals.{After-before_upper}

place : (c : After-before_upper) → c.args.f.entries + c.before_upper.result ≡ (row_of c.args.f c.args.m).at
place c = ap (λ (z : ℕ). c.args.f.entries + z) (c.before_upper.ensures ∙ rw c.requires.1) ∙ sym (upper-at c.args.f c.args.m c.requires.0)

pub overflow_add-result : goal.overflow_add-result
overflow_add-result c = rw (place (goal.at.overflow_add-result c).After-before_upper) c.requires.4

pub returns : goal.returns
returns c = place (goal.at.returns c).After-before_upper
