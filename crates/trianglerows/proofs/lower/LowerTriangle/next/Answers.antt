use Rattle.std.proofs.Common.{ap, ◌∙◌, ℕ, ◌+◌, arith}
use Rattle.joint.specs.Triangles.{lower-left, lower-next}
use Rattle.trianglerows.proofs.lower.LowerTriangle.next.Goals as goal

pub overflow_add-result : goal.overflow_add-result
overflow_add-result c = let e = lower-left c.args.f c.args.j c.requires.0 in let h = c.requires.4 in omega arith

pub returns : goal.returns
returns c = ap (λ (z : ℕ). z + c.args.j) c.requires.3 ∙ lower-next c.args.f c.args.j c.requires.0
