use Rattle.std.proofs.Common.{ap, ◌∙◌, ℕ, ◌+◌, ◌-◌, arith}
use Rattle.joint.specs.Triangles.{upper-right, upper-next}
use Rattle.trianglerows.proofs.upper.UpperTriangle.next.Goals as goal

pub overflow_add-result : goal.overflow_add-result
overflow_add-result c =
    let e = upper-right c.args.f c.args.j c.requires.0 in
    let n = c.requires.1 in
    let h = c.requires.4 in
    omega arith

pub returns : goal.returns
returns c =
    rw c.requires.1
    (ap (λ (z : ℕ). z + (c.args.f.order - 1 - c.args.j)) c.requires.3 ∙ upper-next c.args.f c.args.j c.requires.0)
