-- A square less its side is twice the triangle.
use Rattle.factor.specs.SumBounds.{half-triangle}
use Rattle.factor.proofs.before_lower.Goals as goal

pub returns : goal.returns
returns c = half-triangle c.args.m
