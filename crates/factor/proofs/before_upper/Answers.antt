-- The rows above and their triangle make whole rows (`above-triangle`).
use Rattle.std.proofs.Common.{arith}
use Rattle.factor.specs.SumBounds.{above-triangle}
use Rattle.factor.proofs.before_upper.Goals as goal

pub overflow_sub-result-2 : goal.overflow_sub-result-2
overflow_sub-result-2 c = omega (arith, c.before_lower.ensures, above-triangle c.args.n c.args.m (omega arith))

pub returns : goal.returns
returns c = omega (arith, c.before_lower.ensures, above-triangle c.args.n c.args.m (omega arith))
