-- n (n - 1) / 2 is the sum 0 + 1 + .. + (n - 1), and no product of an order and the order before it wraps. Assumes nothing.
use Rattle.laws.specs.Tests.{triangle-half}
use Rattle.sheetread.proofs.factors.triangle_of.Goals as goal

pub returns : goal.returns
returns c = triangle-half c.args.n c.requires.0
