-- A kind number without fault is 1 to 4, so it may be counted. Assumes nothing.
use Rattle.laws.specs.Accepted.{kind-counts}
use Rattle.sheetread.proofs.factors.kind_at.Goals as goal

pub count_at-requires : goal.count_at-requires
count_at-requires c = kind-counts c.requires
