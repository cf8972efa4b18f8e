-- The order of a sheet without fault may be counted. Assumes nothing.
use Rattle.laws.specs.Accepted.{order-counts}
use Rattle.sheetread.proofs.checked.Checked.order.Goals as goal

pub count_at-requires : goal.count_at-requires
count_at-requires c = order-counts c.args.self.now.faultless
