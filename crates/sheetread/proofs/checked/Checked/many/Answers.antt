-- The count of a sheet without fault may be counted with. Assumes nothing.
use Rattle.laws.specs.Accepted.{count-counts}
use Rattle.sheetread.proofs.checked.Checked.many.Goals as goal

pub count_at-requires : goal.count_at-requires
count_at-requires c = count-counts c.args.self.now.faultless
