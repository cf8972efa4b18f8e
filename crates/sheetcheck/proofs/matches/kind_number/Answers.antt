-- A kind number without fault may be counted. Assumes nothing.
use Rattle.laws.specs.Accepted.{kind-counts}
use Rattle.sheetcheck.proofs.matches.kind_number.Goals as goal

pub count_at-requires : goal.count_at-requires
count_at-requires c =
    rw c.start.ensures (kind-counts (c.args.sheet.now.faultless.each _ c.requires).kind)
