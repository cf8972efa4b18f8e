-- The table's entry is where the factor starts. Assumes nothing.
use Rattle.std.proofs.Common.{◌<◌, arith}
use Rattle.laws.specs.Accepted.{accepted-count}
use Rattle.sheetread.proofs.checked.Checked.start.Goals as goal
use Rattle.sheetread.proofs.checked.Checked.start.Goals.{Start}

short : (c : Start) → c.args.f < 32
short c = let m = (accepted-count c.args.self.now.faultless).most in omega arith

pub offset_bounds-self-f : goal.offset_bounds-self-f
offset_bounds-self-f c = let h = short (goal.at.offset_bounds-self-f c).Start in omega arith

pub bounds-self-f : goal.bounds-self-f
bounds-self-f c = short (goal.at.bounds-self-f c).Start

pub returns : goal.returns
returns c = c.args.self.now.started.entry _ c.requires
