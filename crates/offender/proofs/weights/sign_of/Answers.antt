-- The signs of a factor stand inside its sheet.
use Rattle.std.proofs.Common.{◌∙◌, ◌+◌, ◌<◌, arith, length, w32}
use Rattle.offender.specs.FactorMatrix.{sign-there, sign_at_lem}
use Rattle.whole.specs.Machine.{back}
use Rattle.offender.proofs.weights.sign_of.Goals as goal
use Rattle.offender.proofs.weights.sign_of.Goals.{After-layout_at}

there : (c : After-layout_at) → c.layout_at.result.signs + c.args.m < length c.args.sheet.now
there c = sign-there c.requires.0 c.layout_at.ensures c.args.m c.requires.1

pub overflow_add-result : goal.overflow_add-result
overflow_add-result c = let h = there (goal.at.overflow_add-result c).After-layout_at in omega arith

pub offset_bounds-sheet-layout_at : goal.offset_bounds-sheet-layout_at
offset_bounds-sheet-layout_at c = let h = there (goal.at.offset_bounds-sheet-layout_at c).After-layout_at in omega arith

pub bounds-sheet-layout_at : goal.bounds-sheet-layout_at
bounds-sheet-layout_at c = there (goal.at.bounds-sheet-layout_at c).After-layout_at

pub returns : goal.returns
returns c =
    back w32 _ c.result-1.given ∙ sign_at_lem c.requires.0 c.layout_at.ensures c.args.m
