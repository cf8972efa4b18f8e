-- The front of one slice before the rest of the other is the other, filled from the front (`front-filled`).
use Rattle.std.proofs.Common.{ap, ◌∙◌}
use Rattle.std.specs.Prelude.{List, ◌++◌, drop, ℤ}
use Rattle.factor.specs.PaddedBlocks.{front-filled}
use Rattle.factor.proofs.block.copy_front.Goals as goal

pub returns : goal.returns
returns c =
    ap (λ (v : List ℤ). v ++ drop c.args.n c.args.y.now) c.copy_from_slice.ensures.after
    ∙ front-filled c.args.n c.args.x.now c.args.y.now c.requires.0 c.requires.1
