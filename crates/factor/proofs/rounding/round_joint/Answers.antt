-- There is nothing more in the sum (`none-past`).
use Rattle.std.proofs.Common.{◌∙◌, arith, to_z-of_z, w64}
use Rattle.factor.specs.Rounding.{rule_by, none-past, rounded}
use Rattle.rules.specs.Numbers.{unit²}
use Rattle.whole.specs.Machine.{back}
use Rattle.factor.proofs.rounding.round_joint.Goals as goal

pub returns : goal.returns
returns c =
    let rule = rule_by c.args.down c.args.even in
    rounded rule unit² c.args.s (omega arith)
    (back w64 _ c.round_past.type_inv ∙ c.round_past.ensures ∙ rw (to_z-of_z c.ranges.s) (none-past rule unit² c.args.s))
