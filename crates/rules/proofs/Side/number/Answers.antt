-- The numbers that the enum gives its variants. Assumes nothing.
use Rattle.std.proofs.Common.{◌≡◌, refl}
use denote.Enum.Declared.{tag_of}
use Rattle.rules.specs.contracts.Side.{the_type}
use Rattle.rules.specs.declared.Side.{Side}
use Rattle.rules.specs.declared.Side.TheVariants.{First, Second}
use Rattle.rules.specs.Results.{side_number}
use Rattle.rules.proofs.Side.number.Goals as goal

by-number : (s : Side) → tag_of the_type s ≡ side_number s
by-number First = refl
by-number Second = refl

pub returns : goal.returns
returns c = by-number c.args.self
