-- The number at a place: past the end there is none, else `number_by` names its three groups by their places.
use Rattle.std.proofs.Common.{sym}
use Rattle.recipebytes.specs.Groups.{third-small, second-small, number_by, number_past}
use Rattle.recipebytes.proofs.number.read_number.Goals as goal

pub returns-then-i-bytes : goal.returns-then-i-bytes
returns-then-i-bytes c = sym (number_past _ _ c.if-i-bytes.true)

pub group-second-requires : goal.group-second-requires
group-second-requires c = rw c.group-third.ensures (third-small _)

pub group-requires : goal.group-requires
group-requires c = rw (c.group-second.ensures, c.group-third.ensures) (second-small _ _)

pub returns : goal.returns
returns c =
    rw (
      number_by _ _,
      sym c.group-third.ensures,
      sym c.group-second.ensures,
    )
    c.group.ensures
