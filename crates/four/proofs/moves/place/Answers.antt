-- A place of a permutation of four is below four.
use Rattle.laws.specs.Accepted.{place_is, place-counts}
use Rattle.four.proofs.moves.place.Goals as goal

pub count_at-requires : goal.count_at-requires
count_at-requires c = place-counts c.requires

pub returns : goal.returns
returns c = (c.count_at.ensures, rw c.count_at.ensures (place_is c.requires).1)
