-- Two elements of one line have the factor's weight, others none (`pass_weight`).
use Rattle.offender.specs.RefusedBounds.{spot-below}
use Rattle.offender.proofs.weights.pass_weight.Goals as goal

pub matrix_at-requires : goal.matrix_at-requires
matrix_at-requires c = (
  c.requires.0,
  rw c.spot_of.ensures (spot-below c.args.q c.args.down c.args.e c.requires.3),
  rw c.spot_of-2.ensures (spot-below c.args.q c.args.down c.args.k c.requires.4),
)
