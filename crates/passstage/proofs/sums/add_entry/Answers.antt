-- An entry has 15 bits and its sign, so it comes back from 16. Its products are made (`products-small`) and added (`raised_by`).
use Rattle.std.proofs.Common.{◌≡◌, to_z-of_z, w16, w32, to_z, of_z}
use Rattle.passstage.specs.Parts.{products-small, raised_by}
use Rattle.whole.specs.Machine.{reads}
use Rattle.passstage.proofs.sums.add_entry.Goals as goal
use Rattle.passstage.proofs.sums.add_entry.Goals.{Start}

entry : (s : Start) → to_z w32 (of_z w32 (to_z w16 (of_z w16 (to_z w32 (of_z w32 s.args.a))))) ≡ s.args.a
entry s = rw (to_z-of_z s.ranges.a, reads w16 s.requires.2 tt) (to_z-of_z s.ranges.a)

pub add_products-requires : goal.add_products-requires
add_products-requires c = (
  c.requires.0,
  products-small c.args.k c.requires.2 c.requires.3 (rw (entry (goal.at.add_products-requires c).Start) at c.products.ensures),
  c.requires.4,
  c.requires.5,
)

pub returns : goal.returns
returns c =
    raised_by (rw (entry (goal.at.returns c).Start) at c.products.ensures) c.add_products.ensures
