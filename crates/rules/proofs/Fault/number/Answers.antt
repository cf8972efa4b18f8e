-- The numbers that the enum gives its variants are those of "What comes back". Assumes nothing.
use Rattle.std.proofs.Common.{◌≡◌, refl, ◌+◌}
use denote.Enum.Declared.{tag_of}
use Rattle.rules.specs.contracts.Fault.{the_type}
use Rattle.rules.specs.declared.Fault.{Fault}
use Rattle.rules.specs.declared.Fault.TheVariants.{Ended, Order, Count, Kind, Place, Repeated, Sign, Entry, Leftover, Length}
use Rattle.rules.specs.declared.Fault.TheVariants.{Sample, Mismatch, Allowance, Spelling, Room, Rule}
use Rattle.rules.specs.Results.{fault_number}
use Rattle.rules.proofs.Fault.number.Goals as goal

by-number : (f : Fault) → tag_of the_type f + 1 ≡ fault_number f
by-number Ended = refl
by-number Order = refl
by-number Count = refl
by-number Kind = refl
by-number Place = refl
by-number Repeated = refl
by-number Sign = refl
by-number Entry = refl
by-number Leftover = refl
by-number Length = refl
by-number Sample = refl
by-number Mismatch = refl
by-number Allowance = refl
by-number Spelling = refl
by-number Room = refl
by-number Rule = refl

pub returns : goal.returns
returns c = by-number c.args.self
