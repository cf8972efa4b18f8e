-- The kind number, then what follows it by its kind. Assumes nothing.
use Rattle.std.proofs.Common.{refl, sym}
use Rattle.laws.specs.Readers.{seen}
use Rattle.rules.specs.Sheets.{factor}
use Rattle.sheetcheck.specs.Quick.{ends-then}
use Rattle.sheetcheck.proofs.quick.end_of_factor.Goals as goal

pub kind_at-kind-requires : goal.kind_at-kind-requires
kind_at-kind-requires c = seen (sym c.in_ok-p.ensures.next) refl

pub returns-then-n-eq4 : goal.returns-then-n-eq4
unfolding factor
returns-then-n-eq4 c =
    let b = rw c.kind_at-kind.ensures at c.end_of_body_of_four.ensures in
    rw c.if-n-eq4.true (ends-then _ _ c.in_ok-p.ensures b)

pub returns-else-n-eq4 : goal.returns-else-n-eq4
unfolding factor
returns-else-n-eq4 c =
    let b = rw c.kind_at-kind.ensures at c.end_of_body.ensures in
    ends-then _ _ c.in_ok-p.ensures b
