-- The other call answers first; then one number is put back as it was (`specs/Printings.antt`).
use Rattle.std.proofs.Common.{refl}
use Rattle.laws.specs.Results.{some-fault, passed}
use Rattle.recipe.specs.Printings.{printing-refused, printing-room, printing-filled}
use Rattle.recipe.proofs.table.first_printing.Goals as goal

pub returns-in_err-count : goal.returns-in_err-count
returns-in_err-count c =
    rw (passed c.from_residual.ensures.1) (printing-refused c.args.out.now c.in_err-count.ensures (some-fault _))

pub bounds-out-27 : goal.bounds-out-27
bounds-out-27 c = printing-room c.args.out.now c.in_ok-count.ensures refl

pub returns : goal.returns
returns c = printing-filled c.args.out.now c.in_ok-count.ensures refl
