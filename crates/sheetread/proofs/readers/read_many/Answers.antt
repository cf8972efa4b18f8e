-- Invariant: reading all m numbers from the start is reading those that are left from place i. Assumes nothing.
use Rattle.std.proofs.Common.{sym, ap, ◌∙◌, arith, refl}
use Rattle.laws.specs.Readers.{times_none, on-turn, stop-turn}
use Rattle.laws.specs.Results.{some-fault, passed}
use Rattle.rules.specs.Results.{marked}
use Rattle.rules.specs.Sheets.{one}
use Rattle.sheetread.proofs.readers.read_many.Goals as goal

pub returns-in_err-i : goal.returns-in_err-i
returns-in_err-i c =
    let l = c.loop in
    let a = c.args in
    let s = stop-turn a.m l.counter (one a.sheet.now a.what) l.i (omega arith) c.in_err-i.ensures (λ z. some-fault _ z) in
    ap marked (passed c.from_residual.ensures.1) ∙ sym (l.invariant ∙ s)

pub loop-preserved : goal.loop-preserved
loop-preserved c =
    let l = c.loop in
    let a = c.args in
    l.invariant ∙ on-turn a.m l.counter (one a.sheet.now a.what) l.i (omega arith) c.in_ok-i.ensures refl

pub returns : goal.returns
returns c =
    let l = c.loop in
    let a = c.args in
    sym (l.invariant ∙ times_none a.m l.counter (one a.sheet.now a.what) l.i (omega arith))
