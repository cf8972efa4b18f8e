-- After t stages a pass over any lines of that number and length stands at the block (`pass-goes`), which is in bound.
use Rattle.std.proofs.Common.{rules, true, false, ◌≡◌, refl, sym, ap, ◌∙◌, ◌+◌, ◌<◌, arith}
use Rattle.std.specs.Result.{is_ok}
use Rattle.std.proofs.lemmas.Result.{err_from_is_err_and}
use Rattle.factor.specs.StageLoops.{progress-passes, progress-stops}
use Rattle.factor.specs.Tasks.{nth_stage, stage-below}
use Rattle.laws.specs.Accepted.{accepted-order}
use Rattle.laws.specs.Tests.{apart}
use Rattle.passrun.specs.PassRuns.{told, pass-goes, pass-stops}
use Rattle.rules.specs.Numbers.{count}
use Rattle.passrun.proofs.passes.run_pass.Goals as goal

pub run_stage-requires : goal.run_stage-requires
run_stage-requires c =
    let a = c.args in
    let s = a.sheet.now in
    let o = accepted-order s.faultless in
    let l : c.loop-t.t-counter < count s.numbers.now 1 = omega (arith, c.requires.1) in (
      rw c.order-n.ensures o.least,
      rw c.order-n.ensures o.most,
      rw (c.nth_start-i.ensures, c.order-n.ensures) (s.faultless.each _ (stage-below _ _ _ l)),
      c.requires.0,
      c.loop-t.invariant.small,
      c.loop-t.invariant.long,
    )

-- the stage, over any such lines, is `told`
pub returns-in_err-map_err : goal.returns-in_err-map_err
returns-in_err-map_err c =
    let a = c.args in
    let s = a.sheet.now in
    let t = c.loop-t.t-counter in
    let l : c.loop-t.t-counter < count s.numbers.now 1 = omega (arith, c.requires.1) in
    let p = err_from_is_err_and c.from_residual.result c.from_residual.ensures.1 in
    let there : c.in_err-map_err.field-0.0 ≡ record { stage = c.loop-t.t-counter + 1 } = search rules in
    let no : is_ok c.run_stage.result ≡ false = search rules in
    rw (p.1, p.2, there) (record {
      passes = λ N r h.
          progress-stops t c.loop-t-test.true
          (λ ran k. pass-stops a.run N r s.numbers.now t l (c.loop-t.invariant.stands N r h ran k)
          (told a.run h s.faultless t c.order-n.ensures c.nth_start-i.ensures (stage-below _ _ _ l) c.run_stage.ensures) no);
      small = λ z. apart (sym z);
      long = c.run_stage.ensures.long;
    })

pub loop-t-preserved : goal.loop-t-preserved
loop-t-preserved c =
    let a = c.args in
    let s = a.sheet.now in
    let t = c.loop-t.t-counter in
    let l : c.loop-t.t-counter < count s.numbers.now 1 = omega (arith, c.requires.1) in
    let yes : is_ok c.run_stage.result ≡ true = search rules in
    record {
      small = c.run_stage.ensures.small yes;
      long = c.run_stage.ensures.long;
      stands = λ N r h ran k. pass-goes a.run N r s.numbers.now t l (c.loop-t.invariant.stands N r h ran k)
          (told a.run h s.faultless t c.order-n.ensures c.nth_start-i.ensures (stage-below _ _ _ l) c.run_stage.ensures) yes;
    }

pub returns : goal.returns
returns c =
    let e : c.loop-t.t-counter ≡ c.args.to = omega arith in
    record {
      passes = λ N r h. progress-passes (rw e at (c.loop-t.invariant.stands N r h));
      small = λ z. c.loop-t.invariant.small;
      long = c.loop-t.invariant.long;
    }
