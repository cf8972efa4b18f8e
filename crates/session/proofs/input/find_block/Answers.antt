-- The three answers of the definition.
use Rattle.std.proofs.Common.{◌≡◌, refl, sym, ◌∙◌, arith, w32, to_z, of_z, to_z-of_z}
use Rattle.laws.specs.Tests.{non_neg-yes}
use Rattle.rules.specs.Numbers.{at}
use Rattle.session.specs.Inputs.{counts-below, counts-beyond, counts-fine}
use Rattle.session.proofs.input.find_block.Goals as goal
use Rattle.session.proofs.input.find_block.Goals.{After-first-c, then-c-lt0-via-then-c-lt0, then-c-lt0-via-else-c-lt0+then-c-v}

read : (c : After-first-c) → to_z w32 (of_z w32 c.first-c.result) ≡ at c.args.v.now 0
read c = to_z-of_z {w = w32} (record { sfits = c.first-c.type_inv }) ∙ c.first-c.ensures

pub returns-then-c-lt0 : goal.returns-then-c-lt0
returns-then-c-lt0 c =
    let v = c.args.v.now in
    let e = read (goal.at.returns-then-c-lt0 c).After-first-c in
    record {
      answer = c.new.ensures ∙ elim c.then-c-lt0.branch [
        | then-c-lt0-via-then-c-lt0 w ↦ sym (counts-below v (rw e at w.if-c-lt0.true))
        | then-c-lt0-via-else-c-lt0+then-c-v w ↦
            let h = rw e at w.if-c-v.true in
            sym (counts-beyond v (non_neg-yes (at v 0) (rw e at w.if-c-lt0.false)) (omega arith))
      ];
      place = tt;
    }

pub returns : goal.returns
returns c =
    let v = c.args.v.now in
    let e = read (goal.at.returns c).After-first-c in
    let h = rw e at c.if-c-v.false in
    record {
      answer = sym (counts-fine v (non_neg-yes (at v 0) (rw e at c.if-c-lt0.false)) (omega arith));
      place = rw e (refl, omega arith);
    }
