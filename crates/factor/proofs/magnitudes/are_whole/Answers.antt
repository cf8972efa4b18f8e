-- All are multiples of 4096, or one is none (`whole-told`).
use Rattle.std.proofs.Common.{rules, tests, ◌≡◌, true, false, ◌%◌, eqb, nat_abs}
use Rattle.std.proofs.lemmas.Iterator.{YieldsList-from_slice, cases_from_all}
use Rattle.factor.specs.Magnitudes.{whole-told}
use Rattle.rules.specs.Numbers.{unit}
use Rattle.factor.proofs.magnitudes.are_whole.Goals as goal

pub returns : goal.returns
returns c =
    whole-told c.args.a.now c.args.p c.args.m c.requires.room
    (cases_from_all _ _ _ (λ z. eqb (nat_abs z % unit) 0 ≡ true) (λ z. eqb (nat_abs z % unit) 0 ≡ false) c.all.ensures.ran
    (YieldsList-from_slice _ c.iter.ensures.rest) (λ x q k. search (rules, tests)) (λ x q k. search (rules, tests)))
