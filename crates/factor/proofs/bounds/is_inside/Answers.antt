-- Each number more is in bound, or not, as `inside` says of it (`inside-more`).
use Rattle.std.proofs.Common.{rules, tests, ◌≡◌, false, cond, refl, length, nat_abs, leb}
use Rattle.std.proofs.iter.Yields.{fronts}
use Rattle.std.proofs.lemmas.Fn.{fold_over}
use Rattle.std.proofs.lemmas.Iterator.{YieldsList-from_slice}
use Rattle.factor.specs.SumBounds.{inside-more}
use Rattle.rules.specs.Numbers.{bound}
use Rattle.rules.specs.Stages.{inside}
use Rattle.factor.proofs.bounds.is_inside.Goals as goal

pub returns : goal.returns
unfolding inside
returns c =
    fold_over fronts (λ y. y.now) _ (λ ys a. a ≡ inside bound (length ys) ys) _
    (λ ys a x b f h k.
    let q : b ≡ cond (leb (nat_abs x.now) bound) a false = search (rules, tests) in
    rw (inside-more bound ys x.now) (rw h at q, search rules))
    c.iter.result c.args.x.now _ _ (YieldsList-from_slice c.args.x.now c.iter.ensures.rest).runs refl c.fold.ensures.ran
