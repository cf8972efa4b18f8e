-- The copy has the first m numbers, and m is `suc longest` or all of them: `checked-front` has these decide.
use Rattle.std.proofs.Common.{◌≡◌, ap, ◌∙◌, ℕ, suc, min, arith, length, take}
use Rattle.laws.specs.Prefix.{longest, checked-front}
use Rattle.recipe.specs.Results.{front-is}
use Rattle.rules.specs.Answers.{checked}
use Rattle.rules.specs.Recipes.{numbers_of}
use Rattle.recipe.proofs.reading.check_numbers.Goals as goal

pub returns : goal.returns
returns c =
    let all = numbers_of c.args.bytes.now in
    let e : c.min.result ≡ min (length all) (suc longest) = rw c.requires at c.min.ensures in
    let front : c.decode.new.out ≡ take c.min.result all = front-is all _ (omega (arith, e)) c.decode.ensures in
    c.check.ensures ∙ ap checked (front ∙ ap (λ (k : ℕ). take k all) e) ∙ checked-front all
