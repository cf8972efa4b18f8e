-- A search through the slice finds the element that is named (`position-read`).
use Rattle.std.proofs.Common.{◌≡◌, ◌∙◌, rules}
use Rattle.std.specs.Prelude.{position}
use borrow.Author.Tests.{tests}
use Rattle.std.proofs.lemmas.Iterator.{YieldsList-from_slice}
use Rattle.std.proofs.lemmas.Iterator.Search.{position_from_yields_List}
use Rattle.offender.specs.Search.{beyond, position-read}
use Rattle.offender.proofs.input.first_beyond.Goals as goal

pub returns : goal.returns
returns c =
    let p : c.position.result ≡ position beyond c.args.x.now =
    position_from_yields_List beyond _ _ _ c.position.ensures.ran (YieldsList-from_slice c.args.x.now cc) (λ x b q k. search (rules, tests)) in
    c.unwrap_or.ensures ∙ position-read c.args.x.now c.position.result p
