-- The first position whose kinds differ, or m. Assumes nothing.
use Rattle.std.specs.Prelude.{Option, None, Some, MatchOption, unwrap_or}
use Rattle.std.proofs.Common.{Bool, true, false, ◌≡◌, ◌∙◌, sym, ℕ, ◌≤◌, ◌<◌, arith, rules}
use borrow.Author.Tests.{tests}
use Rattle.std.proofs.lemmas.Iterator.{first_from_Range}
use Rattle.laws.specs.First.{first-none, first-here, kinds-differ, kinds-same}
use Rattle.rules.specs.Answers.{first, differ}
use Rattle.sheetcheck.proofs.matches.first_clash.Goals as goal

found-first :
    (t : ℕ → Bool) (m : ℕ) (o : Option ℕ) →
    MatchOption o ((k : ℕ) → 0 ≤ k → k < m → t k ≡ false)
    (λ i. (0 ≤ i) × (i < m) × (t i ≡ true) × ((k : ℕ) → 0 ≤ k → k < i → t k ≡ false)) →
    unwrap_or o m ≡ first t m
found-first t m None h = sym (first-none t m (λ k l. h k (omega arith) l))
found-first t m (Some i) h = sym (first-here t m i h.1 (λ k l. h.3 k (omega arith) l) h.2)

pub returns : goal.returns
returns c =
    let t = differ c.args.col.now.numbers.now c.args.row.now.numbers.now in
    let d = first_from_Range _ _ _ _ (λ k. t k ≡ true) (λ k. t k ≡ false) c.find.ensures.ran (λ x q k. search (rules, tests, kinds-differ, kinds-same)) (λ x q k. search (rules, tests, kinds-differ, kinds-same)) in
    c.unwrap_or.ensures ∙ found-first t c.args.m c.find.result d
