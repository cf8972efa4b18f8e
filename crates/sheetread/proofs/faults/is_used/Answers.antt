-- Any of the numbers from start to i is the one at i: that is what `among` asks, number by number. Assumes nothing.
use Rattle.std.proofs.Common.{Bool, true, false, List, ◌≡◌, ◌∙◌, refl, ℕ, zero, suc, ◌+◌, ◌-◌, ◌||◌, cond, ℤ, rules}
use borrow.Author.Tests.{tests}
use Rattle.std.specs.List.{list_any, range_with_len}
use Rattle.std.proofs.lemmas.Iterator.{YieldsList-from_range}
use Rattle.std.proofs.lemmas.Iterator.Search.{any_from_yields_List}
use Rattle.rules.specs.Numbers.{at}
use Rattle.rules.specs.Sheets.{same, among}
use Rattle.sheetread.proofs.faults.is_used.Goals as goal

any-among : (s : List ℤ) (z : ℤ) (i m : ℕ) → list_any (λ k. same (at s k) z) (range_with_len i m) ≡ among s z i m
unfolding among
any-among s z i zero = refl
any-among s z i (suc m) = rw (any-among s z (i + 1) m) (go (same (at s i) z) (among s z (i + 1) m))
  where
    go : (a b : Bool) → a || b ≡ cond a true b
    go true b = refl
    go false b = refl

pub returns : goal.returns
returns c =
    any_from_yields_List (λ (k : ℕ). same (at c.args.sheet.now k) (at c.args.sheet.now c.args.i)) _ _ _ c.any.ensures.ran
    (YieldsList-from_range c.args.start c.args.i (c.args.i - c.args.start) refl refl)
    (λ x b q k. search (rules, tests))
    ∙ any-among c.args.sheet.now (at c.args.sheet.now c.args.i) c.args.start (c.args.i - c.args.start)
