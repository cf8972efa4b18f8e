-- The entries are read back from their bits; their sum is small.
use Rattle.std.proofs.Common.{arith, List, [], ◌∷◌, ◌≡◌, ap, ◌∙◌, ◌+◌, ℤ, ◌*ℤ◌, w32, w64, to_z, of_z}
use Rattle.factor.specs.Rounding.{rule_by}
use Rattle.four.specs.TurnLaws.{row-sum-small}
use Rattle.four.specs.Turns.{entry_at, row_sum}
use Rattle.rules.specs.Numbers.{at}
use Rattle.whole.specs.Machine.{back, within-le}
use Rattle.whole.specs.Stated.{sum}
use Rattle.four.proofs.elements.rounded_sum.Goals as goal
use Rattle.four.proofs.elements.rounded_sum.Goals.{After-entry-4, After-products_sum}

-- the entries as they were read
read :
    (c : After-entry-4) →
    let w = entry_at c.args.sheet.now (c.args.p + 4) in
    to_z w32 (of_z w32 c.entry.result) ∷ to_z w32 (of_z w32 c.entry-2.result)
    ∷ to_z w32 (of_z w32 c.entry-3.result) ∷ to_z w32 (of_z w32 c.entry-4.result) ∷ []
    ≡ w c.args.a ∷ w c.args.b ∷ w c.args.c ∷ w c.args.d ∷ []
read c =
    rw (
      back w32 _ c.entry.type_inv,
      back w32 _ c.entry-2.type_inv,
      back w32 _ c.entry-3.type_inv,
      back w32 _ c.entry-4.type_inv,
      c.entry.ensures,
      c.entry-2.ensures,
      c.entry-3.ensures,
      c.entry-4.ensures,
    )

value :
    (c : After-products_sum) →
    let a = c.args in
    to_z w64 (of_z w64 c.products_sum.result)
    ≡ row_sum (rule_by a.down a.even) a.sheet.now a.p a.a a.b a.c a.d a.x.now
unfolding row_sum sum
value c =
    let x = c.args.x.now in
    back w64 _ c.products_sum.type_inv ∙ c.products_sum.ensures
    ∙ ap (λ (w : List ℤ). sum 4 (λ j. at w j *ℤ at x j)) (read c.before.before.before)

pub round_line-requires : goal.round_line-requires
round_line-requires c =
    rw (value (goal.at.round_line-requires c).After-products_sum)
    (within-le (omega arith) (row-sum-small c.requires.0 c.requires.1 (rule_by c.args.down c.args.even)))
