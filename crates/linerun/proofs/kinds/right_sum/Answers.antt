-- The entries stand on one side of the diagonal (`right-along`), and their sum is small.
use Rattle.std.proofs.Common.{◌≡◌, sym, ◌∙◌, ℕ, ◌-◌, suc, add-zero, arith, rules, length, w64, to_z, of_z}
use Rattle.factor.specs.Layouts.{row_of, along}
use Rattle.factor.specs.declared.Layout.{Layout}
use Rattle.factor.specs.SumBounds.{Bounded, bounded-le, right-terms, part-is}
use Rattle.linerun.specs.LineBounds.{most_sum, row-of-16, row_small}
use Rattle.linerun.specs.RowsByKind.{upper-left, upper-right, right-along}
use Rattle.linerun.specs.Steps.{rounded_sum}
use Rattle.rules.specs.Numbers.{most_allowance, at}
use Rattle.rules.specs.declared.Kind.TheVariants.{Upper}
use Rattle.whole.specs.Diff.{Within}
use Rattle.whole.specs.Machine.{back, within-le}
use Rattle.linerun.proofs.kinds.right_sum.Goals as goal
use Rattle.linerun.proofs.kinds.right_sum.Goals.{After-products_sum_from, Start}

bounded : (s : Start) → Bounded most_allowance s.args.x.now
bounded s = bounded-le (omega arith) s.requires.0.2

-- as many as stand right of the diagonal
many : (f : Layout) (m : ℕ) → f.kind ≡ Upper → f.order - 1 - m ≡ (row_of f m).right
many f m k = let e : f.order - 1 - m ≡ f.order - suc m = omega arith in e ∙ sym (upper-right f m k)

pub products_sum_from-requires : goal.products_sum_from-requires
products_sum_from-requires c =
    let here = goal.at.products_sum_from-requires c in
    let w : length c.args.x.now ≡ 16 = search rules in
    let l = c.requires.0.1 in
    let o = c.requires.0.0.order in
    let e = upper-left c.args.f c.args.m c.requires.1 in
    rw (part-is c.args.p c.args.sheet.now, c.requires.2, many c.args.f c.args.m c.requires.1)
    (omega arith, rw (e, add-zero) at (right-terms (row-of-16 c.requires.0.0 c.args.m l) (bounded here.Start) w))

value :
    (c : After-products_sum_from) →
    let a = c.args in
    to_z w64 (of_z w64 c.products_sum_from.result) ≡ along (at a.sheet.now) (row_of a.f a.m) a.m a.x.now
value c =
    let h = row-of-16 c.requires.0.0 c.args.m c.requires.0.1 in
    let w : length c.args.x.now ≡ 16 = search rules in
    back w64 _ c.products_sum_from.type_inv
    ∙ c.products_sum_from.ensures
    ∙ rw (part-is c.args.p c.args.sheet.now, c.requires.2, many c.args.f c.args.m c.requires.1)
    (right-along h (bounded-le (omega arith) c.requires.0.2) w (upper-left c.args.f c.args.m c.requires.1))

small :
    (s : Start) →
    let a = s.args in Within most_sum (along (at a.sheet.now) (row_of a.f a.m) a.m a.x.now)
small s = row_small s.requires.0.0 s.args.m s.requires.0.1 (bounded s)

pub round_line-requires : goal.round_line-requires
round_line-requires c =
    let h = small (goal.at.round_line-requires c).Start in
    rw (value (goal.at.round_line-requires c).After-products_sum_from) (within-le (omega arith) h)

pub returns : goal.returns
unfolding rounded_sum
returns c =
    back w64 _ c.round_line.type_inv ∙ c.round_line.ensures.0 ∙ rw (value (goal.at.returns c).After-products_sum_from)
