-- Each arm is the factor of its kind (`layout-by`); a row of its own is there and at least 0 (`row_counts`).
use Rattle.std.proofs.Common.{List, ◌≡◌, sym, ap, ◌∙◌, ℕ, ◌+◌, ℤ, ◌⊎◌, inl, inr}
use Rattle.factor.specs.Layouts.{layout, layout_at, layout_by, row_in}
use Rattle.factor.specs.SumBounds.{layout-by}
use Rattle.laws.specs.Accepted.{row_counts}
use Rattle.rules.specs.Factors.{signs_at}
use Rattle.rules.specs.Numbers.{count}
use Rattle.rules.specs.Sheets.{kind_of}
use Rattle.rules.specs.declared.Kind.{Kind}
use Rattle.rules.specs.declared.Kind.TheVariants.{Permutation, Lower, Upper, Single}
use Rattle.factor.proofs.layout_at.Goals as goal

pub count_at-requires : goal.count_at-requires
count_at-requires c = row_counts (c.requires.body.row (sym c.in-Single.ensures))

-- a factor that has no row of its own
plain : (s : List ℤ) (n i : ℕ) {k : Kind} → k ≡ kind_of (count s i) → (k ≡ Permutation) ⊎ ((k ≡ Lower) ⊎ (k ≡ Upper)) →
    layout k n 0 (i + 1) (i + 1 + n) ≡ layout_at s n i
unfolding layout_by row_in signs_at
plain s n i e (inl f) = ap (λ (k : Kind). layout k n 0 (i + 1) (i + 1 + n)) f ∙ layout-by s n i Permutation e f
plain s n i e (inr (inl f)) = ap (λ (k : Kind). layout k n 0 (i + 1) (i + 1 + n)) f ∙ layout-by s n i Lower e f
plain s n i e (inr (inr f)) = ap (λ (k : Kind). layout k n 0 (i + 1) (i + 1 + n)) f ∙ layout-by s n i Upper e f

pub returns-in-Permutation : goal.returns-in-Permutation
returns-in-Permutation c = c.layout_from.ensures ∙ plain _ _ _ c.kind_at-kind.ensures c.in-Permutation.is

pub returns-in-Single : goal.returns-in-Single
unfolding layout_by row_in signs_at
returns-in-Single c =
    let a = c.args in
    c.layout_from-in-Single.ensures
    ∙ rw (c.in-Single.is, c.count_at.ensures) (layout-by a.sheet.now a.n a.i Single c.kind_at-kind.ensures c.in-Single.is)
