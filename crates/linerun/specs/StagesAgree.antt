-- ONE FACTOR OF A LINE, as the code goes through it, is the document's stage: applied, undone, and for allowances.
use Rattle.std.specs.Prelude.{Bool, List, ◌≢◌, ◌≡◌, ℕ, ◌+◌, ◌≤◌, ◌<◌, ℤ, nat_abs, ◌+ℤ◌, length}
use Rattle.std.proofs.Math.Bool.{cond}
use Rattle.std.proofs.Math.Path.{refl, ap, ap₂}
use Rattle.std.proofs.Common.{sym, ◌∙◌, subst, arith}
use Rattle.std.proofs.Math.IntN.{pos}
use Rattle.rules.specs.declared.Kind.{Kind}
use Rattle.rules.specs.declared.Kind.TheVariants.{Permutation, Single}
use Rattle.rules.specs.Numbers.{unit, at, count}
use Rattle.rules.specs.Sheets.{kind_of}
use Rattle.rules.specs.Factors.{Factor, signs_at, factor_at, matrix}
use Rattle.rules.specs.declared.Rule.{Rule}
use Rattle.rules.specs.Stages.{Stage, move, weigh, R, ceiling, share, fill, off, weighed, forward, undo, allow}
use Rattle.rules.specs.Shapes.{order, in_row, line_stage}
use Rattle.rules.specs.GoodStages.{Good}
use Rattle.rules.proofs.Laws.SoundFactors.{good-recovers}
use Rattle.rules.proofs.Laws.Kinds.{line-good, stage-moves, stage-weighs}
use Rattle.rules.proofs.Laws.Lists.{fill-same, put_same}
use Rattle.laws.specs.Accepted.{FactorRead}
use Rattle.laws.specs.Sound.{factor-sound}
use Rattle.factor.specs.declared.Layout.{Layout}
use Rattle.factor.specs.declared.run.Task.{Task}
use Rattle.factor.specs.declared.run.Task.TheVariants.{Forward, Inverse, Allowance}
use Rattle.factor.specs.Tasks.{is_inverse, stage_by}
use Rattle.factor.specs.MovedInPlace.{moved_by}
use Rattle.factor.specs.Layouts.{row_in, layout_by, layout_at}
use Rattle.factor.specs.RowSums.{row-sum}
use Rattle.factor.specs.WholeRows.{row-whole}
use Rattle.factor.specs.UndoingOrder.{undoing-permutes, later-blind}
use Rattle.factor.specs.InPlace.{in-place-undoes}
use Rattle.linerun.specs.Steps.{rounded_sum, applied_at, undone_at, allowed_at, undone_in_place}

module _ (rule : Rule) (s : List ℤ) (n i : ℕ) where
  abbrev F : Factor
  F = factor_at s n i

  abbrev f : Layout
  f = layout_at s n i

  abbrev W : Stage
  W = weigh unit F.sign (matrix F) (order F.kind n (in_row F))

  -- the stage of a factor with weights, and of a permutation
  weighing : kind_of (count s i) ≢ Permutation → line_stage n F ≡ W
  unfolding line_stage factor_at
  weighing q = stage-weighs (kind_of (count s i)) _ _ q

  moving : kind_of (count s i) ≡ Permutation → line_stage n F ≡ move unit F.place
  unfolding line_stage factor_at
  moving q = stage-moves (kind_of (count s i)) _ _ q

  sign-there : (m : ℕ) → at s (f.signs + m) ≡ F.sign m
  unfolding factor_at layout_at layout_by
  sign-there m = refl

  module _ (h : FactorRead s n i) (q : kind_of (count s i) ≢ Permutation) where
    rounded-sum-is : (x : List ℤ) (m : ℕ) → m < n → rounded_sum rule s f x m ≡ R rule unit (weighed n (off (matrix F) m) x)
    unfolding rounded_sum
    rounded-sum-is x m l = ap (R rule unit) (sym (row-sum (λ z. z) refl s n i m x l q))

    -- APPLIED
    pub apply-is : (x : List ℤ) → fill n (applied_at rule s f x) x ≡ forward rule n (line_stage n (factor_at s n i)) x
    unfolding forward applied_at
    apply-is x =
        fill-same n _ _ x (λ m l. rw (sign-there m, rounded-sum-is x m l))
        ∙ ap (λ (t : Stage). forward rule n t x) (sym (weighing q))

    -- ALLOWANCES
    pub allow-is : (b : List ℤ) → fill n (allowed_at rule s f b) b ≡ allow rule n (line_stage n (factor_at s n i)) b
    unfolding allow allowed_at
    allow-is b =
        fill-same n _ _ b
        (λ m l.
        ap₂ (λ (z : ℤ) (t : Bool). (at b m +ℤ ceiling unit z) +ℤ cond t (pos 0) (pos (share rule)))
        (sym (row-sum (λ z. pos (nat_abs z)) refl s n i m b l q))
        (sym (row-whole h q m l)))
        ∙ ap (λ (t : Stage). allow rule n t b) (sym (weighing q))

    -- UNDONE: the code's order is as good as the document's
    pub undo-is :
        (y : List ℤ) → n ≤ length y → (layout_at s n i).row < n →
        undone_in_place rule s (layout_at s n i) n y ≡ undo rule n (line_stage n (factor_at s n i)) y
    unfolding undo undone_at layout_at layout_by factor_at row_in
    undo-is y room b =
        in-place-undoes (undoing-permutes kind n r b) rule unit F.sign (matrix F) (undone_at rule s f)
        (λ v e l. rw (sign-there e, rounded-sum-is v e l))
        (omega arith)
        ((factor-sound h).signs q)
        (λ t u l k. later-blind F kind n r t u refl b row l k)
        (good-recovers (subst (Good n) (weighing q) (line-good n F (factor-sound h))))
        y room
        ∙ ap (λ (t : Stage). undo rule n t y) (sym (weighing q))
      where
        kind : Kind
        kind = kind_of (count s i)

        r : ℕ
        r = row_in kind s i

        row : kind ≡ Single → F.row ≡ r
        row e = rw e

  -- A PERMUTATION, moved and put back
  module _ (q : kind_of (count s i) ≡ Permutation) where
    place-there : (m : ℕ) → count s (f.signs + m) ≡ F.place m
    unfolding factor_at layout_at layout_by signs_at
    place-there m = rw q

    -- forward and for allowances the numbers are fetched, back they are put
    pub moves-are : (task : Task) (x : List ℤ) →
        moved_by (is_inverse task) n (λ e. count s ((layout_at s n i).signs + e)) x ≡ stage_by task rule n
        (line_stage n (factor_at s n i)) x
    unfolding moved_by is_inverse stage_by forward undo allow
    moves-are Forward x = fill-same n _ _ x (λ e l. rw (place-there e)) ∙ ap (λ (t : Stage). forward rule n t x) (sym (moving q))
    moves-are Inverse x = put_same n _ _ x place-there ∙ ap (λ (t : Stage). undo rule n t x) (sym (moving q))
    moves-are Allowance x = fill-same n _ _ x (λ e l. rw (place-there e)) ∙ ap (λ (t : Stage). allow rule n t x) (sym (moving q))
