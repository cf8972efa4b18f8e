-- THE TURNS OF EACH KIND ARE THE DOCUMENT'S STAGE: at order four its definitions compute, element by element.
use Rattle.std.specs.Prelude.{Bool, List, [], ◌∷◌, ◌≡◌, ℤ, pos, ◌+ℤ◌, ◌*ℤ◌, length}
use Rattle.std.proofs.Math.Bool.{true, false}
use Rattle.std.proofs.Math.Path.{refl, ap₂}
use Rattle.std.proofs.Common.{sym, ◌∙◌, subst, arith}
use Prim.Native.Nat.{ℕ, zero, suc, ◌+◌, ◌<◌}
use Rattle.std.proofs.Math.IntN.{zero-*ℤ}
use Rattle.whole.specs.Stated.{sum}
use Rattle.rules.specs.declared.Kind.{Kind}
use Rattle.rules.specs.declared.Kind.TheVariants.{Permutation, Lower, Upper, Single}
use Rattle.rules.specs.declared.Rule.{Rule}
use Rattle.rules.specs.Numbers.{at, count}
use Rattle.rules.specs.Sheets.{kind_of, triangle}
use Rattle.rules.specs.Factors.{signs_at, above, entries_before, factor_at, has_entry, matrix}
use Rattle.rules.specs.Stages.{Stage, fill, those, off, weighed, forward, recover, undo}
use Rattle.rules.specs.Shapes.{by_turn, turn, order, in_row, stage_of, line_stage}
use Rattle.factor.specs.MovedInPlace.{moved_by}
use Rattle.four.specs.Turns.{entry_at, row_sum, element_by, lower_by, upper_by, single_by, stage_on}

-- the stage of a factor at place i, of a kind and a row that are known
unfoldable stage_at : Kind → ℕ → List ℤ → ℕ → Stage
stage_at kind r s i =
    line_stage 4
    (record {
      kind = kind;
      place = λ m. count s (i + 1 + m);
      row = r;
      sign = λ m. at s (signs_at kind i + m);
      entry = λ m k. at s (signs_at kind i + 4 + entries_before kind 4 r m k);
    })

pub four-list : (x : List ℤ) → length x ≡ 4 → x ≡ at x 0 ∷ at x 1 ∷ at x 2 ∷ at x 3 ∷ []
four-list [] l = absurd (omega arith)
four-list (a ∷ []) l = absurd (omega arith)
four-list (a ∷ b ∷ []) l = absurd (omega arith)
four-list (a ∷ b ∷ c ∷ []) l = absurd (omega arith)
four-list (a ∷ b ∷ c ∷ d ∷ []) l = refl
four-list (a ∷ b ∷ c ∷ d ∷ e ∷ x) l = absurd (omega arith)

weighed-four : (u : ℕ → ℤ) (v : List ℤ) →
    weighed 4 u v ≡ (((pos 0 +ℤ (u 0 *ℤ at v 0)) +ℤ (u 1 *ℤ at v 1)) +ℤ (u 2 *ℤ at v 2)) +ℤ (u 3 *ℤ at v 3)
unfolding weighed sum
weighed-four u v = refl

module _ (rule : Rule) (back : Bool) (s : List ℤ) (i : ℕ) (x : List ℤ) where
  abbrev pub staged : List ℤ
  staged = stage_on back rule 4 (line_stage 4 (factor_at s 4 i)) x

  known : {kind : Kind} {r : ℕ} → kind_of (count s i) ≡ kind → count s (i + 1) ≡ r →
      stage_on back rule 4 (stage_at kind r s i) x ≡ staged
  unfolding stage_at factor_at
  known k e = ap₂ (λ (kind : Kind) (r : ℕ). stage_on back rule 4 (stage_at kind r s i) x) (sym k) (sym e)

  pub moved-is : kind_of (count s i) ≡ Permutation → moved_by back 4 (λ m. count s (i + 1 + m)) x ≡ staged
  unfolding moved_by stage_on stage_at forward undo line_stage stage_of
  moved-is k = go back ∙ known k refl
    where
      go : (b : Bool) → moved_by b 4 (λ m. count s (i + 1 + m)) x ≡ stage_on b rule 4 (stage_at Permutation (count s (i + 1)) s i) x
      go false = refl
      go true = refl

  -- the block, number by number
  abbrev listed : List ℤ
  listed = at x 0 ∷ at x 1 ∷ at x 2 ∷ at x 3 ∷ []

  module _ (l : length x ≡ 4) where
    -- a law of the listed block is one of the block
    by-list : (f : List ℤ → List ℤ) (kind : Kind) (r : ℕ) → f listed ≡ stage_on back rule 4 (stage_at kind r s i) listed →
        f x ≡ stage_on back rule 4 (stage_at kind r s i) x
    by-list f kind r e =
        subst (λ (y : List ℤ). f y ≡ stage_on back rule 4 (stage_at kind r s i) y) (sym (four-list x l)) e

    pub lower-is : kind_of (count s i) ≡ Lower → lower_by rule s (i + 1) back x ≡ staged
    unfolding element_by row_sum entry_at stage_on stage_at forward undo recover order by_turn those turn in_row line_stage stage_of
        factor_at fill weighed sum off matrix has_entry entries_before signs_at triangle
    lower-is k = by-list (lower_by rule s (i + 1) back) Lower (count s (i + 1)) (go back) ∙ known k refl
      where
        go : (b : Bool) → lower_by rule s (i + 1) b listed ≡ stage_on b rule 4 (stage_at Lower (count s (i + 1)) s i) listed
        go false = refl
        go true = refl

    pub upper_is : kind_of (count s i) ≡ Upper → upper_by rule s (i + 1) back x ≡ staged
    unfolding element_by row_sum entry_at stage_on stage_at forward undo recover order by_turn those turn in_row line_stage stage_of
        factor_at fill weighed sum off matrix has_entry entries_before signs_at above
    upper_is k = by-list (upper_by rule s (i + 1) back) Upper (count s (i + 1)) (go back) ∙ known k refl
      where
        go : (b : Bool) → upper_by rule s (i + 1) b listed ≡ stage_on b rule 4 (stage_at Upper (count s (i + 1)) s i) listed
        go false = refl
        go true = refl

    single-listed : (b : Bool) (r : ℕ) → r < 4 →
        single_by rule s (i + 2) b r listed ≡ stage_on b rule 4 (stage_at Single r s i) listed
    unfolding element_by row_sum entry_at stage_on stage_at forward undo recover order by_turn those turn in_row line_stage stage_of
        factor_at fill off matrix has_entry entries_before signs_at
    single-listed b (suc (suc (suc (suc r)))) l = absurd (omega arith)
    single-listed false zero l = simp weighed-four
    single-listed false (suc zero) l = simp weighed-four
    single-listed false (suc (suc zero)) l = simp weighed-four
    single-listed false (suc (suc (suc zero))) l = simp weighed-four
    single-listed true zero l = simp (weighed-four, zero-*ℤ)
    single-listed true (suc zero) l = simp (weighed-four, zero-*ℤ)
    single-listed true (suc (suc zero)) l = simp (weighed-four, zero-*ℤ)
    single-listed true (suc (suc (suc zero))) l = simp (weighed-four, zero-*ℤ)

    pub single-is : kind_of (count s i) ≡ Single → (r : ℕ) → r < 4 → count s (i + 1) ≡ r →
        single_by rule s (i + 2) back r x ≡ staged
    single-is k r b e = by-list (single_by rule s (i + 2) back r) Single r (single-listed back r b) ∙ known k e
