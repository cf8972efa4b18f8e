-- THE SUMS OF A ROW THAT IS BEING UNDONE, element by element in the order q: a column has of the row itself what is recovered
-- there.
-- Nothing looks at the rest, so the element's sum is whole without its own term being put in and taken off again.
use mathlib.Core.List.{List}
use Rattle.std.specs.Prelude.{◌≢◌, ◌≡◌, ℕ, suc, ◌+◌, ◌*◌, ◌≤◌, ◌<◌, ℤ, pos, ◌-ℤ◌, ◌*ℤ◌, length, set, replicate}
use Rattle.std.proofs.Math.Path.{sym, ap, ap₂}
use Rattle.std.proofs.Common.{◌∙◌, arith}
use Rattle.std.proofs.Math.Decide.{ℕ_discrete, dec_lt}
use Rattle.std.proofs.Math.IntN.{◌+ℤ◌}
use Rattle.whole.specs.Diff.{lin, Within}
use Rattle.whole.specs.Laws.{distrib}
use Rattle.whole.specs.Machine.{within-le, within-+, within-*}
use Rattle.whole.specs.Sum.{sum-cong}
use Rattle.rules.specs.Numbers.{most_order, unit², most_allowance, at}
use Rattle.rules.specs.declared.Rule.{Rule}
use Rattle.rules.specs.Stages.{R}
use Rattle.rules.specs.GoodStages.{Permutes}
use Rattle.rules.proofs.Laws.Lists.{fill-at, set_at, set_other}
use Rattle.factor.specs.declared.Layout.{Layout}
use Rattle.factor.specs.LayoutInSheet.{InSheet}
use Rattle.factor.specs.SumBounds.{Bounded, RowIn}
use Rattle.factor.specs.Layouts.{row_of}
use Rattle.factor.specs.UndoingOrder.{nth_undone, undoing-permutes, Unseen, row-blind}
use Rattle.factor.specs.InPlace.{apart}
use Rattle.joint.specs.Sums.{entries_sum, across, in_column, column_sums, rest_sums, joint_sum, most_column, Band, column-other}
use Rattle.joint.specs.Sums.{rest-same, entries-small}
use Rattle.joint.specs.Elements.{sign_at, diagonal_of, sums_at, rest_sums_at, rounded_sum, rounded_rest, undone_at, undone_rest}
use Rattle.joint.specs.Elements.{band-at}

module _ (c : List ℤ) (fa : Layout) (i : ℕ) (fb : Layout) where
  abbrev n : ℕ
  n = fb.order

  abbrev q : ℕ → ℕ
  q u = nth_undone fb.kind fb.order fb.row u

  abbrev diagonal : ℤ
  diagonal = diagonal_of (sign_at c fa i)

  abbrev rest : List ℤ → ℕ → ℤ
  rest x k = entries_sum c (row_of fa i) i (in_column x fb.order k)

  -- after t turns, x the block and v the sums
  pub record RecoveredSums (t : ℕ) (x v : List ℤ) : Type 0 where
    pub done : (u : ℕ) → u < t → at v (q u) ≡ rest x (q u) +ℤ (diagonal *ℤ at x (i * n + q u))
    pub ahead : (u : ℕ) → t ≤ u → u < n → at v (q u) ≡ rest x (q u)

  module _ (low : fb.row < fb.order) (few : fb.order ≤ most_order) where
    p : Permutes fb.order (λ u. nth_undone fb.kind fb.order fb.row u)
    p = undoing-permutes fb.kind fb.order fb.row low

    pub recovered-sums-start : (x : List ℤ) {v : List ℤ} → v ≡ rest_sums_at c fa i x fb.order → RecoveredSums 0 x v
    unfolding rest_sums
    recovered-sums-start x e = record {
      done = λ u l. absurd (omega arith);
      ahead = λ u l b. ap (λ (w : List ℤ). at w (q u)) e ∙ fill-at n _ (replicate most_order (pos 0)) (q u) (p.below u b) few;
    }

    module _ (h : InSheet c fa) (b : i < fa.order) (t : ℕ) (l : t < fb.order) {x v : List ℤ} (s : RecoveredSums t x v) where
      band : Band c (row_of fa i) i (diagonal_of (sign_at c fa i))
      band = band-at h i b

      -- an element recovered
      pub recovered-sums-next : (z : ℤ) → i * fb.order + nth_undone fb.kind fb.order fb.row t < length x →
          length v ≡ most_order →
          RecoveredSums (t + 1) (set x (i * fb.order + nth_undone fb.kind fb.order fb.row t) z)
          (set v (nth_undone fb.kind fb.order fb.row t)
          (at v (nth_undone fb.kind fb.order fb.row t) +ℤ (diagonal_of (sign_at c fa i) *ℤ z)))
      recovered-sums-next z room wide =
          record {
            done = λ u g. go u g (ℕ_discrete u t);
            ahead = λ u g k. other u k (λ e. omega arith)
                ∙ s.ahead u (omega arith) k ∙ sym (kept (q u) (p.below u k));
          }
        where
          x' : List ℤ
          x' = set x (i * n + q t) z

          v' : List ℤ
          v' = set v (q t) (at v (q t) +ℤ (diagonal *ℤ z))

          kept : (k : ℕ) → k < n → rest x' k ≡ rest x k
          kept k g = rest-same x n (q t) z band.row (p.below t l) k g

          other : (u : ℕ) → u < n → u ≢ t → at v' (q u) ≡ at v (q u)
          other u g e = set_other v (q t) (q u) _ (apart p u t g l e)

          go : (u : ℕ) → u < t + 1 → Dec (u ≡ t) → at v' (q u) ≡ rest x' (q u) +ℤ (diagonal *ℤ at x' (i * n + q u))
          go u g (yes e) =
              rw e
              (set_at v (q t) _ (omega (arith, p.below t l, wide))
              ∙ ap₂ (λ (a d : ℤ). a +ℤ (diagonal *ℤ d)) (s.ahead t (omega arith) l ∙ sym (kept (q t) (p.below t l)))
              (sym (set_at x (i * n + q t) z room)))
          go u g (no e) =
              let k : u < n = omega arith in
              other u k e ∙ s.done u (omega arith)
              ∙ ap₂ (λ (a d : ℤ). a +ℤ (diagonal *ℤ d)) (sym (kept (q u) (p.below u k)))
              (sym (column-other x i n (q t) z (p.below t l) (q u) i (p.below u k) (λ z _. apart p u t k l e z)))

      -- what is put in stays small
      pub recovered-sums-small : Bounded most_allowance x → {z : ℤ} → Within most_allowance z →
          Within most_column (at v (nth_undone fb.kind fb.order fb.row t) +ℤ (diagonal_of (sign_at c fa i) *ℤ z))
      recovered-sums-small m k =
          rw (s.ahead t (omega arith) l)
          (within-le (omega arith) (within-+ (entries-small band (in_column x n (q t)) (λ e. m.small (e * n + q t)))
          (within-* band.small k)))

      module _ {r : List ℤ} (hb : InSheet r fb) where
        -- what the element looks at is recovered
        seen : (k : ℕ) → k < n → k ≢ q t → ((u : ℕ) → t < u → u < n → k ≢ q u) → at v k ≡ at (sums_at c fa i x n) k
        unfolding column_sums
        seen k g e f =
            rw (p.to-from k g) at (s.done (p.from k) (early (dec_lt (p.from k) t) (ℕ_discrete (p.from k) t)))
            ∙ sym (fill-at n _ (replicate most_order (pos 0)) k g few)
          where
            early : Dec (p.from k < t) → Dec (p.from k ≡ t) → p.from k < t
            early (yes a) d = a
            early (no a) (yes d) = absurd (e (sym (p.to-from k g) ∙ ap q d))
            early (no a) (no d) = absurd (f (p.from k) (omega arith) (p.from-below k g) (sym (p.to-from k g)))

        blind : (u : ℕ) → t < u → u < n → Unseen (row_of fb (q t)) (q t) (q u)
        blind u a d = row-blind fb t u low a d

        in-sheet : RowIn r n (row_of fb (q t)) (q t)
        in-sheet = hb.row (q t) (p.below t l)

        without : (e o w y g : ℤ) → e +ℤ (o *ℤ w) ≡ (e +ℤ (o *ℤ (w +ℤ (g *ℤ y)))) -ℤ ((g *ℤ o) *ℤ y)
        without e o w y g = simp distrib (simp lin (omega arith))

        whole : across r (row_of fb (q t)) (q t) (diagonal_of (sign_at r fb (q t))) (at v)
            ≡ joint_sum r (row_of fb (q t)) (q t) (diagonal_of (sign_at r fb (q t))) diagonal (sums_at c fa i x n) (at x (i * n + q t))
        unfolding entries_sum joint_sum column_sums
        whole =
            ap₂ (λ (a d : ℤ). a +ℤ (diagonal_of (sign_at r fb (q t)) *ℤ d))
            (ap₂ ◌+ℤ◌
            (sum-cong (row_of fb (q t)).left _ _
            (λ k a. let e = in-sheet.left in let f = in-sheet.right in
            rw (seen k (omega arith) (λ z. omega arith) (λ u g d. (blind u g d).left k a))))
            (sum-cong (row_of fb (q t)).right _ _
            (λ k a. let f = in-sheet.right in
            rw (seen (suc (q t) + k) (omega arith) (λ z. omega arith) (λ u g d. (blind u g d).right k a)))))
            (s.ahead t (omega arith) l)
            ∙ without (entries_sum r (row_of fb (q t)) (q t) (at (sums_at c fa i x n))) (diagonal_of (sign_at r fb (q t)))
            (rest x (q t)) (at x (i * n + q t)) diagonal
            ∙ ap (λ (d : ℤ). (entries_sum r (row_of fb (q t)) (q t) (at (sums_at c fa i x n)) +ℤ
            (diagonal_of (sign_at r fb (q t)) *ℤ d)) -ℤ ((diagonal *ℤ diagonal_of (sign_at r fb (q t))) *ℤ at x (i * n + q t)))
            (sym (fill-at n _ (replicate most_order (pos 0)) (q t) (p.below t l) few))

        -- so it is what it was
        pub recovered-sums-undo : (rule : Rule) →
            undone_rest rule r fb (nth_undone fb.kind fb.order fb.row t) (sign_at c fa i) v
            (at x (i * fb.order + nth_undone fb.kind fb.order fb.row t))
            ≡ undone_at rule r fb (nth_undone fb.kind fb.order fb.row t) (sign_at c fa i) (sums_at c fa i x fb.order)
            (at x (i * fb.order + nth_undone fb.kind fb.order fb.row t))
        unfolding undone_rest undone_at rounded_rest rounded_sum
        recovered-sums-undo rule =
            ap (λ (s : ℤ). (sign_at c fa i *ℤ sign_at r fb (q t)) *ℤ (at x (i * n + q t) -ℤ R rule unit² s)) whole
