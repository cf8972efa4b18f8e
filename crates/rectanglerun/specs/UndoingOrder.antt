-- THE ORDERS IN WHICH A PAIR OF FACTORS IS UNDONE AND APPLIED: the rows by the one factor's order, the columns of a row by the
-- other's; applied, the rows the other way round, so that none looks at a row written before it.
use Rattle.std.specs.Prelude.{Bool, false, cond, not, List, ◌≢◌, ◌⊎◌, ℤ}
use Rattle.std.proofs.Common.{inl, inr, sym, ap, ◌∙◌}
use Rattle.std.proofs.Math.Path.{◌≡◌, refl}
use Prim.Native.Nat.{ℕ, suc, ◌+◌, ◌-◌, ◌*◌, ◌/◌, ◌%◌, ◌<◌}
use Rattle.std.proofs.Math.Decide.{dec_lt}
use Rattle.std.proofs.Math.Nat as NatL
use native.Mathlib.Omega.{arith}
use Rattle.rules.specs.declared.Rule.{Rule}
use Rattle.rules.specs.declared.Kind.{Kind}
use Rattle.rules.specs.declared.Kind.TheVariants.{Permutation, Lower, Upper, Single}
use Rattle.rules.specs.Numbers.{at}
use Rattle.rules.specs.GoodStages.{Permutes}
use Rattle.rules.proofs.Laws.SoundFactors.{same-permutes}
use Rattle.rules.proofs.Laws.Rectangles.{row_below, col-below, row-of, col-of, pair-permutes}
use Rattle.factor.specs.declared.Layout.{Layout}
use Rattle.factor.specs.declared.run.Task.{Task}
use Rattle.factor.specs.declared.run.Task.TheVariants.{Forward, Inverse, Allowance}
use Rattle.factor.specs.declared.run.Run.{Run}
use Rattle.factor.specs.Tasks.{is_inverse}
use Rattle.factor.specs.Layouts.{row_of}
use Rattle.factor.specs.UndoingOrder.{nth_undone, undoing-permutes, undoing-reversed, Unseen, row-blind}
use Rattle.factor.specs.InPlace.{in_place, in-place-other}
use Rattle.joint.specs.Sums.{SameRows}
use Rattle.joint.specs.RowsInPlace.{row_order, element_of}
use Rattle.singlerows.specs.SingleRowsInPlace.{last-undone}

abbrev pub nth_undone_pair : Layout → Layout → ℕ → ℕ
nth_undone_pair f g t =
    nth_undone f.kind f.order f.row (t / g.order) * g.order + nth_undone g.kind g.order g.row (t % g.order)

pub pairs-permute : (f g : Layout) → f.row < f.order → g.row < g.order → Permutes (f.order * g.order) (nth_undone_pair f g)
pairs-permute f g b c =
    pair-permutes f.order g.order (undoing-permutes f.kind f.order f.row b)
    (undoing-permutes g.kind g.order g.row c)

-- of two places one stands in an earlier row, or earlier in the same
pub earlier : (n t u : ℕ) → t < u → 0 < n → (t / n < u / n) ⊎ ((t / n ≡ u / n) × (t % n < u % n))
earlier n t u l b = go (dec_lt (t / n) (u / n)) (dec_lt (u / n) (t / n))
  where
    go : Dec (t / n < u / n) → Dec (u / n < t / n) → (t / n < u / n) ⊎ ((t / n ≡ u / n) × (t % n < u % n))
    go (yes h) k = inl h
    go (no h) (yes k) =
        absurd (omega (arith, NatL.mul-le-mul_right n k, NatL.div-add-mod' t n, NatL.div-add-mod' u n, NatL.mod-lt u b))
    go (no h) (no k) =
        let e : t / n ≡ u / n = omega arith in
        inr (e, omega (arith, ap (λ (i : ℕ). i * n) e, NatL.div-add-mod' t n, NatL.div-add-mod' u n))

-- ---- applied: the row that is undone last comes first, its elements in reading order
abbrev nth_applied_row : Layout → ℕ → ℕ
nth_applied_row f s = nth_undone f.kind f.order f.row (f.order - suc s)

abbrev nth_applied_pair : Layout → Layout → ℕ → ℕ
nth_applied_pair f g t = nth_applied_row f (t / g.order) * g.order + t % g.order

pub rows-permute : (f g : Layout) → f.row < f.order → Permutes (f.order * g.order) (nth_applied_pair f g)
rows-permute f g b =
    pair-permutes f.order g.order (undoing-reversed f.kind f.order f.row b) (same-permutes g.order)

-- after s rows, what the next one looks at is as it was
rows-ahead : (step : List ℤ → ℕ → ℤ) (f g : Layout) → f.row < f.order → (s : ℕ) → s < f.order → (x : List ℤ) {y : List ℤ} →
    y ≡ in_place step (nth_applied_pair f g) (s * g.order) x →
    SameRows (row_of f (nth_applied_row f s)) (nth_applied_row f s) g.order y x
rows-ahead step f g b s l x {y} w = record {
  left = λ j k h c. still j k c (λ t q. (blind t q).left j h);
  diagonal = λ k c. still (nth_applied_row f s) k c (λ t q. (blind t q).diagonal);
  right = λ j k h c. still (suc (nth_applied_row f s) + j) k c (λ t q. (blind t q).right j h);
}
  where
    n : ℕ
    n = g.order

    blind : (t : ℕ) → t < s → Unseen (row_of f (nth_applied_row f s)) (nth_applied_row f s) (nth_applied_row f t)
    blind t q = row-blind f (f.order - suc s) (f.order - suc t) b (omega arith) (omega arith)

    -- a row that is not written
    still : (i k : ℕ) → k < n → ((t : ℕ) → t < s → i ≢ nth_applied_row f t) → at y (i * n + k) ≡ at x (i * n + k)
    still i k c h =
        ap (λ (v : List ℤ). at v (i * n + k)) w
        ∙ in-place-other step (nth_applied_pair f g) (s * n) x (i * n + k)
        (λ u q z. h (u / n) (row_below s n u q) (sym (row-of 0 n i k c) ∙ ap (λ (e : ℕ). e / n) (sym z)
        ∙ row-of 0 n (nth_applied_row f (u / n)) (u % n) (col-below s n u q)))

-- ---- by the task
-- the row in turn s, and the element in turn t
unfoldable pub nth_row : Task → Layout → ℕ → ℕ
nth_row task f s = nth_undone f.kind f.order f.row (cond (is_inverse task) s (f.order - suc s))

unfoldable pub pair_order : Task → Layout → Layout → ℕ → ℕ
pair_order task f g t = row_order task g (nth_row task f (t / g.order)) (t % g.order)

-- all elements in turn
abbrev pub weights_of : Task → Rule → List ℤ → Layout → List ℤ → Layout → List ℤ → List ℤ
weights_of task rule c fa r fb x = in_place (element_of task rule c fa r fb x) (pair_order task fa fb) (fa.order * fb.order) x

abbrev pub weights_by : Run → List ℤ → Layout → List ℤ → Layout → List ℤ → List ℤ
weights_by run c fa r fb x = weights_of run.task run.rule c fa r fb x

-- the rows of a triangle in turn
module _ (f : Layout) (s : ℕ) where
  pub lower-applied : f.kind ≡ Lower → s < f.order → f.order - 1 - s ≡ nth_row Forward f s
  unfolding nth_row is_inverse nth_undone
  lower-applied e l = rw e (omega arith)

  pub upper-applied : f.kind ≡ Upper → s < f.order → s ≡ nth_row Forward f s
  unfolding nth_row is_inverse nth_undone
  upper-applied e l = rw e (omega arith)

  pub lower-undone : f.kind ≡ Lower → s ≡ nth_row Inverse f s
  unfolding nth_row is_inverse nth_undone
  lower-undone e = rw e

  pub upper-undone : f.kind ≡ Upper → s < f.order → f.order - 1 - s ≡ nth_row Inverse f s
  unfolding nth_row is_inverse nth_undone
  upper-undone e l = rw e (omega arith)

-- whether the last row comes first, under a lower or an upper factor
unfoldable pub is_upward : Task → Kind → Bool
is_upward task Lower = not (is_inverse task)
is_upward task kind = is_inverse task

pub triangle-row : (task : Task) (f : Layout) (s : ℕ) → s < f.order → f.kind ≢ Permutation → f.kind ≢ Single →
    cond (is_upward task f.kind) (f.order - 1 - s) s ≡ nth_row task f s
unfolding is_upward nth_row is_inverse nth_undone
triangle-row task f s l p q = go task f.kind refl
  where
    asked : (t : Task) {kind : Kind} → f.kind ≡ kind →
        cond (is_upward t f.kind) (f.order - 1 - s) s ≡ cond (is_upward t kind) (f.order - 1 - s) s
    asked t z = ap (λ (k : Kind). cond (is_upward t k) (f.order - 1 - s) s) z

    go : (t : Task) (kind : Kind) → f.kind ≡ kind → cond (is_upward t f.kind) (f.order - 1 - s) s ≡ nth_row t f s
    go t Permutation z = absurd (p z)
    go t Single z = absurd (q z)
    go Forward Lower z = asked Forward z ∙ lower-applied f s z l
    go Inverse Lower z = asked Inverse z ∙ lower-undone f s z
    go Allowance Lower z = asked Allowance z ∙ lower-applied f s z l
    go Forward Upper z = asked Forward z ∙ upper-applied f s z l
    go Inverse Upper z = asked Inverse z ∙ upper-undone f s z l
    go Allowance Upper z = asked Allowance z ∙ upper-applied f s z l

-- the rows of a single-row factor in turn: applied, its row comes first, and undone, last
module _ (f : Layout) (e : f.kind ≡ Single) where
  pub single-applied : (s : ℕ) → s < f.order → nth_undone Single f.order f.row (f.order - 1 - s) ≡ nth_row Forward f s
  unfolding nth_row is_inverse
  single-applied s l = let z : f.order - 1 - s ≡ f.order - suc s = omega arith in rw (e, z)

  pub single-undone : (s : ℕ) → nth_undone Single f.order f.row s ≡ nth_row Inverse f s
  unfolding nth_row is_inverse
  single-undone s = rw e

  module _ (b : f.row < f.order) where
    pub first-applied : f.row ≡ nth_row Forward f 0
    first-applied =
        let z : f.order - 1 - 0 ≡ f.order - 1 = omega arith in
        sym (last-undone f.order f.row b) ∙ rw z at (single-applied 0 (omega arith))

    pub last-row-undone : f.row ≡ nth_row Inverse f (f.order - 1)
    last-row-undone = sym (last-undone f.order f.row b) ∙ single-undone (f.order - 1)

pub pair-order-row : (task : Task) (f g : Layout) (s u : ℕ) → u < g.order →
    pair_order task f g (s * g.order + u) ≡ row_order task g (nth_row task f s) u
unfolding pair_order
pair-order-row task f g s u l = rw (row-of 0 g.order s u l, col-of 0 g.order s u l)

module _ (f : Layout) (b : f.row < f.order) where
  pub nth-row-below : (task : Task) (s : ℕ) → s < f.order → nth_row task f s < f.order
  unfolding nth_row is_inverse
  nth-row-below Forward s l = (undoing-reversed f.kind f.order f.row b).below s l
  nth-row-below Inverse s l = (undoing-permutes f.kind f.order f.row b).below s l
  nth-row-below Allowance s l = (undoing-reversed f.kind f.order f.row b).below s l

  pub pair-order-permutes : (task : Task) (g : Layout) → g.row < g.order → Permutes (f.order * g.order) (pair_order task f g)
  unfolding pair_order row_order nth_row is_inverse
  pair-order-permutes Forward g c = rows-permute f g b
  pair-order-permutes Inverse g c = pairs-permute f g b c
  pair-order-permutes Allowance g c = rows-permute f g b

  -- unless it is undone, a row looks at none that is written
  pub row-unwritten : (task : Task) (step : List ℤ → ℕ → ℤ) (g : Layout) (s : ℕ) → s < f.order → (x : List ℤ) {y : List ℤ} →
      y ≡ in_place step (pair_order task f g) (s * g.order) x → is_inverse task ≡ false →
      SameRows (row_of f (nth_row task f s)) (nth_row task f s) g.order y x
  unfolding pair_order row_order nth_row is_inverse
  row-unwritten Forward step g s l x w e = rows-ahead step f g b s l x w
  row-unwritten Inverse step g s l x w e = let z : ◌≡◌ {A = ℕ} 0 1 = cc in absurd (omega arith)
  row-unwritten Allowance step g s l x w e = rows-ahead step f g b s l x w
