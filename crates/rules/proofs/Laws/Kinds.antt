-- THE STAGES OF SOUND FACTORS ARE GOOD: lines and rectangles, every kind.
use Rattle.std.specs.Prelude.{false, List, ◌≢◌, ◌⊎◌, ◌≡◌, ℕ, ◌+◌, ◌*◌, ◌/◌, ◌%◌, ◌≤◌, ◌<◌, pos, ◌*ℤ◌}
use Rattle.std.proofs.Math.Logic.{inl, inr}
use Rattle.std.proofs.Math.Path.{refl}
use Rattle.std.proofs.Common.{sym, ap, ◌∙◌, eq-eqb, ne_eqb, le-ltb}
use Rattle.std.proofs.Math.Nat as NatL
use Rattle.std.proofs.Math.Decide.{ℕ_discrete, dec_le}
use native.Mathlib.Omega.{arith}
use Rattle.std.proofs.Math.IntN.{zero-*ℤ, *ℤ-zero}
use Rattle.whole.specs.Stated.{Sign}
use Rattle.whole.specs.Laws.{signs-times}
use Rattle.rules.specs.declared.Kind.{Kind}
use Rattle.rules.specs.declared.Kind.TheVariants.{Permutation, Lower, Upper, Single}
use Rattle.rules.specs.Numbers.{unit, unit²}
use Rattle.rules.specs.Factors.{Factor, has_entry, matrix}
use Rattle.rules.specs.Stages.{Stage}
use Rattle.rules.specs.Shapes.{turn, order, in_row, stage_of, line_stage, line_stages, joint_source, joint_sign, joint_weight}
use Rattle.rules.specs.Shapes.{joint_shared, joint_stage, joint_stages}
use Rattle.rules.specs.GoodStages.{Permutes, Good, moves, weighs, AllGood}
use Rattle.rules.proofs.Laws.SoundFactors.{Sound, AllSound, AllMatch}
use Rattle.rules.proofs.Laws.RecoveryOrder.{Ranked, turns-recover}
use Rattle.rules.proofs.Laws.Rectangles.{row_below, col-below, same-element, pair-permutes}

-- a stage by its kind: a move of kind 1, a weighing of every other kind
pub by_kind : (P : Stage → Type 0) (kind : Kind) (a b : Stage) →
    (kind ≡ Permutation → P a) → (kind ≢ Permutation → P b) → P (stage_of kind a b)
unfolding stage_of
by_kind P Permutation a b f g = f refl
by_kind P Lower a b f g = g (λ e. let z : ◌≡◌ {A = ℕ} 0 1 = cc in omega arith)
by_kind P Upper a b f g = g (λ e. let z : ◌≡◌ {A = ℕ} 0 1 = cc in omega arith)
by_kind P Single a b f g = g (λ e. let z : ◌≡◌ {A = ℕ} 0 1 = cc in omega arith)

pub stage-moves : (kind : Kind) (a b : Stage) → kind ≡ Permutation → stage_of kind a b ≡ a
unfolding stage_of
stage-moves kind a b q = rw q

pub stage-weighs : (kind : Kind) (a b : Stage) → kind ≢ Permutation → stage_of kind a b ≡ b
stage-weighs kind a b q = by_kind (λ s. s ≡ b) kind a b (λ e. absurd (q e)) (λ e. refl)

-- ---- one side: a row's turn, and where it has an entry off the diagonal, the column's turn is earlier
abbrev turn_of : Kind → ℕ → Factor → ℕ → ℕ
turn_of kind n f m = turn kind n (in_row f m) m

row-yes : (f : Factor) (m : ℕ) → m ≡ f.row → in_row f m ≡ 1
unfolding in_row
row-yes f m q = rw (eq-eqb m f.row q)

row-no : (f : Factor) (m : ℕ) → m ≢ f.row → in_row f m ≡ 0
unfolding in_row
row-no f m q = rw (ne_eqb m f.row q)

pub row-most : (f : Factor) (m : ℕ) → in_row f m ≤ 1
row-most f m = go (ℕ_discrete m f.row)
  where
    go : Dec (m ≡ f.row) → in_row f m ≤ 1
    go (yes q) = omega (arith, row-yes f m q)
    go (no q) = omega (arith, row-no f m q)

turn-top : (kind : Kind) (N t e : ℕ) → e < N → t < 4 → turn kind N t e < N + 4
unfolding turn
turn-top Permutation N t e l h = omega arith
turn-top Lower N t e l h = omega arith
turn-top Upper N t e l h = omega arith
turn-top Single N t e l h = omega arith

entry-blind : (f : Factor) (kind : Kind) (n m k : ℕ) → m < n → k < n → m ≢ k → turn_of kind n f m ≤ turn_of kind n f k →
    has_entry kind f.row m k ≡ false
unfolding turn has_entry
entry-blind f Permutation n m k a b q h = refl
entry-blind f Lower n m k a b q h = le-ltb k m h
entry-blind f Upper n m k a b q h = le-ltb m k (omega arith)
entry-blind f Single n m k a b q h = ne_eqb m f.row (λ e. omega (arith, row-yes f m e, row-no f k (λ z. q (e ∙ sym z))))

side-blind : (n : ℕ) (f : Factor) (kind : Kind) → f.kind ≡ kind → (m k : ℕ) → m < n → k < n → m ≢ k →
    turn_of kind n f m ≤ turn_of kind n f k → matrix f m k ≡ pos 0
unfolding matrix
side-blind n f kind s m k a b q h = rw (ne_eqb m k q, s, entry-blind f kind n m k a b q h)

-- no weight, or the column's turn is not later, and earlier off the diagonal
abbrev Side : Kind → ℕ → Factor → ℕ → ℕ → Type 0
Side kind n f m k =
    (matrix f m k ≡ pos 0) ⊎ ((turn_of kind n f k ≤ turn_of kind n f m) × ((m ≡ k) ⊎ (turn_of kind n f k < turn_of kind n f m)))

side-case : (n : ℕ) (f : Factor) (kind : Kind) → f.kind ≡ kind → (m k : ℕ) → m < n → k < n → Side kind n f m k
side-case n f kind s m k a b = go (ℕ_discrete m k) (dec_le (turn_of kind n f m) (turn_of kind n f k))
  where
    go : Dec (m ≡ k) → Dec (turn_of kind n f m ≤ turn_of kind n f k) → Side kind n f m k
    go (yes e) t = inr (omega (arith, ap (turn_of kind n f) e), inl e)
    go (no q) (yes t) = inl (side-blind n f kind s m k a b q t)
    go (no q) (no t) = inr (omega arith, inr (omega arith))

-- ---- a line
pub line-ranked : (n : ℕ) (f : Factor) → Ranked n (n + 4) (matrix f) (turn_of f.kind n f)
line-ranked n f = record {
  top = λ m l. turn-top f.kind n (in_row f m) m l (omega (arith, row-most f m));
  blind = side-blind n f f.kind refl;
}

pub line-good : (n : ℕ) (f : Factor) → Sound n f → Good n (line_stage n f)
unfolding line_stage order
line-good n f s =
    by_kind (Good n) f.kind _ _
    (λ e. moves {S = unit} (omega arith) (s.places e))
    (λ q. weighs {S = unit} (omega arith) (turns-recover (line-ranked n f) (s.signs q)))

pub lines-good : {n : ℕ} {fs : List Factor} → AllSound n fs → AllGood n (line_stages n fs)
unfolding line_stages
lines-good AllSound.none = AllGood.none
lines-good {n} (AllSound.more {f} {fs} s t) = AllGood.more (line-good n f s) (lines-good t)

-- ---- a rectangle
module _ (n1 n2 : ℕ) (A B : Factor) where
  joint-permutes : Permutes n1 A.place → Permutes n2 B.place → Permutes (n1 * n2) (joint_source n1 n2 A B)
  unfolding joint_source
  joint-permutes = pair-permutes n1 n2

  pub shared-most : (e : ℕ) → joint_shared n1 n2 A B e < 4
  unfolding joint_shared
  shared-most e = omega (arith, row-most A (e / n2), row-most B (e % n2))

  -- the turns of an element's row, of its column, and its own
  abbrev row_turn : Kind → ℕ → ℕ
  row_turn kind e = turn_of kind n1 A (e / n2)

  abbrev col_turn : Kind → ℕ → ℕ
  col_turn kind e = turn_of kind n2 B (e % n2)

  abbrev diagonal_turn : Kind → ℕ → ℕ
  diagonal_turn kind e = turn kind (n1 * n2) (joint_shared n1 n2 A B e) e

  -- a later row or column, and the other no earlier, is later
  joint-grows : (kind : Kind) (e k : ℕ) → e < n1 * n2 → k < n1 * n2 → row_turn kind k ≤ row_turn kind e →
      col_turn kind k ≤ col_turn kind e →
      (row_turn kind k < row_turn kind e) ⊎ (col_turn kind k < col_turn kind e) → e ≢ k → diagonal_turn kind k < diagonal_turn kind e
  unfolding turn joint_shared
  joint-grows Permutation e k l m h g s q =
      omega (arith, NatL.mul-le-mul_right n2 h, NatL.div-add-mod' e n2, NatL.div-add-mod' k n2)
  joint-grows Lower e k l m h g s q = omega (arith, NatL.mul-le-mul_right n2 h, NatL.div-add-mod' e n2, NatL.div-add-mod' k n2)
  joint-grows Upper e k l m h g s q =
      let r : e / n2 ≤ k / n2 = omega (arith, row_below n1 n2 e l, row_below n1 n2 k m) in
      omega (
        arith,
        col-below n1 n2 e l,
        col-below n1 n2 k m,
        NatL.mul-le-mul_right n2 r,
        NatL.div-add-mod' e n2,
        NatL.div-add-mod' k n2,
      )
  joint-grows Single e k l m h g (inl s) q = omega arith
  joint-grows Single e k l m h g (inr s) q = omega arith

  module _ (match : A.kind ≡ B.kind) where
    joint-blind : (e k : ℕ) → e < n1 * n2 → k < n1 * n2 → e ≢ k →
        diagonal_turn A.kind e ≤ diagonal_turn A.kind k → joint_weight n1 n2 A B e k ≡ pos 0
    unfolding joint_weight
    joint-blind e k l m q t =
        go (side-case n1 A A.kind refl (e / n2) (k / n2) (row_below n1 n2 e l) (row_below n1 n2 k m))
        (side-case n2 B A.kind (sym match) (e % n2) (k % n2) (col-below n1 n2 e l) (col-below n1 n2 k m))
      where
        one : {X Y : Type 0} → (e / n2 ≡ k / n2) ⊎ X → (e % n2 ≡ k % n2) ⊎ Y → X ⊎ Y
        one (inl i) (inl j) = absurd (q (same-element n1 n2 e k i j))
        one (inl i) (inr y) = inr y
        one (inr x) j = inl x

        go : Side A.kind n1 A (e / n2) (k / n2) → Side A.kind n2 B (e % n2) (k % n2) →
            matrix A (e / n2) (k / n2) *ℤ matrix B (e % n2) (k % n2) ≡ pos 0
        go (inl z) b = rw z (zero-*ℤ (matrix B (e % n2) (k % n2)))
        go (inr a) (inl z) = rw z (*ℤ-zero (matrix A (e / n2) (k / n2)))
        go (inr a) (inr b) = absurd (omega (arith, joint-grows A.kind e k l m a.0 b.0 (one a.1 b.1) q))

    joint-ranked : Ranked (n1 * n2) (n1 * n2 + 4) (joint_weight n1 n2 A B) (diagonal_turn A.kind)
    joint-ranked = record { top = λ e l. turn-top A.kind (n1 * n2) _ e l (shared-most e); blind = joint-blind }

    pub joint-signs : Sound n1 A → Sound n2 B → A.kind ≢ Permutation → (e : ℕ) → e < n1 * n2 → Sign (joint_sign n1 n2 A B e)
    unfolding joint_sign
    joint-signs s t q e l =
        signs-times (s.signs q _ (row_below n1 n2 e l)) (t.signs (λ z. q (match ∙ z)) _ (col-below n1 n2 e l))

    pub joint-good : Sound n1 A → Sound n2 B → Good (n1 * n2) (joint_stage n1 n2 A B)
    unfolding joint_stage order
    joint-good s t =
        by_kind (Good (n1 * n2)) A.kind _ _
        (λ e. moves {S = unit²} (omega arith) (joint-permutes (s.places e) (t.places (sym match ∙ e))))
        (λ q. weighs {S = unit²} (omega arith) (turns-recover joint-ranked (joint-signs s t q)))

pub joints-good : {n1 n2 : ℕ} {fs bs : List Factor} → AllMatch n1 n2 fs bs → AllGood (n1 * n2) (joint_stages n1 n2 fs bs)
unfolding joint_stages
joints-good AllMatch.none = AllGood.none
joints-good {n1} {n2} (AllMatch.more {a} {b} s t m h) = AllGood.more (joint-good n1 n2 a b m s t) (joints-good h)
