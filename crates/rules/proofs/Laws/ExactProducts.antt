-- THE EXACT PRODUCT IS THE PRODUCT OF THE FACTORS' MATRICES: of a line, and of a rectangle, where it is A·X·B-transposed.
-- Each stage is one matrix (`line-has`, `joint-has`), and one matrix after another is their product (`multiplies-after`).
use Rattle.std.specs.Prelude.{cond, List, ◌≢◌, ◌≡◌, ℕ, ◌+◌, ◌*◌, ◌/◌, ◌%◌, ◌≤◌, ◌<◌, eqb, ℤ, pos, ◌*ℤ◌, length}
use Rattle.std.proofs.Math.Path.{refl, sym}
use Rattle.std.proofs.Common.{ap, ap₂, ◌∙◌, arith}
use Rattle.std.proofs.Math.Nat as NatL
use Rattle.std.proofs.Math.Decide.{ℕ_discrete}
use borrow.Author.Tests.{eq-eqb, ne_eqb}
use Rattle.std.proofs.Math.IntN.{zero-*ℤ, *ℤ-zero}
use Rattle.whole.specs.Diff.{lia, lin}
use Rattle.whole.specs.Laws.{distrib, mul_assoc}
use Rattle.whole.specs.Stated.{sum}
use Rattle.whole.specs.Sum.{sum-cong, sum-scale, sum-scaled, sum-single, sum-swap}
use Rattle.rules.specs.declared.Kind.{Kind}
use Rattle.rules.specs.declared.Kind.TheVariants.{Permutation, Lower, Upper, Single}
use Rattle.rules.specs.Numbers.{unit, unit², at}
use Rattle.rules.specs.Factors.{Factor, matrix}
use Rattle.rules.specs.Stages.{Stage, move, exact, through, exact_product}
use Rattle.rules.specs.Shapes.{line_stage, line_stages, joint_source, joint_weight, joint_stage, joint_stages}
use Rattle.rules.specs.Matrices.{Matrix, moving, matrix_of, unchanged, after, product}
use Rattle.rules.specs.GoodStages.{Permutes}
use Rattle.rules.proofs.Laws.SoundFactors.{Sound, AllSound, AllMatch}
use Rattle.rules.proofs.Laws.Lists.{fill-at}
use Rattle.rules.proofs.Laws.AllowanceLaw.{length-exact}
use Rattle.rules.proofs.Laws.Kinds.{by_kind}
use Rattle.rules.proofs.Laws.Rectangles.{row_below, col-below, element-below, row-of, col-of, same-element, sum_rows}
use Rattle.rules.proofs.Laws.Rectangles.{exact-line, exact-joint}

-- ---- a list by a matrix: element e is the sum of M(e,k)·x(k)
abbrev Multiplies : ℕ → Matrix → List ℤ → List ℤ → Type 0
Multiplies N M x y = (e : ℕ) → e < N → at y e ≡ sum N (λ k. M e k *ℤ at x k)

-- a stage whose exact product that is, of every block
abbrev Has : ℕ → Matrix → Stage → Type 0
Has N M s = (x : List ℤ) → N ≤ length x → Multiplies N M x (exact N s x)

multiplies-unchanged : (N : ℕ) (x : List ℤ) → Multiplies N unchanged x x
unfolding unchanged
multiplies-unchanged N x e l =
    sym (sum-single N e _ l (λ k h q. rw (ne_eqb e k (λ z. q (sym z))) (simp lia (omega arith)))
    ∙ rw (eq-eqb e e refl) (simp lia (omega arith)))

multiplies-after : (N : ℕ) (P M : Matrix) (x y z : List ℤ) → Multiplies N M x y → Multiplies N P y z →
    Multiplies N (after N P M) x z
unfolding after
multiplies-after N P M x y z g h e l =
    h e l
    ∙ sum-cong N _ _ (λ i p. ap (λ (t : ℤ). P e i *ℤ t) (g i p) ∙ sym (sum-scale N (P e i) (λ k. M i k *ℤ at x k)))
    ∙ sum-swap N N (λ i k. P e i *ℤ (M i k *ℤ at x k))
    ∙ sum-cong N _ _ (λ k p.
    sum-cong N _ _ (λ i q. sym (mul_assoc (P e i) (M i k) (at x k))) ∙ sum-scaled N (at x k) (λ i. P e i *ℤ M i k))

-- ---- the matrix of a kind
matrix-moves : (kind : Kind) (f : Factor) → kind ≡ Permutation → matrix_of kind f ≡ moving f
unfolding matrix_of
matrix-moves kind f q = rw q

matrix-weighs : (kind : Kind) (f : Factor) → kind ≢ Permutation → matrix_of kind f ≡ matrix f
unfolding matrix_of
matrix-weighs Permutation f q = absurd (q refl)
matrix-weighs Lower f q = refl
matrix-weighs Upper f q = refl
matrix-weighs Single f q = refl

-- ---- a line
line-move : (n : ℕ) (f : Factor) → Permutes n f.place → Has n (moving f) (move unit f.place)
unfolding exact moving
line-move n f p x room e l =
    fill-at n _ x e l room
    ∙ sym (sum-single n (f.place e) _ (p.below e l) (λ k h q. rw (ne_eqb k (f.place e) q) (simp lia (omega arith)))
    ∙ rw (eq-eqb (f.place e) (f.place e) refl))

line-has : (n : ℕ) (f : Factor) → Sound n f → Has n (matrix_of f.kind f) (line_stage n f)
unfolding line_stage
line-has n f s =
    by_kind (Has n (matrix_of f.kind f)) f.kind _ _
    (λ q. rw (matrix-moves f.kind f q) (line-move n f (s.places q)))
    (λ q. rw (matrix-weighs f.kind f q) (λ x room e l. exact-line n f _ x e l room))

-- the exact product of a line is that of its factors' matrices
pub exact-of-line : {n : ℕ} {fs : List Factor} → AllSound n fs → (x : List ℤ) → n ≤ length x → (e : ℕ) → e < n →
    at (exact_product n (line_stages n fs) x) e ≡ sum n (λ k. product n fs e k *ℤ at x k)
unfolding exact_product through line_stages product
exact-of-line {n} AllSound.none x room = multiplies-unchanged n x
exact-of-line {n} (AllSound.more {f} {fs} s t) x room =
    let y = exact n (line_stage n f) x in
    multiplies-after n (product n fs) (matrix_of f.kind f) x y (exact_product n (line_stages n fs) y) (line-has n f s x room)
    (exact-of-line t y (omega (arith, length-exact n (line_stage n f) x)))

-- ---- a rectangle of rows of n2 numbers: A(i,l)·B(j,k) from element (l,k) to element (i,j)
unfoldable both : ℕ → Matrix → Matrix → Matrix
both n2 A B e k = A (e / n2) (k / n2) *ℤ B (e % n2) (k % n2)

multiplies-same : (N : ℕ) (M O : Matrix) (x y : List ℤ) → ((e k : ℕ) → M e k ≡ O e k) → Multiplies N M x y → Multiplies N O x y
multiplies-same N M O x y h g e l = g e l ∙ sum-cong N _ _ (λ k p. ap (λ (t : ℤ). t *ℤ at x k) (h e k))

both-unchanged : (n1 n2 e k : ℕ) → unchanged e k ≡ both n2 unchanged unchanged e k
unfolding both unchanged
both-unchanged n1 n2 e k = go (ℕ_discrete (e / n2) (k / n2)) (ℕ_discrete (e % n2) (k % n2))
  where
    go : Dec (e / n2 ≡ k / n2) → Dec (e % n2 ≡ k % n2) →
        cond (eqb e k) (pos 1) (pos 0) ≡
        cond (eqb (e / n2) (k / n2)) (pos 1) (pos 0) *ℤ cond (eqb (e % n2) (k % n2)) (pos 1) (pos 0)
    go (yes i) (yes j) = rw (eq-eqb e k (same-element n1 n2 e k i j), eq-eqb (e / n2) (k / n2) i, eq-eqb (e % n2) (k % n2) j)
    go (yes i) (no j) =
        rw (ne_eqb e k (λ q. j (ap (λ (m : ℕ). m % n2) q)), ne_eqb (e % n2) (k % n2) j)
        (sym (*ℤ-zero (cond (eqb (e / n2) (k / n2)) (pos 1) (pos 0))))
    go (no i) j =
        rw (ne_eqb e k (λ q. i (ap (λ (m : ℕ). m / n2) q)), ne_eqb (e / n2) (k / n2) i)
        (sym (zero-*ℤ (cond (eqb (e % n2) (k % n2)) (pos 1) (pos 0))))

both-after : (n1 n2 : ℕ) (P Q M O : Matrix) (e k : ℕ) →
    after (n1 * n2) (both n2 P Q) (both n2 M O) e k ≡ both n2 (after n1 P M) (after n2 Q O) e k
unfolding after both
both-after n1 n2 P Q M O e k =
    sum_rows n1 n2 _
    ∙ sum-cong n1 _ _ (λ a p.
    sum-cong n2 _ _ (λ b q. rw (row-of n1 n2 a b q, col-of n1 n2 a b q) (apart (P i a) (Q j b) (M a (k / n2)) (O b (k % n2))))
    ∙ sum-scale n2 (P i a *ℤ M a (k / n2)) (λ b. Q j b *ℤ O b (k % n2)))
    ∙ sum-scaled n1 (sum n2 (λ b. Q j b *ℤ O b (k % n2))) (λ a. P i a *ℤ M a (k / n2))
  where
    i : ℕ
    i = e / n2

    j : ℕ
    j = e % n2

    apart : (a b c d : ℤ) → (a *ℤ b) *ℤ (c *ℤ d) ≡ (a *ℤ c) *ℤ (b *ℤ d)
    apart a b c d = simp distrib (simp lin (omega arith))

module _ (n1 n2 : ℕ) (A B : Factor) where
  joint-move : Permutes n1 A.place → Permutes n2 B.place →
      Has (n1 * n2) (both n2 (moving A) (moving B)) (move unit² (joint_source n1 n2 A B))
  unfolding exact moving both joint_source
  joint-move p q x room e l =
      fill-at (n1 * n2) _ x e l room
      ∙ sym (sum-single (n1 * n2) source _ (element-below n1 n2 i j (p.below _ row) (q.below _ col))
      (λ k h d. other k d (ℕ_discrete (k / n2) i) (ℕ_discrete (k % n2) j))
      ∙ rw (row-of n1 n2 i j (q.below _ col), col-of n1 n2 i j (q.below _ col), eq-eqb i i refl, eq-eqb j j refl))
    where
      row : e / n2 < n1
      row = row_below n1 n2 e l

      col : e % n2 < n2
      col = col-below n1 n2 e l

      i : ℕ
      i = A.place (e / n2)

      j : ℕ
      j = B.place (e % n2)

      source : ℕ
      source = i * n2 + j

      other : (k : ℕ) → k ≢ source → Dec (k / n2 ≡ i) → Dec (k % n2 ≡ j) →
          (cond (eqb (k / n2) i) (pos unit) (pos 0) *ℤ cond (eqb (k % n2) j) (pos unit) (pos 0)) *ℤ at x k ≡ pos 0
      other k d (yes a) (yes b) = absurd (d (sym (NatL.div-add-mod' k n2) ∙ ap₂ (λ (r c : ℕ). r * n2 + c) a b))
      other k d (yes a) (no b) = rw (ne_eqb (k % n2) j b) (simp lia (omega arith))
      other k d (no a) b = rw (ne_eqb (k / n2) i a) (simp lia (omega arith))

  joint-has : Sound n1 A → Sound n2 B → A.kind ≡ B.kind →
      Has (n1 * n2) (both n2 (matrix_of A.kind A) (matrix_of B.kind B)) (joint_stage n1 n2 A B)
  unfolding joint_stage both joint_weight
  joint-has s t match =
      by_kind (Has (n1 * n2) (both n2 (matrix_of A.kind A) (matrix_of B.kind B))) A.kind _ _
      (λ q. rw (matrix-moves A.kind A q, matrix-moves B.kind B (sym match ∙ q))
      (joint-move (s.places q) (t.places (sym match ∙ q))))
      (λ q. rw (matrix-weighs A.kind A q, matrix-weighs B.kind B (λ z. q (match ∙ z)))
      (λ x room e l. exact-joint n1 n2 A B _ x e l room))

module _ {n1 n2 : ℕ} where
  joint-multiplies : {fs bs : List Factor} → AllMatch n1 n2 fs bs → (x : List ℤ) → n1 * n2 ≤ length x →
      Multiplies (n1 * n2) (both n2 (product n1 fs) (product n2 bs)) x (exact_product (n1 * n2) (joint_stages n1 n2 fs bs) x)
  unfolding exact_product through joint_stages product
  joint-multiplies AllMatch.none x room =
      multiplies-same (n1 * n2) unchanged (both n2 unchanged unchanged) x x (both-unchanged n1 n2)
      (multiplies-unchanged (n1 * n2) x)
  joint-multiplies (AllMatch.more {a} {b} {fs} {bs} s t m h) x room =
      let A = matrix_of a.kind a in
      let B = matrix_of b.kind b in
      let y = exact (n1 * n2) (joint_stage n1 n2 a b) x in
      let z = exact_product (n1 * n2) (joint_stages n1 n2 fs bs) y in
      multiplies-same (n1 * n2) (after (n1 * n2) (both n2 (product n1 fs) (product n2 bs)) (both n2 A B)) _ x z
      (both-after n1 n2 (product n1 fs) (product n2 bs) A B)
      (multiplies-after (n1 * n2) (both n2 (product n1 fs) (product n2 bs)) (both n2 A B) x y z (joint-has n1 n2 a b s t m x room)
      (joint-multiplies h y (omega (arith, length-exact (n1 * n2) (joint_stage n1 n2 a b) x))))

  -- the exact product of a rectangle is A·X·B-transposed, where A and B are the products of the two sheets' matrices
  pub exact-of-joint : {fs bs : List Factor} → AllMatch n1 n2 fs bs → (x : List ℤ) → n1 * n2 ≤ length x →
      (i j : ℕ) → i < n1 → j < n2 →
      at (exact_product (n1 * n2) (joint_stages n1 n2 fs bs) x) (i * n2 + j) ≡
      sum n1 (λ l. sum n2 (λ k. (product n1 fs i l *ℤ product n2 bs j k) *ℤ at x (l * n2 + k)))
  unfolding both
  exact-of-joint {fs} {bs} h x room i j a b =
      joint-multiplies h x room (i * n2 + j) (element-below n1 n2 i j a b)
      ∙ sum_rows n1 n2 _
      ∙ sum-cong n1 _ _ (λ l p. sum-cong n2 _ _ (λ k q.
      rw (row-of n1 n2 i j b, col-of n1 n2 i j b, row-of n1 n2 l k q, col-of n1 n2 l k q)))
