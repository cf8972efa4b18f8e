-- A rectangle of r rows by c numbers: the row and the column of a place; sums over it, and the joint stage's sum in two steps.
use Rattle.std.specs.Prelude.{Bool, true, false, cond, List, ◌≡◌, refl, ℕ, zero, suc, ◌+◌, ◌*◌, ◌/◌, ◌%◌, ◌≤◌, ◌<◌, eqb, ℤ, pos, nat_abs, ◌+ℤ◌, ◌-ℤ◌, ◌*ℤ◌, length}
use Rattle.std.proofs.Common.{sym, ap, ap₂, ◌∙◌, subst, mod-lt, arith, eq-eqb, ne_eqb}
use Rattle.std.proofs.Math.Nat as NatL
use Rattle.std.proofs.Math.Decide.{ℕ_discrete}
use Rattle.whole.specs.Diff.{lia, lin, given₂}
use Rattle.whole.specs.Laws.{distrib, abs-mul}
use Rattle.whole.specs.Stated.{sum}
use Rattle.whole.specs.Sum.{sum-cong, sum-add, sum-scale, sum-split, sum-single, sum-swap}
use Rattle.rules.specs.Numbers.{unit, unit², at}
use Rattle.rules.specs.Factors.{Factor, matrix}
use Rattle.rules.specs.Stages.{weigh, off, weighed, exact}
use Rattle.rules.specs.Shapes.{joint_sign, joint_weight}
use Rattle.rules.specs.GoodStages.{Permutes}
use Rattle.rules.proofs.Laws.Lists.{fill-at}

module _ (r c : ℕ) where
  pub wide : (e : ℕ) → e < r * c → 0 < c
  wide e l = go (ℕ_discrete c 0)
    where
      go : Dec (c ≡ 0) → 0 < c
      go (yes q) = let z : e < 0 = subst (λ (k : ℕ). e < k) (ap (λ (k : ℕ). r * k) q ∙ NatL.mul-zero r) l in omega arith
      go (no q) = omega arith

  pub row_below : (e : ℕ) → e < r * c → e / c < r
  row_below e l = (NatL.div-lt_iff_lt-mul (wide e l)).1 l

  pub col-below : (e : ℕ) → e < r * c → e % c < c
  col-below e l = NatL.mod-lt e (wide e l)

  pub element-below : (i j : ℕ) → i < r → j < c → i * c + j < r * c
  element-below i j h k = omega (arith, NatL.mul-le-mul_right c h)

  pub row-of : (i j : ℕ) → j < c → (i * c + j) / c ≡ i
  row-of i j l = NatL.mul-add-div_right {m = c} (omega arith) i j ∙ ap (λ (k : ℕ). i + k) (NatL.div-eq_of_lt l) ∙ NatL.add-zero i

  pub col-of : (i j : ℕ) → j < c → (i * c + j) % c ≡ j
  col-of i j l = NatL.mul-add-mod_self_right i c j ∙ NatL.mod-eq_of_lt l

  pub same-element : (e k : ℕ) → e / c ≡ k / c → e % c ≡ k % c → e ≡ k
  same-element e k i j = sym (NatL.div-add-mod' e c) ∙ ap₂ (λ (m n : ℕ). m * c + n) i j ∙ NatL.div-add-mod' k c

-- ---- rows and columns, each by a permutation
pub pair-permutes : (n1 n2 : ℕ) {f g : ℕ → ℕ} → Permutes n1 f → Permutes n2 g →
    Permutes (n1 * n2) (λ e. f (e / n2) * n2 + g (e % n2))
pair-permutes n1 n2 {f} {g} p q = record {
  from = λ e. p.from (e / n2) * n2 + q.from (e % n2);
  below = λ e l. element-below n1 n2 _ _ (p.below _ (row e l)) (q.below _ (col e l));
  from-below = λ e l. element-below n1 n2 _ _ (p.from-below _ (row e l)) (q.from-below _ (col e l));
  to-from = λ e l. back e f g _ _ (q.from-below _ (col e l)) (p.to-from _ (row e l)) (q.to-from _ (col e l));
  from-to = λ e l. back e p.from q.from _ _ (q.below _ (col e l)) (p.from-to _ (row e l)) (q.from-to _ (col e l));
}
  where
    row : (e : ℕ) → e < n1 * n2 → e / n2 < n1
    row = row_below n1 n2

    col : (e : ℕ) → e < n1 * n2 → e % n2 < n2
    col = col-below n1 n2

    back : (e : ℕ) (f g : ℕ → ℕ) (i j : ℕ) → j < n2 → f i ≡ e / n2 → g j ≡ e % n2 →
        f ((i * n2 + j) / n2) * n2 + g ((i * n2 + j) % n2) ≡ e
    back e f g i j b h k = rw (row-of n1 n2 i j b, col-of n1 n2 i j b, h, k) (NatL.div-add-mod' e n2)

-- ---- sums
pub sum_rows : (r c : ℕ) (f : ℕ → ℤ) → sum (r * c) f ≡ sum r (λ l. sum c (λ k. f (l * c + k)))
unfolding sum
sum_rows zero c f = let e : zero * c ≡ zero = omega arith in rw e
sum_rows (suc r) c f =
    let e : suc r * c ≡ r * c + c = omega arith in
    rw (e, sum-split (r * c) c f, sum_rows r c f)

-- the sum without an element is the whole sum less that element's term
pub off-sum : (N : ℕ) (w : ℕ → ℕ → ℤ) (e : ℕ) (v : List ℤ) → e < N →
    weighed N (off w e) v ≡ sum N (λ k. w e k *ℤ at v k) -ℤ (w e e *ℤ at v e)
unfolding weighed off
off-sum N w e v l =
    given₂ (sym (sum-add N (λ k. off w e k *ℤ at v k) diagonal) ∙ sum-cong N _ _ (λ k h. split k (eqb e k)))
    (sum-single N e diagonal l (λ k h q. rw (ne_eqb e k (λ z. q (sym z)))) ∙ rw (eq-eqb e e refl))
    (minus_one (sum N (λ k. off w e k *ℤ at v k)) (sum N diagonal) (sum N (λ k. w e k *ℤ at v k)) (w e e *ℤ at v e))
  where
    diagonal : ℕ → ℤ
    diagonal k = cond (eqb e k) (w e k *ℤ at v k) (pos 0)

    split : (k : ℕ) (b : Bool) → (cond b (pos 0) (w e k) *ℤ at v k) +ℤ cond b (w e k *ℤ at v k) (pos 0) ≡ w e k *ℤ at v k
    split k true = simp lia (omega arith)
    split k false = simp lia (omega arith)

    minus_one : (a o s t : ℤ) → a +ℤ o ≡ s → o ≡ t → a ≡ s -ℤ t
    minus_one a o s t = simp lia (omega arith)

-- ---- the own term of an element: "signs as ±4096 inside the sum"
pub diagonal-weight : (f : Factor) (m : ℕ) → matrix f m m ≡ pos unit *ℤ f.sign m
unfolding matrix
diagonal-weight f m = rw (eq-eqb m m refl)

pub joint-diagonal : (n1 n2 : ℕ) (A B : Factor) (e : ℕ) → joint_weight n1 n2 A B e e ≡ pos unit² *ℤ joint_sign n1 n2 A B e
unfolding joint_weight joint_sign
joint-diagonal n1 n2 A B e =
    rw (diagonal-weight A (e / n2), diagonal-weight B (e % n2)) (both (pos unit) (pos unit) (A.sign (e / n2)) (B.sign (e % n2)))
  where
    both : (s t a b : ℤ) → (s *ℤ a) *ℤ (t *ℤ b) ≡ (s *ℤ t) *ℤ (a *ℤ b)
    both s t a b = simp distrib (simp lin (omega arith))

-- so the exact product of a weighing is the sum over its whole row of weights, of a line and of a rectangle
exact-row : (N S : ℕ) (d : ℕ → ℤ) (w : ℕ → ℕ → ℤ) (o : List ℕ) (x : List ℤ) (e : ℕ) → e < N → N ≤ length x →
    w e e ≡ pos S *ℤ d e →
    at (exact N (weigh S d w o) x) e ≡ sum N (λ k. w e k *ℤ at x k)
unfolding exact
exact-row N S d w o x e l room diagonal =
    fill-at N _ x e l room
    ∙ given₂ (off-sum N w e x l) diagonal (go (weighed N (off w e) x) (sum N (λ k. w e k *ℤ at x k)) (w e e) (pos S) (d e)
    (at x e))
  where
    go : (a t w s d x : ℤ) → a ≡ t -ℤ (w *ℤ x) → w ≡ s *ℤ d → (s *ℤ (d *ℤ x)) +ℤ a ≡ t
    go a t w s d x h k = rw (h, k) (simp distrib (simp lin (omega arith)))

pub exact-line : (n : ℕ) (f : Factor) (o : List ℕ) (x : List ℤ) (m : ℕ) → m < n → n ≤ length x →
    at (exact n (weigh unit f.sign (matrix f) o) x) m ≡ sum n (λ k. matrix f m k *ℤ at x k)
exact-line n f o x m l room = exact-row n unit f.sign (matrix f) o x m l room (diagonal-weight f m)

pub exact-joint : (n1 n2 : ℕ) (A B : Factor) (o : List ℕ) (x : List ℤ) (e : ℕ) → e < n1 * n2 → n1 * n2 ≤ length x →
    at (exact (n1 * n2) (weigh unit² (joint_sign n1 n2 A B) (joint_weight n1 n2 A B) o) x) e ≡
    sum (n1 * n2) (λ k. joint_weight n1 n2 A B e k *ℤ at x k)
exact-joint n1 n2 A B o x e l room =
    exact-row (n1 * n2) unit² (joint_sign n1 n2 A B) (joint_weight n1 n2 A B) o x e l room (joint-diagonal n1 n2 A B e)

-- THE JOINT SUM IN TWO STEPS: for a row i the sums V(k) of P(i,l)·X(l,k) over l, and then the sum of Q(j,k)·V(k),
-- less the element's own term
separable : (r c : ℕ) (P Q : ℕ → ℕ → ℤ) (e : ℕ) (v : List ℤ) → e < r * c →
    weighed (r * c) (off (λ e k. P (e / c) (k / c) *ℤ Q (e % c) (k % c)) e) v ≡
    sum c (λ k. Q (e % c) k *ℤ sum r (λ l. P (e / c) l *ℤ at v (l * c + k))) -ℤ
    ((P (e / c) (e / c) *ℤ Q (e % c) (e % c)) *ℤ at v e)
separable r c P Q e v h =
    off-sum (r * c) (λ e k. P (e / c) (k / c) *ℤ Q (e % c) (k % c)) e v h
    ∙ ap (λ (s : ℤ). s -ℤ ((P i i *ℤ Q j j) *ℤ at v e)) (sum_rows r c _ ∙ both)
  where
    i : ℕ
    i = e / c

    j : ℕ
    j = e % c

    turn-round : (a b x : ℤ) → (a *ℤ b) *ℤ x ≡ b *ℤ (a *ℤ x)
    turn-round a b x = simp lia (omega arith)

    both : sum r (λ l. sum c (λ k. (P i ((l * c + k) / c) *ℤ Q j ((l * c + k) % c)) *ℤ at v (l * c + k))) ≡
        sum c (λ k. Q j k *ℤ sum r (λ l. P i l *ℤ at v (l * c + k)))
    both =
        sum-cong r _ _
        (λ l p. sum-cong c _ _ (λ k q. rw (row-of r c l k q, col-of r c l k q) (turn-round (P i l) (Q j k) (at v (l * c + k)))))
        ∙ sum-swap r c (λ l k. Q j k *ℤ (P i l *ℤ at v (l * c + k)))
        ∙ sum-cong c _ _ (λ k q. sum-scale r (Q j k) (λ l. P i l *ℤ at v (l * c + k)))

-- of a run: the weights as they are
pub joint-sum : (n1 n2 : ℕ) (A B : Factor) (e : ℕ) (v : List ℤ) → e < n1 * n2 →
    weighed (n1 * n2) (off (joint_weight n1 n2 A B) e) v ≡
    sum n2 (λ k. matrix B (e % n2) k *ℤ sum n1 (λ l. matrix A (e / n2) l *ℤ at v (l * n2 + k)))
    -ℤ ((matrix A (e / n2) (e / n2) *ℤ matrix B (e % n2) (e % n2)) *ℤ at v e)
unfolding joint_weight
joint-sum n1 n2 A B e v h = separable n1 n2 (matrix A) (matrix B) e v h

-- of an allowance: their magnitudes
pub joint-abs-sum : (n1 n2 : ℕ) (A B : Factor) (e : ℕ) (v : List ℤ) → e < n1 * n2 →
    weighed (n1 * n2) (λ k. pos (nat_abs (off (joint_weight n1 n2 A B) e k))) v ≡
    sum n2 (λ k. pos (nat_abs (matrix B (e % n2) k)) *ℤ sum n1 (λ l. pos (nat_abs (matrix A (e / n2) l)) *ℤ at v (l * n2 + k)))
    -ℤ ((pos (nat_abs (matrix A (e / n2) (e / n2))) *ℤ pos (nat_abs (matrix B (e % n2) (e % n2)))) *ℤ at v e)
unfolding weighed off joint_weight
joint-abs-sum n1 n2 A B e v h =
    sum-cong (n1 * n2) _ _ (λ k l. ap (λ (z : ℤ). z *ℤ at v k) (go k (eqb e k)))
    ∙ separable n1 n2 (λ m k. pos (nat_abs (matrix A m k))) (λ m k. pos (nat_abs (matrix B m k))) e v h
  where
    go : (k : ℕ) (b : Bool) →
        pos (nat_abs (cond b (pos 0) (matrix A (e / n2) (k / n2) *ℤ matrix B (e % n2) (k % n2)))) ≡
        cond b (pos 0) (pos (nat_abs (matrix A (e / n2) (k / n2))) *ℤ pos (nat_abs (matrix B (e % n2) (k % n2))))
    go k true = refl
    go k false = ap pos (abs-mul (matrix A (e / n2) (k / n2)) (matrix B (e % n2) (k % n2)))
