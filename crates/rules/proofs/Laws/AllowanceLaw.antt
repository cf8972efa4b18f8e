-- THE ALLOWANCE LAW AND THE DIFFERENCE LAW, for any rounding rule: of the rounding only `SoundFactors.Rounding` is used.
use Rattle.std.specs.Prelude.{Bool, true, false, cond, ◌≡◌, refl, ℕ, zero, suc, ◌*◌, ◌/◌, ◌%◌, ◌≤◌, ◌<◌, eqb, negsuc, neg_ℤ, nat_abs, ◌+ℤ◌, ◌-ℤ◌, ◌*ℤ◌, length, replicate, ◌≤ℤ◌}
use mathlib.Core.List.{List}
use Rattle.std.proofs.Common.{inl, sym, ap, ◌∙◌, eqb-true}
use Rattle.std.proofs.Math.Nat.{div-add-mod}
use Rattle.std.proofs.Math.Nat as NatL
use native.Mathlib.Omega.{arith}
use Rattle.std.proofs.Math.IntN.{ℤ, pos}
use Rattle.std.proofs.lemmas.List.{length-replicate, get_or-replicate}
use Rattle.whole.specs.Diff.{lia, lin, lia-abs, given₁, given₂, given₃}
use Rattle.whole.specs.Stated.{Sign, sum}
use Rattle.whole.specs.Laws.{distrib, abs-mul, mul_le_mul_left, sign-abs}
use Rattle.whole.specs.Floor.{ceiling-up}
use Rattle.whole.specs.Sum.{sum-cong}
use Rattle.rules.specs.Numbers.{unit, at}
use Rattle.rules.specs.declared.Rule.{Rule}
use Rattle.rules.specs.Stages.{R, share, ceiling, Stage, move, weigh, scale, off, weighed, multiples, forward, allow, exact}
use Rattle.rules.specs.Stages.{done, through, run_forward, run_allowance, exact_product, exact_scale}
use Rattle.rules.specs.GoodStages.{Good, moves, weighs, AllGood}
use Rattle.rules.proofs.Laws.Rounding.{rounding}
use Rattle.rules.proofs.Laws.Membership.{true-false}
use Rattle.rules.proofs.Laws.Lists.{length-fill, fill-at}
use Rattle.rules.proofs.Laws.Inverses.{length-forward}
use Rattle.rules.proofs.Laws.Runs.{run-through}

-- ---- 4096·|z| ≤ D·b, and sums and multiples of what is so near
record Near (D : ℕ) (z b : ℤ) : Type 0 where
  near : pos (unit * nat_abs z) ≤ℤ (pos D *ℤ b)

nonneg : (m : ℕ) → pos 0 ≤ℤ pos m
nonneg m = simp lia (omega arith)

near_add : {D : ℕ} {a b x y : ℤ} → Near D a x → Near D b y → Near D (a +ℤ b) (x +ℤ y)
near_add {D} {a} {b} {x} {y} h k = record { near = given₂ h.near k.near (simp lia-abs (omega arith)) }

near-three : {D : ℕ} {p q r b : ℤ} → Near D p b → Near D q b → Near D r b → Near D ((p -ℤ q) -ℤ r) (pos 3 *ℤ b)
near-three {D} {p} {q} {r} {b} h k l = record { near = given₃ h.near k.near l.near (simp lia-abs (omega arith)) }

sum_near : (n : ℕ) {D : ℕ} (f g : ℕ → ℤ) → ((k : ℕ) → k < n → Near D (f k) (g k)) → Near D (sum n f) (sum n g)
unfolding sum
sum_near zero f g h = record { near = simp lia (omega arith) }
sum_near (suc n) f g h = near_add (sum_near n f g (λ k l. h k (omega arith))) (h n (omega arith))

near-scale : {D : ℕ} {z b : ℤ} (w : ℤ) → Near D z b → Near D (w *ℤ z) (pos (nat_abs w) *ℤ b)
near-scale {D} {z} {b} w h = record { near = rw (abs-mul w z) (go (nat_abs w) (nat_abs z) h.near) }
  where
    go : (m a : ℕ) → pos (unit * a) ≤ℤ (pos D *ℤ b) → pos (unit * (m * a)) ≤ℤ (pos D *ℤ (pos m *ℤ b))
    go m a k = given₁ (mul_le_mul_left (pos m) (nonneg m) k) (simp lia (omega arith))

near_times : {D : ℕ} {d z b : ℤ} (S : ℕ) → Sign d → Near D z b → Near (S * D) (pos S *ℤ (d *ℤ z)) b
near_times {D} {d} {z} {b} S s h = record {
  near = rw (abs-mul (pos S) (d *ℤ z), sign-abs d z s) (given₁ (mul_le_mul_left (pos S) (nonneg S) h.near) (go (nat_abs z)));
}
  where
    go : (a : ℕ) → (pos S *ℤ pos (unit * a)) ≤ℤ (pos S *ℤ (pos D *ℤ b)) → pos (unit * (S * a)) ≤ℤ (pos (S * D) *ℤ b)
    go a = simp lia (omega arith)

near_up : {D : ℕ} {z b c : ℤ} (S : ℕ) → Near D z b → b ≤ℤ (pos S *ℤ c) → Near (S * D) z c
near_up {D} {z} {b} {c} S h k = record { near = given₂ h.near (mul_le_mul_left (pos D) (nonneg D) k) (go (nat_abs z)) }
  where
    go : (a : ℕ) → pos (unit * a) ≤ℤ (pos D *ℤ b) → (pos D *ℤ b) ≤ℤ (pos D *ℤ (pos S *ℤ c)) → pos (unit * a) ≤ℤ (pos (S * D) *ℤ c)
    go a = simp lia (omega arith)

-- ---- weights that are multiples of S: the sum is one
multiple-is : (S : ℕ) (z : ℤ) → nat_abs z % S ≡ 0 → (q : ℤ) × (z ≡ pos S *ℤ q)
multiple-is S (pos n) h = (pos (n / S), simp lia (omega (arith, div-add-mod n S)))
multiple-is S (negsuc n) h = (neg_ℤ (pos (suc n / S)), simp lia (omega (arith, div-add-mod (suc n) S)))

add-multiple : (S a b x p q : ℤ) → a ≡ S *ℤ p → b ≡ S *ℤ q → a +ℤ b *ℤ x ≡ S *ℤ (p +ℤ q *ℤ x)
add-multiple S a b x p q e f = rw (e, f) (simp lia (omega arith))

sum-multiple : (S n : ℕ) (u : ℕ → ℤ) (v : List ℤ) → multiples S n u ≡ true → (q : ℤ) × (weighed n u v ≡ pos S *ℤ q)
unfolding weighed multiples sum
sum-multiple S zero u v h = (pos 0, simp lia (omega arith))
sum-multiple S (suc n) u v h = go (sum-multiple S n u v) (eqb (nat_abs (u n) % S) 0) refl h
  where
    go : (multiples S n u ≡ true → (q : ℤ) × (sum n (λ k. u k *ℤ at v k) ≡ pos S *ℤ q)) → (b : Bool) →
        eqb (nat_abs (u n) % S) 0 ≡ b →
        cond b (multiples S n u) false ≡ true → (q : ℤ) × (sum n (λ k. u k *ℤ at v k) +ℤ u n *ℤ at v n ≡ pos S *ℤ q)
    go ih true e t =
        let r = ih t in
        let m = multiple-is S (u n) (eqb-true _ _ e) in
        (r.0 +ℤ m.0 *ℤ at v n, add-multiple (pos S) _ (u n) (at v n) r.0 m.0 r.1 m.1)
    go ih false e t = absurd (true-false t refl)

-- ---- the exact product
pub length-exact : (N : ℕ) (s : Stage) (v : List ℤ) → length (exact N s v) ≡ length v
unfolding exact
length-exact N (move S p) v = length-fill N _ v
length-exact N (weigh S d w o) v = length-fill N _ v

positive-scale : {N : ℕ} {ss : List Stage} → AllGood N ss → 0 < exact_scale ss
unfolding exact_scale scale
positive-scale AllGood.none = omega arith
positive-scale (AllGood.more {ss} (moves {S} c h) a) = NatL.mul-pos c (positive-scale a)
positive-scale (AllGood.more {ss} (weighs {S} c h) a) = NatL.mul-pos c (positive-scale a)

-- u is x minus z, element by element: so are the exact products
pub record Less (N : ℕ) (x z u : List ℤ) : Type 0 where
  pub long-x : N ≤ length x
  pub long-z : N ≤ length z
  pub long-u : N ≤ length u
  pub less : (e : ℕ) → e < N → at u e ≡ at x e -ℤ at z e

-- a sum whose numbers are D·y - x, weighed
weighed-error : (n : ℕ) (D : ℤ) (u : ℕ → ℤ) (y x : List ℤ) →
    sum n (λ k. u k *ℤ ((D *ℤ at y k) -ℤ at x k)) ≡ (D *ℤ weighed n u y) -ℤ weighed n u x
unfolding weighed sum
weighed-error zero D u y x = simp lia (omega arith)
weighed-error (suc n) D u y x =
    rw (weighed-error n D u y x) (go (sum n (λ k. u k *ℤ at y k)) (sum n (λ k. u k *ℤ at x k)) (u n) (at y n) (at x n))
  where
    go : (a b u y x : ℤ) → ((D *ℤ a) -ℤ b) +ℤ (u *ℤ ((D *ℤ y) -ℤ x)) ≡ (D *ℤ (a +ℤ (u *ℤ y))) -ℤ (b +ℤ (u *ℤ x))
    go a b u y x = simp distrib (simp lin (omega arith))

weighed-less : (n : ℕ) (w : ℕ → ℤ) (x z u : List ℤ) →
    ((e : ℕ) → e < n → at u e ≡ at x e -ℤ at z e) → weighed n w u ≡ weighed n w x -ℤ weighed n w z
unfolding weighed
weighed-less n w x z u h =
    sum-cong n _ _ (λ k l. ap (λ (t : ℤ). w k *ℤ t) (h k l ∙ one (at x k) (at z k)))
    ∙ weighed-error n (pos 1) w x z
    ∙ sym (one (weighed n w x) (weighed n w z))
  where
    one : (a b : ℤ) → a -ℤ b ≡ (pos 1 *ℤ a) -ℤ b
    one a b = simp lia (omega arith)

stage-less : {N : ℕ} {s : Stage} {x z u : List ℤ} → Good N s → Less N x z u → (e : ℕ) → e < N →
    at (exact N s u) e ≡ at (exact N s x) e -ℤ at (exact N s z) e
unfolding exact
stage-less {N} {x} {z} {u} (moves {S} {p} c h) k e l =
    rw (fill-at N _ x e l k.long-x, fill-at N _ z e l k.long-z, fill-at N _ u e l k.long-u, k.less (p e) (h.below e l))
    (go (pos S) (at x (p e)) (at z (p e)))
  where
    go : (S x z : ℤ) → S *ℤ (x -ℤ z) ≡ (S *ℤ x) -ℤ (S *ℤ z)
    go S x z = simp lia (omega arith)
stage-less {N} {x} {z} {u} (weighs {S} {d} {w} {o} c h) k e l =
    rw (fill-at N _ x e l k.long-x, fill-at N _ z e l k.long-z, fill-at N _ u e l k.long-u)
    (rw (weighed-less N (off w e) x z u k.less, k.less e l)
    (go (pos S) (d e) (at x e) (at z e) (weighed N (off w e) x) (weighed N (off w e) z)))
  where
    go : (S d x z a b : ℤ) → (S *ℤ (d *ℤ (x -ℤ z))) +ℤ (a -ℤ b) ≡ ((S *ℤ (d *ℤ x)) +ℤ a) -ℤ ((S *ℤ (d *ℤ z)) +ℤ b)
    go S d x z a b = simp distrib (simp lin (omega arith))

exact-less : {N : ℕ} {ss : List Stage} {x z u : List ℤ} → AllGood N ss → Less N x z u →
    Less N (through (exact N) ss x) (through (exact N) ss z) (through (exact N) ss u)
unfolding through
exact-less AllGood.none k = k
exact-less {N} {x} {z} {u} (AllGood.more {s} {ss} g a) k = exact-less a (record {
  long-x = omega (arith, length-exact N s x, k.long-x);
  long-z = omega (arith, length-exact N s z, k.long-z);
  long-u = omega (arith, length-exact N s u, k.long-u);
  less = stage-less g k;
})

-- ---- one stage: the error D·y - E of an element is made of its own, those of the others, and the rounding's
error-parts : (S D d y x r s t : ℤ) →
    ((S *ℤ D) *ℤ ((d *ℤ y) +ℤ r)) -ℤ ((S *ℤ (d *ℤ x)) +ℤ t) ≡ ((S *ℤ (d *ℤ ((D *ℤ y) -ℤ x))) +ℤ ((D *ℤ s) -ℤ t)) +ℤ
    (D *ℤ ((S *ℤ r) -ℤ s))
error-parts S D d y x r s t = simp distrib (simp lin (omega arith))

-- y, the exact x at scale D, and b: every number is within its allowance
record Kept (N D : ℕ) (y x b : List ℤ) : Type 0 where
  long-y : N ≤ length y
  long-x : N ≤ length x
  long-b : N ≤ length b
  each : (e : ℕ) → e < N → Near D ((pos D *ℤ at y e) -ℤ at x e) (at b e)

module _ (rule : Rule) where
  pub length-allow : (N : ℕ) (s : Stage) (v : List ℤ) → length (allow rule N s v) ≡ length v
  unfolding allow
  length-allow N (move S p) v = length-fill N _ v
  length-allow N (weigh S d w o) v = length-fill N _ v

  -- a rounding's error times D is within S·D times the share, or 0 where every weight is a multiple of S
  rounding-near : (N S D : ℕ) (u : ℕ → ℤ) (v : List ℤ) → 0 < S →
      Near (S * D) (pos D *ℤ ((pos S *ℤ R rule S (weighed N u v)) -ℤ weighed N u v))
      (cond (multiples S N u) (pos 0) (pos (share rule)))
  rounding-near N S D u v positive = go (multiples S N u) refl
    where
      s : ℤ
      s = weighed N u v

      times : (a : ℕ) → unit * a ≤ share rule * S → pos (unit * (D * a)) ≤ℤ (pos (S * D) *ℤ pos (share rule))
      times a k = simp lia (omega (arith, NatL.mul-le-mul_left D k))

      go : (b : Bool) → multiples S N u ≡ b →
          Near (S * D) (pos D *ℤ ((pos S *ℤ R rule S s) -ℤ s)) (cond b (pos 0) (pos (share rule)))
      go true h =
          let q = sum-multiple S N u v h in
          let e : R rule S s ≡ q.0 = ap (R rule S) q.1 ∙ (rounding rule).whole S q.0 positive in
          let z : (pos S *ℤ R rule S s) -ℤ s ≡ pos 0 = rw (e, q.1) (simp lia (omega arith)) in
          rw z (record { near = simp lia (omega arith) })
      go false h = record {
        near =
            rw (abs-mul (pos D) ((pos S *ℤ R rule S s) -ℤ s))
            (times (nat_abs ((pos S *ℤ R rule S s) -ℤ s)) ((rounding rule).near S s positive));
      }

  -- a move's element, and a weighing's
  move-near : {D : ℕ} {b : ℤ} (S : ℕ) (y x : ℤ) → Near D ((pos D *ℤ y) -ℤ x) b →
      Near (S * D) ((pos (S * D) *ℤ y) -ℤ (pos S *ℤ x)) b
  move-near {D} S y x h = rw (eq (pos S) (pos D)) (near_times {d = pos 1} S (inl refl) h)
    where
      eq : (S D : ℤ) → ((S *ℤ D) *ℤ y) -ℤ (S *ℤ x) ≡ S *ℤ (pos 1 *ℤ ((D *ℤ y) -ℤ x))
      eq S D = simp distrib (simp lin (omega arith))

  weigh-near : {N D : ℕ} {y x b : List ℤ} (S : ℕ) (d : ℤ) (u : ℕ → ℤ) (e : ℕ) → 0 < S → Sign d → e < N → Kept N D y x b →
      Near (S * D) ((pos (S * D) *ℤ ((d *ℤ at y e) +ℤ R rule S (weighed N u y))) -ℤ ((pos S *ℤ (d *ℤ at x e)) +ℤ weighed N u x))
      ((at b e +ℤ ceiling S (weighed N (λ k. pos (nat_abs (u k))) b)) +ℤ cond (multiples S N u) (pos 0) (pos (share rule)))
  unfolding ceiling
  weigh-near {N} {D} {y} {x} {b} S d u e c g l k =
      rw (error-parts (pos S) (pos D) d (at y e) (at x e) (R rule S (weighed N u y)) (weighed N u y) (weighed N u x))
      (near_add
      (near_add (near_times S g (k.each e l)) (near_up S others (ceiling-up S (weighed N (λ k. pos (nat_abs (u k))) b) c)))
      (rounding-near N S D u y c))
    where
      others : Near D ((pos D *ℤ weighed N u y) -ℤ weighed N u x) (weighed N (λ k. pos (nat_abs (u k))) b)
      others = rw (← (weighed-error N (pos D) u y x)) (unfold weighed in sum_near N _ _ (λ i j. near-scale (u i) (k.each i j)))

  stage-near : {N D : ℕ} {s : Stage} {y x b : List ℤ} → Good N s → Kept N D y x b → (e : ℕ) → e < N →
      Near (scale s * D) ((pos (scale s * D) *ℤ at (forward rule N s y) e) -ℤ at (exact N s x) e) (at (allow rule N s b) e)
  unfolding forward exact allow scale
  stage-near {N} {D} {y} {x} {b} (moves {S} {p} c h) k e l =
      rw (fill-at N _ y e l k.long-y, fill-at N _ x e l k.long-x, fill-at N _ b e l k.long-b)
      (move-near S (at y (p e)) (at x (p e)) (k.each (p e) (h.below e l)))
  stage-near {N} {D} {y} {x} {b} (weighs {S} {d} {w} {o} c h) k e l =
      rw (fill-at N _ y e l k.long-y, fill-at N _ x e l k.long-x, fill-at N _ b e l k.long-b)
      (weigh-near S (d e) (off w e) e c (h.signs e l) l k)

  -- ---- all stages
  through-kept : {N D : ℕ} {ss : List Stage} {y x b : List ℤ} → AllGood N ss → Kept N D y x b →
      Kept N (exact_scale ss * D) (through (forward rule N) ss y) (through (exact N) ss x) (through (allow rule N) ss b)
  unfolding through exact_scale
  through-kept {N} {D} AllGood.none k = let e : 1 * D ≡ D = omega arith in rw e k
  through-kept {N} {D} {y} {x} {b} (AllGood.more {s} {ss} g a) k =
      let e : scale s * exact_scale ss * D ≡ exact_scale ss * (scale s * D) = omega arith in
      rw e
      (through-kept {D = scale s * D} a (record {
        long-y = omega (arith, length-forward rule N s y, k.long-y);
        long-x = omega (arith, length-exact N s x, k.long-x);
        long-b = omega (arith, length-allow N s b, k.long-b);
        each = stage-near g k;
      }))

  start : (N : ℕ) (x : List ℤ) → N ≤ length x → Kept N 1 x x (replicate N (pos 0))
  start N x l = record {
    long-y = l;
    long-x = l;
    long-b = omega (arith, length-replicate N (pos 0));
    each = λ e h. rw (get_or-replicate N e (pos 0) (pos 0) h) (record { near = zero-error (at x e) });
  }
    where
      zero-error : (z : ℤ) → pos (unit * nat_abs ((pos 1 *ℤ z) -ℤ z)) ≤ℤ (pos 1 *ℤ pos 0)
      zero-error z = simp lia (omega arith)

  module _ {N : ℕ} {ss : List Stage} (good : AllGood N ss) (b : List ℤ) (allowed : run_allowance rule N ss ≡ done b) where
    kept : (x y : List ℤ) → N ≤ length x → run_forward rule N ss x ≡ done y → (e : ℕ) → e < N →
        Near (exact_scale ss) ((pos (exact_scale ss) *ℤ at y e) -ℤ at (exact_product N ss x) e) (at b e)
    unfolding run_forward run_allowance exact_product
    kept x y l h e i =
        let k = through-kept good (start N x l) in
        let q : exact_scale ss * 1 ≡ exact_scale ss = omega arith in
        rw (q, run-through _ _ _ _ ss x y h, run-through _ _ _ _ ss (replicate N (pos 0)) b allowed) at (k.each e i)

    -- THE ALLOWANCE: every coefficient of an accepted run lies within its allowance b (counted in 1/4096) of the exact product E,
    -- which is counted in 1/D: 4096·|D·y - E| ≤ D·b
    pub within-allowance : (x y : List ℤ) → N ≤ length x → run_forward rule N ss x ≡ done y → (e : ℕ) → e < N →
        pos (unit * nat_abs ((pos (exact_scale ss) *ℤ at y e) -ℤ at (exact_product N ss x) e)) ≤ℤ (pos (exact_scale ss) *ℤ at b e)
    within-allowance x y l h e i = (kept x y l h e i).near

    -- THE DIFFERENCE: where u is x minus z and all three runs are accepted, the coefficients of u differ from those of x minus
    -- those of z by at most three allowances: 4096·|F(x) - F(z) - F(u)| ≤ 3·b
    pub difference : {x z u : List ℤ} → Less N x z u → (fx fz fu : List ℤ) →
        run_forward rule N ss x ≡ done fx → run_forward rule N ss z ≡ done fz → run_forward rule N ss u ≡ done fu →
        (e : ℕ) → e < N → pos (unit * nat_abs ((at fx e -ℤ at fz e) -ℤ at fu e)) ≤ℤ (pos 3 *ℤ at b e)
    unfolding exact_product
    difference {x} {z} {u} k fx fz fu hx hz hu e i =
        let n = near-three (kept x fx k.long-x hx e i) (kept z fz k.long-z hz e i) (kept u fu k.long-u hu e i) in
        let E : List ℤ → ℤ = λ v. at (exact_product N ss v) e in
        let q = parts (pos (exact_scale ss)) (at fx e) (at fz e) (at fu e) (E x) (E z) (E u) ((exact-less good k).less e i) in
        cancel (exact_scale ss) (nat_abs ((at fx e -ℤ at fz e) -ℤ at fu e)) (pos 3 *ℤ at b e) (positive-scale good)
        (rw (q, abs-mul (pos (exact_scale ss)) ((at fx e -ℤ at fz e) -ℤ at fu e)) at n.near)
      where
        parts : (D x z u p q r : ℤ) → r ≡ p -ℤ q → (((D *ℤ x) -ℤ p) -ℤ ((D *ℤ z) -ℤ q)) -ℤ ((D *ℤ u) -ℤ r) ≡ D *ℤ ((x -ℤ z) -ℤ u)
        parts D x z u p q r h = rw h (simp distrib (simp lin (omega arith)))

        cancel : (D a : ℕ) (c : ℤ) → 0 < D → pos (unit * (D * a)) ≤ℤ (pos D *ℤ c) → pos (unit * a) ≤ℤ c
        cancel D a (pos n) h k =
            let m : D * (unit * a) ≤ D * n = given₁ k (simp lia (omega arith)) in
            let j : unit * a ≤ n = NatL.le_of_mul-le-mul_left m h in
            simp lia (omega arith)
        cancel D a (negsuc n) h k = let z : ⊥ = given₁ k (simp lia (omega arith)) in absurd z
