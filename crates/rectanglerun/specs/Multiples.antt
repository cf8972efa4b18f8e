-- THE TEST FOR MULTIPLES IN A RECTANGLE: all products of weights over the elements other than (i,j) are multiples of 4096·4096
-- exactly if all weights off the diagonal, of row i of the one matrix and of row j of the other, are multiples of 4096:
-- the weights on the diagonals are 4096 or -4096.
use Rattle.std.specs.Prelude.{Bool, true, false, cond, ◌≢◌, ◌≡◌, refl, ℕ, ◌+◌, ◌*◌, ◌/◌, ◌%◌, ◌<◌, ℤ}
use Rattle.std.proofs.Common.{sym, ap, ap₂, ◌∙◌, arith}
use Rattle.std.proofs.Math.Decide.{ℕ_discrete}
use Rattle.std.proofs.Math.Nat as NatL
use Rattle.std.proofs.Math.IntN.{nat_abs}
use Rattle.whole.specs.Laws.{abs-mul}
use Rattle.rules.specs.Numbers.{unit, unit²}
use Rattle.rules.specs.Factors.{Factor, matrix}
use Rattle.rules.specs.Stages.{off, multiples}
use Rattle.rules.specs.Shapes.{joint_weight}
use Rattle.rules.proofs.Laws.Lists.{off_self, off-other, multiples-yes, multiples-at}
use Rattle.rules.proofs.Laws.Rectangles.{row_below, col-below, element-below, row-of, col-of}

-- ---- products
times-unit : (x y : ℕ) → y ≡ unit → x * y % unit² ≡ 0 → x % unit ≡ 0
times-unit x y e h =
    let g : x * unit % unit² ≡ 0 = rw e at h in
    let z : x ≡ unit * (x * unit / unit²) = omega (arith, NatL.div-add-mod (x * unit) unit²) in
    ap (λ (t : ℕ). t % unit) z ∙ NatL.mul-mod_right unit (x * unit / unit²)

both-units : (x y : ℕ) → x % unit ≡ 0 → y % unit ≡ 0 → x * y % unit² ≡ 0
both-units x y h k =
    let a : x ≡ unit * (x / unit) = omega arith in
    let b : y ≡ unit * (y / unit) = omega arith in
    let e : unit * (x / unit) * (unit * (y / unit)) ≡ unit² * (x / unit * (y / unit)) = omega arith in
    ap₂ (λ (p q : ℕ). p * q % unit²) a b ∙ ap (λ (p : ℕ). p % unit²) e ∙ NatL.mul-mod_right unit² (x / unit * (y / unit))

-- one test for two
both-tests : (a b c : Bool) → (c ≡ true → (a ≡ true) × (b ≡ true)) → (a ≡ true → b ≡ true → c ≡ true) → c ≡ cond a b false
both-tests true true c f g = g refl refl
both-tests true false true f g = sym (f refl).1
both-tests true false false f g = refl
both-tests false b true f g = sym (f refl).0
both-tests false b false f g = refl

module _ (n1 n2 : ℕ) (A B : Factor) (e : ℕ) (l : e < n1 * n2) (diagonalA : nat_abs (matrix A (e / n2) (e / n2)) ≡ unit)
    (diagonalB : nat_abs (matrix B (e % n2) (e % n2)) ≡ unit) where
  i : ℕ
  i = e / n2

  j : ℕ
  j = e % n2

  ib : e / n2 < n1
  ib = row_below n1 n2 e l

  jb : e % n2 < n2
  jb = col-below n1 n2 e l

  -- the weight of element (m,k)
  weight-at : (m k : ℕ) → k < n2 →
      nat_abs (joint_weight n1 n2 A B e (m * n2 + k)) ≡ nat_abs (matrix A (e / n2) m) * nat_abs (matrix B (e % n2) k)
  unfolding joint_weight
  weight-at m k b = rw (row-of n1 n2 m k b, col-of n1 n2 m k b) (abs-mul (matrix A (e / n2) m) (matrix B (e % n2) k))

  abbrev u : ℕ → ℤ
  u = off (joint_weight n1 n2 A B) e

  -- off the diagonal, and of the whole row
  off-fine : (f : ℕ → ℕ → ℤ) (m k : ℕ) → (m ≢ k → nat_abs (f m k) % unit ≡ 0) → nat_abs (off f m k) % unit ≡ 0
  off-fine f m k h = go (ℕ_discrete m k)
    where
      go : Dec (m ≡ k) → nat_abs (off f m k) % unit ≡ 0
      go (yes q) = rw (← q, off_self f m)
      go (no q) = rw (off-other f m k q) (h q)

  row_fine : (f : ℕ → ℕ → ℤ) (m k : ℕ) → nat_abs (f m m) ≡ unit → nat_abs (off f m k) % unit ≡ 0 → nat_abs (f m k) % unit ≡ 0
  row_fine f m k o h = go (ℕ_discrete m k)
    where
      go : Dec (m ≡ k) → nat_abs (f m k) % unit ≡ 0
      go (yes q) = rw (← q, o)
      go (no q) = rw (off-other f m k q) at h

  rows_whole : multiples unit² (n1 * n2) u ≡ true → multiples unit n1 (off (matrix A) (e / n2)) ≡ true
  rows_whole h =
      multiples-yes unit n1 _
      (λ m b. off-fine (matrix A) (e / n2) m
      (λ q.
      let k = m * n2 + e % n2 in
      let p = element-below n1 n2 m (e % n2) b jb in
      let d : e ≢ k = λ z. q (ap (λ (t : ℕ). t / n2) z ∙ row-of n1 n2 m (e % n2) jb) in
      let g = multiples-at unit² (n1 * n2) u h k p in
      times-unit (nat_abs (matrix A (e / n2) m)) (nat_abs (matrix B (e % n2) (e % n2))) diagonalB
      (rw (off-other (joint_weight n1 n2 A B) e k d, weight-at m (e % n2) jb) at g)))

  columns-whole : multiples unit² (n1 * n2) u ≡ true → multiples unit n2 (off (matrix B) (e % n2)) ≡ true
  columns-whole h =
      multiples-yes unit n2 _
      (λ m b. off-fine (matrix B) (e % n2) m
      (λ q.
      let k = e / n2 * n2 + m in
      let p = element-below n1 n2 (e / n2) m ib b in
      let d : e ≢ k = λ z. q (ap (λ (t : ℕ). t % n2) z ∙ col-of n1 n2 (e / n2) m b) in
      let g = multiples-at unit² (n1 * n2) u h k p in
      times-unit (nat_abs (matrix B (e % n2) m)) (nat_abs (matrix A (e / n2) (e / n2))) diagonalA
      (rw NatL.mul_comm (rw (off-other (joint_weight n1 n2 A B) e k d, weight-at (e / n2) m b) at g))))

  all_whole : multiples unit n1 (off (matrix A) (e / n2)) ≡ true → multiples unit n2 (off (matrix B) (e % n2)) ≡ true →
      multiples unit² (n1 * n2) u ≡ true
  unfolding joint_weight
  all_whole h g = multiples-yes unit² (n1 * n2) u (λ k b. go k b (ℕ_discrete e k))
    where
      go : (k : ℕ) → k < n1 * n2 → Dec (e ≡ k) → nat_abs (u k) % unit² ≡ 0
      go k b (yes q) = rw (← q, off_self (joint_weight n1 n2 A B) e)
      go k b (no q) =
          rw (off-other (joint_weight n1 n2 A B) e k q, abs-mul (matrix A (e / n2) (k / n2)) (matrix B (e % n2) (k % n2)))
          (both-units (nat_abs (matrix A (e / n2) (k / n2))) (nat_abs (matrix B (e % n2) (k % n2)))
          (row_fine (matrix A) (e / n2) (k / n2) diagonalA (multiples-at unit n1 _ h (k / n2) (row_below n1 n2 k b)))
          (row_fine (matrix B) (e % n2) (k % n2) diagonalB (multiples-at unit n2 _ g (k % n2) (col-below n1 n2 k b))))

  pub joint-whole : multiples unit² (n1 * n2) (off (joint_weight n1 n2 A B) e) ≡ cond (multiples unit n1 (off (matrix A) (e / n2)))
      (multiples unit n2 (off (matrix B) (e % n2))) false
  joint-whole = both-tests _ _ _ (λ h. (rows_whole h, columns-whole h)) all_whole
