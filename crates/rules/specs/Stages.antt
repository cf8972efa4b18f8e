-- "FACTOR RULES", "ALLOWANCE" and the exact product of document 01, over a stage: a factor of a line, or a pair of factors of a
-- rectangle.
-- N numbers go through a list of stages: N is n for a line, n1·n2 for a rectangle in reading order.
use Rattle.std.specs.Prelude.{Bool, true, false, cond, List, [], ◌∷◌, ◌++◌, reverse, ◌≡◌, ℕ, zero, suc, ◌+◌, ◌-◌, ◌*◌, ◌/◌, ◌%◌, ◌≤◌, eqb, leb, ℤ, pos, nat_abs, ◌+ℤ◌, ◌-ℤ◌, ◌*ℤ◌, set, replicate, ◌≤ℤ◌, ◌<ℤ◌}
use Rattle.std.specs.Int.Signed.{shr_z}
use Rattle.whole.specs.Stated.{sum}
use Rattle.rules.specs.declared.Rule.{Rule}
use Rattle.rules.specs.declared.Rule.TheVariants.{Nearest, Down, Even}
use Rattle.rules.specs.Numbers.{bound, most_allowance, at}

-- ---- the rounding
-- request R-5: "The rounding step takes a rule: 0 as today, 1 floor, 2 nearest with halves to even". S is the scale, 4096 or
-- 16777216, and `shr_z s S` is the floor of s / S, also below zero.
abbrev pub is_even : ℤ → Bool
is_even q = eqb (nat_abs q % 2) 0

-- a sum s whose floor is q: at a half the even one of q and q + 1; else below a half q, above it q + 1
unfoldable pub to_even : ℕ → ℤ → ℤ → ℤ
to_even S s q =
    let twice = 2 * nat_abs (s -ℤ (pos S *ℤ q)) in
    cond (eqb twice S) (cond (is_even q) q (q +ℤ pos 1)) (cond (leb twice S) q (q +ℤ pos 1))

-- 0: "R(s) is the floor of (s + 2048)/4096", "R2(s) is the floor of (s + 8388608)/16777216"; 1: "floor"; 2: "nearest with halves
-- to even"
unfoldable pub R : Rule → ℕ → ℤ → ℤ
R Nearest S s = shr_z (s +ℤ pos (S / 2)) S
R Down S s = shr_z s S
R Even S s = to_even S s (shr_z s S)

-- "The quotient is a floor, also below zero": what that means of r, with no division. 0: S·r ≤ s + S/2 < S·r + S. 1: S·r ≤ s <
-- S·r + S. 2: r is within a half of s / S, and even if it is off by a half
unfoldable pub Rounds : Rule → ℕ → ℤ → ℤ → Type 0
Rounds Nearest S s r = ((pos S *ℤ r) ≤ℤ (s +ℤ pos (S / 2))) × ((s +ℤ pos (S / 2)) <ℤ ((pos S *ℤ r) +ℤ pos S))
Rounds Down S s r = ((pos S *ℤ r) ≤ℤ s) × (s <ℤ ((pos S *ℤ r) +ℤ pos S))
Rounds Even S s r =
    (2 * nat_abs (s -ℤ (pos S *ℤ r)) ≤ S) × (2 * nat_abs (s -ℤ (pos S *ℤ r)) ≡ S → is_even r ≡ true)

-- what one rounding adds to an allowance: "the 2048 added for rounding is 4096 under rule 1"
unfoldable pub share : Rule → ℕ
share Nearest = 2048
share Down = 4096
share Even = 2048

-- the quotient s / S upward
unfoldable pub ceiling : ℕ → ℤ → ℤ
ceiling S s = shr_z (s +ℤ pos (S - 1)) S

-- ---- lists by places
-- v with its first n numbers f 0 .. f (n - 1)
unfoldable pub fill : ℕ → (ℕ → ℤ) → List ℤ → List ℤ
fill zero f v = v
fill (suc n) f v = set (fill n f v) n (f n)

-- every one of the first n numbers lies between -most and most
unfoldable pub inside : ℕ → ℕ → List ℤ → Bool
inside most zero v = true
inside most (suc n) v = cond (leb (nat_abs (at v n)) most) (inside most n v) false

-- the numbers below n that pass a test, upward; all of them: the elements of a block in reading order
unfoldable pub those : (ℕ → Bool) → ℕ → List ℕ
those test zero = []
those test (suc n) = those test n ++ cond (test n) (n ∷ []) []

abbrev pub up_to : ℕ → List ℕ
up_to n = those (λ e. true) n

-- request R-7, "Which sample was too large": along an order, the first element whose number lies beyond most; 0 if there is none
unfoldable pub offender : ℕ → List ℕ → List ℤ → ℕ
offender most [] v = 0
offender most (e ∷ es) v = cond (leb (nat_abs (at v e)) most) (offender most es v) e

-- ---- a stage: a move, out(e) = in(source e), or a weighing, whose weights count in 1/scale; order is the recovery order
pub data Stage : Type 0 where
  move : (scale : ℕ) (source : ℕ → ℕ) → Stage
  weigh : (scale : ℕ) (sign : ℕ → ℤ) (weight : ℕ → ℕ → ℤ) (order : List ℕ) → Stage

unfoldable pub scale : Stage → ℕ
scale (move S p) = S
scale (weigh S d w o) = S

-- the weights of element e, its own left out, and a sum with such weights
unfoldable pub off : (ℕ → ℕ → ℤ) → ℕ → ℕ → ℤ
off w e k = cond (eqb e k) (pos 0) (w e k)

unfoldable pub weighed : ℕ → (ℕ → ℤ) → List ℤ → ℤ
weighed N u v = sum N (λ k. u k *ℤ at v k)

-- every one of the first n weights is a multiple of S
unfoldable pub multiples : ℕ → ℕ → (ℕ → ℤ) → Bool
multiples S zero u = true
multiples S (suc n) u = cond (eqb (nat_abs (u n) % S) 0) (multiples S n u) false

-- "The inverse puts y(i) at p(i)", for each i below n
unfoldable pub put_back : ℕ → (ℕ → ℕ) → List ℤ → List ℤ
put_back zero p v = v
put_back (suc i) p v = set (put_back i p v) (p i) (at v i)

module _ (rule : Rule) (N : ℕ) where
  -- "y(m) = d(m)·x(m) + R(sum of a(m,k)·x(k))", every element from the old list
  unfoldable pub forward : Stage → List ℤ → List ℤ
  forward (move S p) v = fill N (λ e. at v (p e)) v
  forward (weigh S d w o) v = fill N (λ e. (d e *ℤ at v e) +ℤ R rule S (weighed N (off w e) v)) v

  -- "x(m) = d(m)·(y(m) - R(same sum of recovered x))", along the recovery order, recovered numbers in place of spent ones
  unfoldable pub recover : ℕ → (ℕ → ℤ) → (ℕ → ℕ → ℤ) → List ℕ → List ℤ → List ℤ
  recover S d w [] v = v
  recover S d w (e ∷ es) v = recover S d w es (set v e (d e *ℤ (at v e -ℤ R rule S (weighed N (off w e) v))))

  unfoldable pub undo : Stage → List ℤ → List ℤ
  undo (move S p) v = put_back N p v
  undo (weigh S d w o) v = recover S d w o v

  -- "a row gets b(m) + ceiling of (sum of |a(m,k)|·b(k) / 4096), plus 2048 if any entry of that row off the diagonal is no
  -- multiple of 4096"
  unfoldable pub allow : Stage → List ℤ → List ℤ
  allow (move S p) b = fill N (λ e. at b (p e)) b
  allow (weigh S d w o) b =
      fill N
      (λ e.
      (at b e +ℤ ceiling S (weighed N (λ k. pos (nat_abs (off w e k))) b))
      +ℤ cond (multiples S N (off w e)) (pos 0) (pos (share rule)))
      b

-- "scale every factor, permutations and signs too, without rounding"
unfoldable pub exact : ℕ → Stage → List ℤ → List ℤ
exact N (move S p) x = fill N (λ e. pos S *ℤ at x (p e)) x
exact N (weigh S d w o) x = fill N (λ e. (pos S *ℤ (d e *ℤ at x e)) +ℤ weighed N (off w e) x) x

-- ---- runs
-- "Stage 0 is the input; stage s is the vector after s factors": the last list, or the first stage that is refused and an element
-- of it
pub data Ran : Type 0 where
  done : List ℤ → Ran
  beyond : (stage element : ℕ) → Ran

-- a refusal n stages later
unfoldable pub later : ℕ → Ran → Ran
later n (done v) = done v
later n (beyond s e) = beyond (n + s) e

-- "A run is refused exactly if some stage has a number beyond the bound, at the first such stage". `name` gives the element of
-- the list as it stands, `names s` that of a list after stage s
module _ (ok : List ℤ → Bool) (step : Stage → List ℤ → List ℤ) (names : Stage → List ℤ → ℕ) where
  unfoldable pub run : (List ℤ → ℕ) → List Stage → List ℤ → Ran
  run name [] v = cond (ok v) (done v) (beyond 0 (name v))
  run name (s ∷ ss) v = cond (ok v) (later 1 (run (names s) ss (step s v))) (beyond 0 (name v))

-- the same, nothing tested
unfoldable pub through : (Stage → List ℤ → List ℤ) → List Stage → List ℤ → List ℤ
through step [] v = v
through step (s ∷ ss) v = through step ss (step s v)

-- the recovery order of a stage; that of a move cannot be seen: it makes no number
unfoldable pub recovery : ℕ → Stage → List ℕ
recovery N (move S p) = up_to N
recovery N (weigh S d w o) = o

-- R-7: "in a forward run and at stage 0 the first offending element in reading order, in an inverse run the first in 01's
-- recovery order for that factor"
abbrev pub first_read : ℕ → List ℤ → ℕ
first_read N v = offender bound (up_to N) v

abbrev pub first_recovered : ℕ → Stage → List ℤ → ℕ
first_recovered N s v = offender bound (recovery N s) v

module _ (rule : Rule) (N : ℕ) (ss : List Stage) where
  unfoldable pub run_forward : List ℤ → Ran
  run_forward x = run (inside bound N) (forward rule N) (λ s. first_read N) (first_read N) ss x

  -- the last factor is undone first
  unfoldable pub run_inverse : List ℤ → Ran
  run_inverse y = run (inside bound N) (undo rule N) (first_recovered N) (first_read N) (reverse ss) y

  -- "All allowances start at 0"; refused at the first stage with one above the limit; R-7: the element "is 0 in every other
  -- answer"
  unfoldable pub run_allowance : Ran
  run_allowance = run (inside most_allowance N) (allow rule N) (λ s v. 0) (λ v. 0) ss (replicate N (pos 0))

-- "giving E at scale D"
unfoldable pub exact_product : ℕ → List Stage → List ℤ → List ℤ
exact_product N ss x = through (exact N) ss x

unfoldable pub exact_scale : List Stage → ℕ
exact_scale [] = 1
exact_scale (s ∷ ss) = scale s * exact_scale ss
