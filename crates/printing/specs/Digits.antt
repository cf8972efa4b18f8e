-- DIGITS AND LINES: laws for the turns of the loops that write them.
use Rattle.std.specs.Prelude.{Bool, true, false, List, [], ◌∷◌, ◌++◌, ◌≡◌, refl, ℕ, zero, suc, ◌+◌, ◌/◌, ◌%◌, ◌≤◌, ◌<◌, max, ℤ, pos, negsuc, nat_abs, length, get_or, take}
use Rattle.std.proofs.Common.{append_assoc, append-nil, add-one, arith, le-leb, ltb-true, eq-eqb, ne_eqb, take-suc}
use Rattle.std.proofs.lemmas.Bool.{lt-leb}
use Rattle.std.specs.Int.Signed.{lt_z}
use Rattle.rules.specs.declared.Answer.{Answer}
use Rattle.rules.specs.Numbers.{at}
use Rattle.printing.specs.Program.{powers, power, digit_at, digits, decimal, spaced, line_of, say_refused, refusal, replied}

-- ---- every power is 1 at least
positive : List ℕ → Bool
positive [] = true
positive (zero ∷ l) = false
positive (suc p ∷ l) = positive l

positive-each : (l : List ℕ) → positive l ≡ true → (t : ℕ) → t < length l → 1 ≤ get_or l t 0
unfolding positive
positive-each [] h t k = absurd (omega arith)
positive-each (zero ∷ l) h t k = let z : ◌≡◌ {A = ℕ} 0 1 = cc in absurd (omega arith)
positive-each (suc p ∷ l) h zero k = omega arith
positive-each (suc p ∷ l) h (suc t) k = positive-each l h t (omega arith)

pub power-some : (t : ℕ) → t < 20 → 1 ≤ power t
unfolding positive
power-some t k = positive-each powers refl t k

-- ---- one digit
pub digit-none : (p n : ℕ) → max n 1 < p → digit_at p n ≡ []
unfolding digit_at
digit-none p n h = rw (lt-leb p (max n 1) h)

pub digit-one : (p n : ℕ) → p ≤ max n 1 → digit_at p n ≡ (48 + n / p % 10) ∷ []
unfolding digit_at
digit-one p n h = rw (le-leb p (max n 1) h)

pub digits-next : (t n : ℕ) → digits (t + 1) n ≡ digits t n ++ digit_at (power t) n
unfolding digits
digits-next t n = rw add-one

pub digits-none : (n : ℕ) → digits 0 n ≡ []
unfolding digits
digits-none n = refl

-- ---- a number with its sign
pub decimal-below : (z : ℤ) → lt_z z (pos 0) ≡ true → decimal z ≡ (45 ∷ []) ++ digits 20 (nat_abs z)
unfolding decimal
decimal-below (pos n) h = let l : n < 0 = ltb-true n 0 h in absurd (omega arith)
decimal-below (negsuc n) h = refl

pub decimal-above : (z : ℤ) → lt_z z (pos 0) ≡ false → decimal z ≡ digits 20 (nat_abs z)
unfolding decimal
decimal-above (pos n) h = refl
decimal-above (negsuc n) h = let z : ◌≡◌ {A = ℕ} 0 1 = cc in absurd (omega arith)

pub decimal-count : (n : ℕ) → decimal (pos n) ≡ digits 20 n
unfolding decimal
decimal-count n = refl

-- ---- numbers, each after a blank
spaced-append : (a b : List ℤ) → spaced (a ++ b) ≡ spaced a ++ spaced b
unfolding spaced
spaced-append [] b = refl
spaced-append (z ∷ a) b = rw (spaced-append a b, append_assoc)

pub spaced-none : spaced [] ≡ []
unfolding spaced
spaced-none = refl

spaced-one : (z : ℤ) → spaced (z ∷ []) ≡ 32 ∷ decimal z
unfolding spaced
spaced-one z = append-nil (32 ∷ decimal z)

pub spaced-next : (v : List ℤ) (k : ℕ) → k < length v → spaced (take (k + 1) v) ≡ spaced (take k v) ++ (32 ∷ decimal (at v k))
spaced-next v k h = rw (add-one, take-suc v k (pos 0) h, spaced-append, spaced-one)

pub word_next : (w : List ℕ) (k : ℕ) → k < length w → take (k + 1) w ≡ take k w ++ (get_or w k 0 ∷ [])
word_next w k h = rw (add-one, take-suc w k 0 h)

-- ---- lines
pub line-is : (w : List ℕ) (v : List ℤ) → w ++ (spaced v ++ (10 ∷ [])) ≡ line_of w v
unfolding line_of
line-is w v = refl

three : (w a b c e : List ℕ) → w ++ (a ++ (b ++ (c ++ e))) ≡ w ++ ((a ++ (b ++ (c ++ []))) ++ e)
three w a b c e = simp (append-nil, append_assoc)

pub refusal_is : (a : Answer)
    → say_refused
    ++ ((32 ∷ decimal (pos a.number)) ++ ((32 ∷ decimal (pos a.side)) ++ ((32 ∷ decimal (pos a.place)) ++ (10 ∷ []))))
    ≡ refusal a
unfolding refusal line_of spaced
refusal_is a =
    three say_refused (32 ∷ decimal (pos a.number)) (32 ∷ decimal (pos a.side)) (32 ∷ decimal (pos a.place)) (10 ∷ [])

module _ (w : List ℕ) (a : Answer) (m : List ℤ) where
  pub replied-refused : (a.number ≡ 0 → ⊥) → replied w (record { answer = a; memory = m }) ≡ refusal a
  unfolding replied
  replied-refused h = rw (ne_eqb a.number 0 h)

  pub replied-numbers : a.number ≡ 0 → replied w (record { answer = a; memory = m }) ≡ line_of w m
  unfolding replied
  replied-numbers h = rw (eq-eqb a.number 0 h)
