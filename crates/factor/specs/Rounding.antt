-- THE ROUNDING RULES as the code computes them: something is added, and a shift takes the floor. How large a rounded number
-- becomes; a sign by its test.
use Rattle.std.specs.Prelude.{Bool, ◌≡◌, refl, ℕ, ◌+◌, ◌*◌, ◌-◌, ◌^◌, ◌/◌, ◌%◌, ◌≤◌, ◌<◌, ℤ, nat_abs, ◌+ℤ◌, ◌-ℤ◌, ◌*ℤ◌, ◌≤ℤ◌, ◌<ℤ◌}
use Rattle.std.proofs.Math.Bool.{true, false}
use Rattle.std.proofs.Common.{inl, inr, sym, ap, ◌∙◌, arith}
use Rattle.std.proofs.Math.Decide.{dec_lt}
use Rattle.std.proofs.Math.Nat.{mod-lt}
use borrow.Author.Tests.{eq-eqb}
use Rattle.std.proofs.Math.IntN.{pos}
use Rattle.std.specs.Int.Signed.{shr_z, lt_z}
use Rattle.whole.specs.Diff.{lia, given₁, given₃, Within}
use Rattle.whole.specs.Stated.{Sign}
use Rattle.whole.specs.Floor.{shr-lo, shr-hi, shr-unique, over-next}
use Rattle.whole.specs.Laws.{distrib}
use Rattle.whole.specs.Machine.{within-le, within-+, within-pos, within-shr}
use Rattle.whole.specs.Parity.{next-parity}
use Rattle.rules.specs.declared.Rule.{Rule}
use Rattle.rules.specs.declared.Rule.TheVariants.{Nearest, Down, Even}
use Rattle.rules.specs.Numbers.{unit²}
use Rattle.rules.specs.Stages.{R, Rounds, share}
use Rattle.rules.proofs.Laws.Rounding.{rounds, rounds-only}
use Rattle.laws.specs.Tests.{apart}

-- ---- a rule by two tests: whether sums go down, and whether halves go to the even number
unfoldable pub rule_by : Bool → Bool → Rule
rule_by down true = Even
rule_by true false = Down
rule_by false false = Nearest

unfoldable pub is_down : Rule → Bool
is_down Nearest = false
is_down Down = true
is_down Even = false

unfoldable pub to_evens : Rule → Bool
to_evens Nearest = false
to_evens Down = false
to_evens Even = true

pub by_tests : (rule : Rule) → rule_by (is_down rule) (to_evens rule) ≡ rule
unfolding rule_by is_down to_evens
by_tests Nearest = refl
by_tests Down = refl
by_tests Even = refl

-- ---- what is added to a sum, whose floor is q, where half is half of its scale
unfoldable pub lift_by : Bool → Bool → ℕ → ℤ → ℕ
lift_by down true half q = (half - 1) + nat_abs q % 2
lift_by true false half q = 0
lift_by false false half q = half

-- what is rounded leaves room for two scales in 64 bits, and the floor of it has 40
abbrev pub most_roundable : ℕ
most_roundable = 2 ^ 63 - 2 * unit²

abbrev pub most_floor : ℕ
most_floor = 2 ^ 39 - 1

-- k more S in the sum is k more in what it is rounded to
past-lo : (S : ℕ) (r t k : ℤ) → (pos S *ℤ r) ≤ℤ t → (pos S *ℤ (r -ℤ k)) ≤ℤ (t -ℤ (pos S *ℤ k))
past-lo S r t k lo = given₁ lo (simp distrib (simp lia (omega arith)))

past-hi : (S : ℕ) (r t k : ℤ) → t <ℤ (pos S *ℤ r +ℤ pos S) → (t -ℤ (pos S *ℤ k)) <ℤ (pos S *ℤ (r -ℤ k) +ℤ pos S)
past-hi S r t k hi = given₁ hi (simp distrib (simp lia (omega arith)))

past_off : (S : ℕ) (s r k : ℤ) → (s -ℤ (pos S *ℤ k)) -ℤ (pos S *ℤ (r -ℤ k)) ≡ s -ℤ (pos S *ℤ r)
past_off S s r k = simp distrib (simp lia (omega arith))

no_more : (s : ℤ) → s +ℤ pos 0 ≡ s
no_more s = simp lia (omega arith)

swap : (s k : ℤ) (a : ℕ) → (s -ℤ k) +ℤ pos a ≡ (s +ℤ pos a) -ℤ k
swap s k a = simp lia (omega arith)

-- a floor q of s / S, and a more than s: it stays at q, or goes on to the next
module _ (S : ℕ) (s q : ℤ) (lo : (pos S *ℤ q) ≤ℤ s) (hi : s <ℤ (pos S *ℤ q +ℤ pos S)) where
  stays : (a : ℕ) → nat_abs (s -ℤ (pos S *ℤ q)) + a < S → shr_z (s +ℤ pos a) S ≡ q
  stays a l =
      shr-unique (s +ℤ pos a) S q (given₁ lo (simp lia (omega arith))) (given₃ lo hi l (simp lia (omega arith)))

  goes_on : (a : ℕ) → a ≤ S → S ≤ nat_abs (s -ℤ (pos S *ℤ q)) + a → shr_z (s +ℤ pos a) S ≡ q +ℤ pos 1
  goes_on a m l =
      shr-unique (s +ℤ pos a) S (q +ℤ pos 1) (given₃ lo hi l (simp lia (omega arith))) (given₁ hi (simp lia (omega (arith, m))))

-- halves to the number that is even without k
module _ (S : ℕ) (s k : ℤ) (h : 0 < S) (two : S % 2 ≡ 0) where
  abbrev floor : ℤ
  floor = shr_z s S

  abbrev parity : ℕ
  parity = nat_abs (floor -ℤ k) % 2

  abbrev over : ℕ
  over = nat_abs (s -ℤ (pos S *ℤ floor))

  both : nat_abs (s -ℤ (pos S *ℤ (floor +ℤ pos 1))) + over ≡ S
  both = over-next S s floor (shr-lo s S h) (shr-hi s S h)

  even-stays : over + ((S / 2 - 1) + parity) < S → Rounds Even S (s -ℤ (pos S *ℤ k)) (floor -ℤ k)
  unfolding Rounds
  even-stays l =
      rw (past_off S s floor k)
      (omega (arith, l, two), λ x. eq-eqb parity 0 (omega (arith, l, two, x)))

  even-goes-on : S ≤ over + ((S / 2 - 1) + parity) → Rounds Even S (s -ℤ (pos S *ℤ k)) ((floor +ℤ pos 1) -ℤ k)
  unfolding Rounds
  even-goes-on l =
      rw (past_off S s (floor +ℤ pos 1) k) (
        omega (arith, l, two, both, small),
        λ x. eq-eqb (nat_abs
            ((floor +ℤ pos 1) -ℤ k) % 2) 0 (rw turned (even x)),
      )
    where
      small : parity < 2
      small = mod-lt (nat_abs (floor -ℤ k)) (omega arith)

      turned : (floor +ℤ pos 1) -ℤ k ≡ (floor -ℤ k) +ℤ pos 1
      turned = simp lia (omega arith)

      even : 2 * nat_abs (s -ℤ (pos S *ℤ (floor +ℤ pos 1))) ≡ S → nat_abs ((floor -ℤ k) +ℤ pos 1) % 2 ≡ 0
      even x = omega (arith, next-parity (floor -ℤ k), x, l, two, both)

  even-past : Dec (over + ((S / 2 - 1) + parity) < S) →
      Rounds Even S (s -ℤ (pos S *ℤ k)) (shr_z (s +ℤ pos ((S / 2 - 1) + parity)) S -ℤ k)
  even-past (yes l) = rw (stays S s floor (shr-lo s S h) (shr-hi s S h) ((S / 2 - 1) + parity) l) (even-stays l)
  even-past (no l) =
      rw (goes_on S s floor (shr-lo s S h) (shr-hi s S h) ((S / 2 - 1) + parity) (omega (arith, small, two)) (omega arith))
      (even-goes-on (omega arith))
    where
      small : parity < 2
      small = mod-lt (nat_abs (floor -ℤ k)) (omega arith)

  abbrev result : Bool → Bool → ℤ
  result down even = shr_z (s +ℤ pos (lift_by down even (S / 2) (floor -ℤ k))) S

  past-rounds : (down even : Bool) → Rounds (rule_by down even) S (s -ℤ (pos S *ℤ k)) (result down even -ℤ k)
  unfolding rule_by lift_by Rounds
  past-rounds false false =
      let t = s +ℤ pos (S / 2) in
      rw (swap s (pos S *ℤ k) (S / 2))
      (past-lo S (shr_z t S) t k (shr-lo t S h), past-hi S (shr_z t S) t k (shr-hi t S h))
  past-rounds true false =
      rw (no_more s) (past-lo S floor s k (shr-lo s S h), past-hi S floor s k (shr-hi s S h))
  past-rounds down true = even-past (dec_lt (over + ((S / 2 - 1) + parity)) S)

  pub rounds-past : (down even : Bool) → result down even ≡ k +ℤ R (rule_by down even) S (s -ℤ (pos S *ℤ k))
  rounds-past down even =
      let e = rounds-only (rule_by down even) S (s -ℤ (pos S *ℤ k)) _ h (past-rounds down even) in
      given₁ e (simp lia (omega arith))

-- with nothing more in the sum
pub none-past : (rule : Rule) (S : ℕ) (s : ℤ) → pos 0 +ℤ R rule S (s -ℤ (pos S *ℤ pos 0)) ≡ R rule S s
none-past rule S s = rw (nothing S s) (front (R rule S s))
  where
    nothing : (S : ℕ) (z : ℤ) → z -ℤ (pos S *ℤ pos 0) ≡ z
    nothing S z = simp lia (omega arith)

    front : (z : ℤ) → pos 0 +ℤ z ≡ z
    front z = simp lia (omega arith)

pub rounds-as : (S : ℕ) (s : ℤ) → 0 < S → S % 2 ≡ 0 → (down even : Bool) →
    shr_z (s +ℤ pos (lift_by down even (S / 2) (shr_z s S))) S ≡ R (rule_by down even) S s
rounds-as S s h two down even =
    ap (λ (z : ℤ). shr_z (s +ℤ pos (lift_by down even (S / 2) z)) S) (sym (less (shr_z s S)))
    ∙ rounds-past S s (pos 0) h two down even
    ∙ none-past (rule_by down even) S s
  where
    less : (z : ℤ) → z -ℤ pos 0 ≡ z
    less z = simp lia (omega arith)

-- a number that R gives is the one that the rule names
pub rounded : (rule : Rule) (S : ℕ) (s : ℤ) {r : ℤ} → 0 < S → r ≡ R rule S s → (r ≡ R rule S s) × Rounds rule S s r
rounded rule S s h e = (e, rw e (rounds rule S s h))

-- ---- how large a rounded number becomes
pub lift-most : (down even : Bool) (half : ℕ) (q : ℤ) → 0 < half → lift_by down even half q ≤ half
unfolding lift_by
lift-most down true half q h = omega (arith, mod-lt (nat_abs q) two)
  where
    two : 0 < 2
    two = omega arith
lift-most true false half q h = omega arith
lift-most false false half q h = omega arith

pub rounded-within : {M : ℕ} {s : ℤ} (rule : Rule) (S : ℕ) → 0 < S → S % 2 ≡ 0 → Within M s → Within (M + S / 2) (R rule S s)
rounded-within {M} {s} rule S h two w = rw (by_tests rule) at (by (is_down rule) (to_evens rule))
  where
    by : (down even : Bool) → Within (M + S / 2) (R (rule_by down even) S s)
    by down even =
        let a = lift_by down even (S / 2) (shr_z s S) in
        rw (← (rounds-as S s h two down even))
        (within-le (omega (arith, lift-most down even (S / 2) (shr_z s S) (omega (arith, h, two))))
        (within-shr S (within-+ w (within-pos a))))

pub floor-small : {s : ℤ} → Within most_roundable s → Within most_floor (shr_z s unit²)
floor-small {s} w = record {
  within = given₃ (shr-lo s unit² (omega arith)) (shr-hi s unit² (omega arith)) w (simp lia (omega arith));
}

pub share-most : (rule : Rule) → share rule ≤ 4096
unfolding share
share-most Nearest = omega arith
share-most Down = omega arith
share-most Even = omega arith

pub sign_below : {d : ℤ} (z : ℤ) → Sign d → lt_z d (pos 0) ≡ true → d *ℤ z ≡ pos 0 -ℤ z
sign_below z (inl e) t = apart (sym (rw e at t))
sign_below z (inr e) t = rw e (simp lia (omega arith))

pub sign_above : {d : ℤ} (z : ℤ) → Sign d → lt_z d (pos 0) ≡ false → d *ℤ z ≡ z
sign_above z (inl e) t = rw e (simp lia (omega arith))
sign_above z (inr e) t = apart (rw e at t)
