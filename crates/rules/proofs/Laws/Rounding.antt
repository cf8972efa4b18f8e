-- THE ROUNDING RULES, by cases. R gives the number that its rule names, and no other. It obeys the law of a rounding, by which
-- alone the laws of the allowances use it.
use Rattle.std.specs.Prelude.{Bool, cond, ◌≡◌, ℕ, suc, ◌+◌, ◌*◌, ◌/◌, ◌%◌, ◌≤◌, ◌<◌, eqb, leb, ℤ, pos, negsuc, nat_abs, ◌+ℤ◌, ◌-ℤ◌, ◌*ℤ◌, ◌≤ℤ◌, ◌<ℤ◌}
use Rattle.std.proofs.Math.Bool.{true, false}
use Rattle.std.proofs.Math.Path.{refl}
use Rattle.std.proofs.Common.{ap, ◌∙◌, arith}
use borrow.Author.Tests.{eq-eqb, eqb-true, eqb-false, leb-true, leb-false}
use Rattle.std.specs.Int.Signed.{shr_z}
use Rattle.whole.specs.Diff.{lia, given₁, given₂}
use Rattle.whole.specs.Floor.{shr-lo, shr-hi, shr-unique, over-next}
use Rattle.whole.specs.Parity.{next-parity}
use Rattle.rules.specs.declared.Rule.{Rule}
use Rattle.rules.specs.declared.Rule.TheVariants.{Nearest, Down, Even}
use Rattle.rules.specs.Numbers.{unit, unit²}
use Rattle.rules.specs.Stages.{is_even, to_even, R, Rounds, share}
use Rattle.rules.proofs.Laws.SoundFactors.{Rounding}

-- ---- R gives what its rule names
next-even : (q : ℤ) → is_even q ≡ false → is_even (q +ℤ pos 1) ≡ true
next-even q h = eq-eqb (nat_abs (q +ℤ pos 1) % 2) 0 (go (eqb-false (nat_abs q % 2) 0 h))
  where
    go : (nat_abs q % 2 ≡ 0 → ⊥) → nat_abs (q +ℤ pos 1) % 2 ≡ 0
    go d = omega (arith, next-parity q)

not-both : (q : ℤ) → is_even q ≡ true → is_even (q +ℤ pos 1) ≡ true → ⊥
not-both q a b = omega (arith, next-parity q, eqb-true (nat_abs q % 2) 0 a, eqb-true (nat_abs (q +ℤ pos 1) % 2) 0 b)

module _ (S : ℕ) (s q : ℤ) (lo : (pos S *ℤ q) ≤ℤ s) (hi : s <ℤ (pos S *ℤ q +ℤ pos S)) where
  -- what is left over q; with what is missing to q + 1 it is S
  abbrev over : ℕ
  over = nat_abs (s -ℤ (pos S *ℤ q))

  both : nat_abs (s -ℤ (pos S *ℤ (q +ℤ pos 1))) + over ≡ S
  both = over-next S s q lo hi

  even-by : (half even below : Bool) → eqb (2 * over) S ≡ half → is_even q ≡ even → leb (2 * over) S ≡ below →
      Rounds Even S s (cond half (cond even q (q +ℤ pos 1)) (cond below q (q +ℤ pos 1)))
  unfolding Rounds
  even-by true true below h e b = (omega (arith, eqb-true (2 * over) S h), λ x. e)
  even-by true false below h e b = (omega (arith, eqb-true (2 * over) S h, both), λ x. next-even q e)
  even-by false even true h e b = (leb-true (2 * over) S b, λ x. absurd (eqb-false (2 * over) S h x))
  even-by false even false h e b =
      (omega (arith, leb-false (2 * over) S b, both), λ x. absurd (omega (arith, leb-false (2 * over) S b, both)))

  pub even-rounds : Rounds Even S s (to_even S s q)
  unfolding to_even
  even-rounds = even-by (eqb (2 * over) S) (is_even q) (leb (2 * over) S) refl refl refl

  -- no other number is within a half and even at it
  floor-is : (half even below : Bool) → eqb (2 * over) S ≡ half → is_even q ≡ even → leb (2 * over) S ≡ below →
      Rounds Even S s q → cond half (cond even q (q +ℤ pos 1)) (cond below q (q +ℤ pos 1)) ≡ q
  unfolding Rounds
  floor-is true true below h e b f = refl
  floor-is true false below h e b f =
      absurd (eqb-false (nat_abs q % 2) 0 e (eqb-true (nat_abs q % 2) 0 (f.1 (eqb-true (2 * over) S h))))
  floor-is false even true h e b f = refl
  floor-is false even false h e b f = absurd (omega (arith, leb-false (2 * over) S b, f.0))

  next-is : (half even below : Bool) → eqb (2 * over) S ≡ half → is_even q ≡ even → leb (2 * over) S ≡ below →
      Rounds Even S s (q +ℤ pos 1) → cond half (cond even q (q +ℤ pos 1)) (cond below q (q +ℤ pos 1)) ≡ q +ℤ pos 1
  unfolding Rounds
  next-is true true below h e b f =
      absurd (not-both q e (f.1 (omega (arith, eqb-true (2 * over) S h, both))))
  next-is true false below h e b f = refl
  next-is false even true h e b f = absurd (eqb-false (2 * over) S h (omega (arith, leb-true (2 * over) S b, f.0, both)))
  next-is false even false h e b f = refl

  pub even-floor : Rounds Even S s q → to_even S s q ≡ q
  unfolding to_even
  even-floor = floor-is (eqb (2 * over) S) (is_even q) (leb (2 * over) S) refl refl refl

  pub even-next : Rounds Even S s (q +ℤ pos 1) → to_even S s q ≡ q +ℤ pos 1
  unfolding to_even
  even-next = next-is (eqb (2 * over) S) (is_even q) (leb (2 * over) S) refl refl refl

-- a number within a half of s / S is the floor, if it is not above, and else the one after it
even-only : (S : ℕ) (s r : ℤ) → 0 < S → Rounds Even S s r → (z : ℤ) → s -ℤ (pos S *ℤ r) ≡ z → to_even S s (shr_z s S) ≡ r
unfolding Rounds
even-only S s r h f (pos n) e = rw (shr-unique s S r lo hi) (even-floor S s r lo hi f)
  where
    small : 2 * n ≤ S
    small = rw e at f.0

    lo : (pos S *ℤ r) ≤ℤ s
    lo = given₁ e (simp lia (omega arith))

    hi : s <ℤ (pos S *ℤ r +ℤ pos S)
    hi = given₁ e (simp lia (omega (arith, small)))
even-only S s r h f (negsuc n) e =
    rw (shr-unique s S (r -ℤ pos 1) lo hi) (even-next S s (r -ℤ pos 1) lo hi (rw again f) ∙ again)
  where
    again : (r -ℤ pos 1) +ℤ pos 1 ≡ r
    again = simp lia (omega arith)

    small : 2 * suc n ≤ S
    small = rw e at f.0

    lo : (pos S *ℤ (r -ℤ pos 1)) ≤ℤ s
    lo = given₁ e (simp lia (omega (arith, small)))

    hi : s <ℤ (pos S *ℤ (r -ℤ pos 1) +ℤ pos S)
    hi = given₁ e (simp lia (omega (arith, small)))

pub rounds : (rule : Rule) (S : ℕ) (s : ℤ) → 0 < S → Rounds rule S s (R rule S s)
unfolding R Rounds
rounds Nearest S s h = (shr-lo (s +ℤ pos (S / 2)) S h, shr-hi (s +ℤ pos (S / 2)) S h)
rounds Down S s h = (shr-lo s S h, shr-hi s S h)
rounds Even S s h = even-rounds S s (shr_z s S) (shr-lo s S h) (shr-hi s S h)

pub rounds-only : (rule : Rule) (S : ℕ) (s r : ℤ) → 0 < S → Rounds rule S s r → R rule S s ≡ r
unfolding R Rounds
rounds-only Nearest S s r h (lo, hi) = shr-unique (s +ℤ pos (S / 2)) S r lo hi
rounds-only Down S s r h (lo, hi) = shr-unique s S r lo hi
rounds-only Even S s r h b = even-only S s r h b (s -ℤ (pos S *ℤ r)) refl

-- ---- the law of a rounding
near : (rule : Rule) (S : ℕ) (s r : ℤ) → Rounds rule S s r → unit * nat_abs ((pos S *ℤ r) -ℤ s) ≤ share rule * S
unfolding Rounds share
near Nearest S s r (lo, hi) = given₂ lo hi (simp lia (omega arith))
near Down S s r (lo, hi) = given₂ lo hi (simp lia (omega arith))
near Even S s r (l, e) = omega (arith, l, turned)
  where
    turned : nat_abs ((pos S *ℤ r) -ℤ s) ≡ nat_abs (s -ℤ (pos S *ℤ r))
    turned = simp lia (omega arith)

whole : (rule : Rule) (S : ℕ) (q : ℤ) → 0 < S → Rounds rule S (pos S *ℤ q) q
unfolding Rounds
whole Nearest S q h = (simp lia (omega arith), simp lia (omega arith))
whole Down S q h = (simp lia (omega arith), simp lia (omega arith))
whole Even S q h = (omega (arith, none), λ x. absurd (omega (arith, none)))
  where
    none : nat_abs ((pos S *ℤ q) -ℤ (pos S *ℤ q)) ≡ 0
    none = simp lia (omega arith)

pub rounding : (rule : Rule) → Rounding (R rule) (share rule)
rounding rule = record {
  near = λ S s h. near rule S s (R rule S s) (rounds rule S s h);
  whole = λ S q h. rounds-only rule S (pos S *ℤ q) q h (whole rule S q h);
}

pub rounds-nothing : (rule : Rule) (S : ℕ) → 0 < S → R rule S (pos 0) ≡ pos 0
rounds-nothing rule S h = ap (R rule S) none ∙ (rounding rule).whole S (pos 0) h
  where
    none : pos 0 ≡ pos S *ℤ pos 0
    none = simp lia (omega arith)

-- ---- a sum at the scale of a line rounds as the same sum at that of a rectangle
scaled : (rule : Rule) (t r : ℤ) → Rounds rule unit t r → Rounds rule unit² (pos unit *ℤ t) r
unfolding Rounds
scaled Nearest t r (lo, hi) = (given₁ lo (simp lia (omega arith)), given₁ hi (simp lia (omega arith)))
scaled Down t r (lo, hi) = (given₁ lo (simp lia (omega arith)), given₁ hi (simp lia (omega arith)))
scaled Even t r (close, even) = (omega (arith, off, close), λ e. even (omega (arith, off, e)))
  where
    off : nat_abs ((pos unit *ℤ t) -ℤ (pos unit² *ℤ r)) ≡ unit * nat_abs (t -ℤ (pos unit *ℤ r))
    off = simp lia (omega arith)

pub rounds-scaled : (rule : Rule) (t : ℤ) → R rule unit² (pos unit *ℤ t) ≡ R rule unit t
rounds-scaled rule t =
    rounds-only rule unit² (pos unit *ℤ t) (R rule unit t) (omega arith)
    (scaled rule t (R rule unit t) (rounds rule unit t (omega arith)))
