-- THE ENTRIES OF A ROW IN AN ALLOWANCE: magnitudes, and the test for multiples of 4096. Definitions for the code.
use Rattle.std.specs.Prelude.{Bool, true, false, cond, List, ◌≡◌, refl, ℕ, zero, suc, ◌+◌, ◌*◌, ◌%◌, ◌≤◌, ◌<◌, eqb, ℤ, pos, negsuc, nat_abs, ◌-ℤ◌, length, replicate}
use Rattle.std.specs.Prelude.{MatchBool}
use Rattle.std.specs.List.{AllWithin, HoldsAt, between}
use Rattle.std.proofs.Math.Path.{ap₂, sym}
use Rattle.std.proofs.lemmas.List.Edits.{length-between, get_or-between}
use native.Mathlib.Omega.{arith}
use Rattle.std.proofs.Common.{ltb-true}
use Rattle.std.proofs.Math.IntN.{◌+ℤ◌}
use Rattle.std.specs.Int.Signed.{lt_z}
use Rattle.whole.specs.Diff.{lia, Within}
use Rattle.whole.specs.Sum.{sum-cong}
use Rattle.rules.specs.Numbers.{most_order, most_entry, unit, most_allowance, at}
use Rattle.rules.specs.Stages.{fill}
use Rattle.rules.proofs.Laws.Lists.{length-fill, fill-at}
use Rattle.factor.specs.declared.Row.{Row}
use Rattle.factor.specs.Layouts.{row, along}
use Rattle.factor.specs.SumBounds.{Bounded, RowIn, along-small}

-- m entries from place p on
pub record Entries (a : List ℤ) (p m : ℕ) : Type 0 where
  pub room : p + m ≤ length a
  pub few : m ≤ most_order
  pub small : (j : ℕ) → j < m → Within most_entry (at a (p + j))

-- the magnitude of the number at a place
abbrev pub magnitude_at : List ℤ → ℕ → ℤ
magnitude_at a p = pos (nat_abs (at a p))

unfoldable pub magnitudes_of : List ℤ → ℕ → ℕ → List ℤ
magnitudes_of a p m = fill m (λ j. magnitude_at a (p + j)) (replicate most_order (pos 0))

-- every one of m numbers from place p on is a multiple of 4096
unfoldable pub whole : List ℤ → ℕ → ℕ → Bool
whole a p zero = true
whole a p (suc m) = cond (eqb (nat_abs (at a p) % unit) 0) (whole a (p + 1) m) false

-- ---- each of m numbers is one, or one is none
pub whole-all : (a : List ℤ) (p m : ℕ) → ((j : ℕ) → j < m → eqb (nat_abs (at a (p + j)) % unit) 0 ≡ true) → whole a p m ≡ true
unfolding whole
whole-all a p zero h = refl
whole-all a p (suc m) h =
    let e : p + 0 ≡ p = omega arith in
    rw (rw e at (h 0 (omega arith)))
    (whole-all a (p + 1) m (λ j l. let q : p + suc j ≡ p + 1 + j = omega arith in rw q at (h (suc j) (omega arith))))

pub whole-none : (a : List ℤ) (p m j : ℕ) → j < m → eqb (nat_abs (at a (p + j)) % unit) 0 ≡ false → whole a p m ≡ false
unfolding whole
whole-none a p zero j l h = absurd (omega arith)
whole-none a p (suc m) zero l h = let e : p + 0 ≡ p = omega arith in rw (rw e at h)
whole-none a p (suc m) (suc j) l h =
    let q : p + suc j ≡ p + 1 + j = omega arith in
    rw (whole-none a (p + 1) m j (omega arith) (rw q at h)) (either (eqb (nat_abs (at a p) % unit) 0))
  where
    either : (b : Bool) → cond b false false ≡ false
    either true = refl
    either false = refl

-- the test of each of the m numbers by itself
pub whole-told :
    (a : List ℤ) (p m : ℕ) {r : Bool} → p + m ≤ length a →
    MatchBool r
    (AllWithin (λ z. eqb (nat_abs z % unit) 0 ≡ true) (between p (p + m) a) 0 (length (between p (p + m) a)))
    ((k : ℕ) × (k < length (between p (p + m) a)) × HoldsAt (λ z. eqb (nat_abs z % unit) 0 ≡ false) (between p (p + m) a) k) →
    r ≡ whole a p m
whole-told a p m {r} room h = go r h
  where
    many : length (between p (p + m) a) ≡ m
    many = omega (arith, length-between a p (p + m) room)

    go : (r : Bool) →
        MatchBool r
        (AllWithin (λ z. eqb (nat_abs z % unit) 0 ≡ true) (between p (p + m) a) 0 (length (between p (p + m) a)))
        ((k : ℕ) × (k < length (between p (p + m) a))
        × HoldsAt (λ z. eqb (nat_abs z % unit) 0 ≡ false) (between p (p + m) a) k) →
        r ≡ whole a p m
    go true h =
        sym (whole-all a p m (λ j l.
        rw (get_or-between a p (p + m) j (pos 0) (omega arith)) at (h j (pos 0) (omega arith) (omega (arith, many)))))
    go false h =
        let l : h.0 < m = omega (arith, many, h.1) in
        sym (whole-none a p m h.0 l (rw (get_or-between a p (p + m) h.0 (pos 0) (omega arith)) at (h.2 (pos 0))))

-- ---- a magnitude, by the sign
pub below-zero : (z : ℤ) → lt_z z (pos 0) ≡ true → pos 0 -ℤ z ≡ pos (nat_abs z)
below-zero (pos n) h = let l : n < 0 = ltb-true n 0 h in absurd (omega arith)
below-zero (negsuc n) h = simp lia (omega arith)

pub not-below : (z : ℤ) → lt_z z (pos 0) ≡ false → z ≡ pos (nat_abs z)
not-below (pos n) h = refl
not-below (negsuc n) h = let z : ◌≡◌ {A = ℕ} 0 1 = cc in absurd (omega arith)

-- ---- a row's magnitudes, copied side by side
module _ {s : List ℤ} {r : Row} {m : ℕ} (h : RowIn s most_order r m) where
  abbrev many : ℕ
  many = r.left + r.right

  pub row-entries : Entries s r.at (r.left + r.right)
  row-entries = record { room = h.room; few = let a = h.left in let b = h.right in omega arith; small = h.entries }

  abbrev copy : List ℤ
  copy = magnitudes_of s r.at many

  at_copy : (j : ℕ) → j < many → at copy j ≡ magnitude_at s (r.at + j)
  unfolding magnitudes_of
  at_copy j l = fill-at many _ (replicate most_order (pos 0)) j l (let a = row-entries.few in omega arith)

  -- the copy is a row like the one it was made of
  pub magnitudes-row : RowIn (magnitudes_of s r.at (r.left + r.right)) most_order (row 0 r.left r.right) m
  unfolding magnitudes_of
  magnitudes-row = record {
    room =
        let a = row-entries.few in
        omega (arith, length-fill many (λ j. magnitude_at s (r.at + j)) (replicate most_order (pos 0)));
    left = h.left;
    right = h.right;
    entries = λ j l. let e : 0 + j ≡ j = omega arith in rw (e, at_copy j l) (record { within = (h.entries j l).within });
  }

  pub magnitudes-along : (b : List ℤ) →
      along (at (magnitudes_of s r.at (r.left + r.right))) (row 0 r.left r.right) m b ≡ along (magnitude_at s) r m b
  unfolding along
  magnitudes-along b =
      ap₂ ◌+ℤ◌
      (sum-cong r.left _ _ (λ j l. let e : 0 + j ≡ j = omega arith in rw (e, at_copy j (omega arith))))
      (sum-cong r.right _ _
      (λ j l.
      let e : 0 + r.left + j ≡ r.left + j = omega arith in
      let q : r.at + (r.left + j) ≡ r.at + r.left + j = omega arith in rw (e, at_copy (r.left + j) (omega arith), q)))

  pub magnitudes-small : {b : List ℤ} → Bounded most_allowance b →
      Within (32 * (most_entry * most_allowance)) (along (magnitude_at s) r m b)
  magnitudes-small {b} k = rw (← magnitudes-along b) (along-small magnitudes-row k)
