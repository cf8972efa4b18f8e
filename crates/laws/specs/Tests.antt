-- Laws of the tests on whole numbers: what a test that holds, or fails, says of its numbers.
-- Assumes nothing.
use Rattle.std.specs.Prelude.{Bool, true, false, cond, List, ◌≡◌, refl, ℕ, zero, suc, ◌+◌, ◌-◌, ◌*◌, ◌/◌, ◌≤◌, ◌<◌, T, ltb, leb, ℤ, pos, negsuc, neg_ℤ, nat_abs}
use Rattle.std.proofs.Common.{sym, ap, ◌∙◌, subst, add-zero, add-suc, le_refl, arith, ltb-true, ltb-false, eqb-true, leb-true, eq-eqb, le-leb}
use Rattle.std.proofs.lemmas.Bool.{lt-leb}
use Rattle.std.specs.Int.Signed.{lt_z, le_z, non_neg}
use Rattle.whole.specs.Diff.{Within}
use Rattle.rules.specs.Numbers.{most_order, most_entry, at}
use Rattle.rules.specs.Sheets.{between, below, same, among, unless, triangle}

-- no test both holds and fails
pub apart : {X : Type 0} → true ≡ false → X
apart h = let z : ◌≡◌ {A = ℕ} 0 1 = cc in let y : ⊥ = omega arith in absurd y

-- ---- orders
pub lt-le_z : (a b : ℤ) → lt_z a b ≡ true → le_z b a ≡ false
lt-le_z (pos a) (pos b) h = lt-leb b a (ltb-true a b h)
lt-le_z (pos a) (negsuc b) h = apart (sym h)
lt-le_z (negsuc a) (pos b) h = refl
lt-le_z (negsuc a) (negsuc b) h = lt-leb a b (ltb-true b a h)

pub le-le_z : (a b : ℤ) → lt_z a b ≡ false → le_z b a ≡ true
le-le_z (pos a) (pos b) h = le-leb b a (ltb-false a b h)
le-le_z (pos a) (negsuc b) h = refl
le-le_z (negsuc a) (pos b) h = apart h
le-le_z (negsuc a) (negsuc b) h = le-leb a b (ltb-false b a h)

-- 0 or more, as a test says it
pub non_neg-yes : (z : ℤ) → lt_z z (pos 0) ≡ false → T (non_neg z)
non_neg-yes (pos n) h = tt
non_neg-yes (negsuc n) h = apart h

-- ---- below
pub below_none : (n : ℕ) (z : ℤ) → lt_z z (pos 0) ≡ true → below n z ≡ false
below_none n (pos m) h =
    let l : m < 0 = ltb-true m 0 h in
    let y : ⊥ = omega arith in absurd y
below_none n (negsuc m) h = refl

pub below-abs : (n : ℕ) (z : ℤ) → T (non_neg z) → below n z ≡ ltb (nat_abs z) n
below-abs n (pos m) h = refl
below-abs n (negsuc m) h = absurd h

pub below-is : (n : ℕ) (z : ℤ) → below n z ≡ true → T (non_neg z) × (nat_abs z < n)
below-is n (pos m) h = (tt, ltb-true m n h)
below-is n (negsuc m) h = apart (sym h)

-- ---- same
pub same_refl : (a : ℤ) → same a a ≡ true
same_refl (pos a) = eq-eqb a a refl
same_refl (negsuc a) = eq-eqb a a refl

pub same-eq : (a b : ℤ) → same a b ≡ true → a ≡ b
same-eq (pos a) (pos b) h = ap pos (eqb-true a b h)
same-eq (pos a) (negsuc b) h = apart (sym h)
same-eq (negsuc a) (pos b) h = apart (sym h)
same-eq (negsuc a) (negsuc b) h = ap negsuc (eqb-true a b h)

-- a test that holds exactly if the numbers are equal
pub same_by : (t : Bool) (a b : ℤ) → (t ≡ true → a ≡ b) → (a ≡ b → t ≡ true) → t ≡ same a b
same_by true a b f g = sym (subst (λ (x : ℤ). same a x ≡ true) (f refl) (same_refl a))
same_by false a b f g = go (same a b) (same-eq a b)
  where
    go : (u : Bool) → (u ≡ true → a ≡ b) → false ≡ u
    go true h = g (h refl)
    go false h = refl

-- numbers that are 0 or more are equal if their sizes are
pub natural-eq : (a b : ℤ) → T (non_neg a) → T (non_neg b) → nat_abs a ≡ nat_abs b → a ≡ b
natural-eq (pos a) (pos b) p q h = ap pos h
natural-eq (pos a) (negsuc b) p q h = absurd q
natural-eq (negsuc a) b p q h = absurd p

-- ---- tests in a row
pub unless-true : (b : Bool) (f : ℕ) → unless b (suc f) ≡ 0 → b ≡ true
unless-true true f h = refl
unless-true false f h = let y : ⊥ = omega arith in absurd y

pub both_true : (a b : Bool) → cond a b false ≡ true → (a ≡ true) × (b ≡ true)
both_true true b h = (refl, h)
both_true false b h = apart (sym h)

-- a natural number from a to b
pub record Ranged (a b : ℕ) (z : ℤ) : Type 0 where
  pub natural : T (non_neg z)
  pub least : a ≤ nat_abs z
  pub most : nat_abs z ≤ b

pub ranged : (a b f : ℕ) (z : ℤ) → unless (between (pos a) (pos b) z) (suc f) ≡ 0 → Ranged a b z
ranged a b f (pos m) h =
    let t = both_true (leb a m) (leb m b) (unless-true _ f h) in
    record { natural = tt; least = leb-true a m t.0; most = leb-true m b t.1 }
ranged a b f (negsuc m) h = apart (sym (unless-true false f h))

-- an entry's test
pub entry-within : (z : ℤ) → unless (between (neg_ℤ (pos most_entry)) (pos most_entry) z) 8 ≡ 0 → Within most_entry z
entry-within (pos m) h = record { within = leb-true m most_entry (unless-true (leb m most_entry) 7 h) }
entry-within (negsuc m) h =
    let t = both_true (leb m 16383) true (unless-true _ 7 h) in
    let l = leb-true m 16383 t.0 in
    record { within = omega arith }

-- ---- among: a loop over the numbers from k to e
pub among_none : (s : List ℤ) (z : ℤ) (k e : ℕ) → e ≤ k → among s z k (e - k) ≡ false
unfolding among
among_none s z k e h = let d : e - k ≡ 0 = omega arith in rw d

pub among-here : (s : List ℤ) (z : ℤ) (k e : ℕ) → k < e → same (at s k) z ≡ true → among s z k (e - k) ≡ true
unfolding among
among-here s z k e h t = let d : e - k ≡ suc (e - (k + 1)) = omega arith in rw (d, t)

pub among-on :
    (s : List ℤ) (z : ℤ) (k e : ℕ) → k < e → same (at s k) z ≡ false →
    among s z k (e - k) ≡ among s z (k + 1) (e - (k + 1))
unfolding among
among-on s z k e h t = let d : e - k ≡ suc (e - (k + 1)) = omega arith in rw (d, t)

-- a number that is not among others is none of them
pub among-other :
    (s : List ℤ) (z : ℤ) (i m j : ℕ) → among s z i m ≡ false → j < m → at s (i + j) ≡ z → ⊥
unfolding among
among-other s z i zero j h l e = omega arith
among-other s z i (suc m) j h l e = split (λ j. among-other s z (i + 1) m j) (same (at s i) z) refl h j l e
  where
    split :
        ((j : ℕ) → among s z (i + 1) m ≡ false → j < m → at s (i + 1 + j) ≡ z → ⊥) →
        (b : Bool) → same (at s i) z ≡ b → cond b true (among s z (i + 1) m) ≡ false →
        (j : ℕ) → j < suc m → at s (i + j) ≡ z → ⊥
    split again true t h j l e = apart h
    split again false t h zero l e =
        apart (sym (same_refl z) ∙ ap (λ (x : ℤ). same x z) (sym e ∙ ap (at s) (add-zero i)) ∙ t)
    split again false t h (suc j) l e =
        let p : i + 1 + j ≡ i + suc j = omega arith in
        again j h (omega arith) (ap (at s) p ∙ e)

-- ---- the entries on one side of the diagonal
pub triangle-twice : (n : ℕ) → triangle n + triangle n + n ≡ n * n
unfolding triangle
triangle-twice zero = refl
triangle-twice (suc n) = omega (arith, triangle-twice n)

pub triangle-half : (n : ℕ) → 1 ≤ n → n * (n - 1) / 2 ≡ triangle n
triangle-half zero h = elim h [ ]
triangle-half (suc n) h =
    let d : suc n - 1 ≡ n = omega arith in
    let e : suc n * n ≡ triangle (suc n) * 2 = omega (arith, triangle-twice (suc n)) in
    rw (d, e) (omega arith)

pub triangle-more : (n d : ℕ) → triangle n ≤ triangle (n + d)
unfolding triangle
triangle-more n zero = rw add-zero (le_refl (triangle n))
triangle-more n (suc d) = rw add-suc (let h = triangle-more n d in omega arith)

pub triangle-most : (n : ℕ) → n ≤ most_order → triangle n ≤ 120
unfolding triangle
triangle-most n h =
    let e : n + (most_order - n) ≡ most_order = omega arith in
    rw e at (triangle-more n (most_order - n))
