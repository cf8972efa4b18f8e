-- Laws of lists by places: filled and set, tested against a bound, weighed.
use Rattle.std.specs.Prelude.{Bool, true, false, cond, List, ◌≢◌, ◌⊎◌, ◌≡◌, refl, ℕ, zero, suc, ◌%◌, ◌≤◌, ◌<◌, eqb, leb, ℤ, pos, nat_abs, ◌*ℤ◌, length, set}
use Rattle.std.proofs.Common.{inl, inr, sym, ◌∙◌, arith, eq-eqb, ne_eqb, eqb-true, le-leb, length-set, get_or-set_same, get_or-set_other, ext_get_or}
use Rattle.std.proofs.Math.Decide.{ℕ_discrete, dec_lt, dec_le}
use Rattle.std.proofs.lemmas.Bool.{lt-leb}
use Rattle.std.proofs.Math.IntN.{zero-*ℤ}
use Rattle.whole.specs.Diff.{Within}
use Rattle.whole.specs.Sum.{sum-cong}
use Rattle.rules.specs.Numbers.{at}
use Rattle.rules.specs.Stages.{fill, inside, off, weighed, multiples, put_back}
use Rattle.rules.proofs.Laws.Membership.{true-false}

-- ---- fill
pub length-fill : (n : ℕ) (f : ℕ → ℤ) (v : List ℤ) → length (fill n f v) ≡ length v
unfolding fill
length-fill zero f v = refl
length-fill (suc n) f v = length-set (fill n f v) n (f n) ∙ length-fill n f v

pub fill-past : (n : ℕ) (f : ℕ → ℤ) (v : List ℤ) (k : ℕ) → n ≤ k → at (fill n f v) k ≡ at v k
unfolding fill
fill-past zero f v k h = refl
fill-past (suc n) f v k h = get_or-set_other (fill n f v) n k (f n) (pos 0) (λ e. omega arith) ∙ fill-past n f v k (omega arith)

pub fill-at : (n : ℕ) (f : ℕ → ℤ) (v : List ℤ) (k : ℕ) → k < n → n ≤ length v → at (fill n f v) k ≡ f k
unfolding fill
fill-at zero f v k h l = absurd (omega arith)
fill-at (suc n) f v k h l = go (λ h'. fill-at n f v k h' (omega arith)) (ℕ_discrete k n)
  where
    go : (k < n → at (fill n f v) k ≡ f k) → Dec (k ≡ n) → at (set (fill n f v) n (f n)) k ≡ f k
    go ih (yes e) = rw e (get_or-set_same (fill n f v) n (f n) (pos 0) (omega (arith, length-fill n f v)))
    go ih (no q) = get_or-set_other (fill n f v) n k (f n) (pos 0) q ∙ ih (omega arith)

pub fill-same : (n : ℕ) (f g : ℕ → ℤ) (v : List ℤ) → ((e : ℕ) → e < n → f e ≡ g e) → fill n f v ≡ fill n g v
unfolding fill
fill-same zero f g v h = refl
fill-same (suc n) f g v h = rw (fill-same n f g v (λ e l. h e (omega arith)), h n (omega arith))

pub put_same : (n : ℕ) (p q : ℕ → ℕ) (v : List ℤ) → ((e : ℕ) → p e ≡ q e) → put_back n p v ≡ put_back n q v
unfolding put_back
put_same zero p q v h = refl
put_same (suc n) p q v h = rw (put_same n p q v h, h n)

-- two lists of one length that agree below n and from n on
pub same-list : (n : ℕ) (u v : List ℤ) → length u ≡ length v →
    ((k : ℕ) → k < n → at u k ≡ at v k) → ((k : ℕ) → n ≤ k → at u k ≡ at v k) → u ≡ v
same-list n u v l h past = ext_get_or (pos 0) u v l (λ k b. go k (dec_lt k n))
  where
    go : (k : ℕ) → Dec (k < n) → at u k ≡ at v k
    go k (yes q) = h k q
    go k (no q) = past k (omega arith)

-- ---- an element that is set
pub set_at : (v : List ℤ) (e : ℕ) (a : ℤ) → e < length v → at (set v e a) e ≡ a
set_at v e a l = get_or-set_same v e a (pos 0) l

pub set_other : (v : List ℤ) (e k : ℕ) (a : ℤ) → k ≢ e → at (set v e a) k ≡ at v k
set_other v e k a q = get_or-set_other v e k a (pos 0) q

-- ---- the test against a bound
pub inside-yes : (B n : ℕ) (v : List ℤ) → ((k : ℕ) → k < n → Within B (at v k)) → inside B n v ≡ true
unfolding inside
inside-yes B zero v h = refl
inside-yes B (suc n) v h =
    rw (le-leb (nat_abs (at v n)) B (h n (omega arith)).within) (inside-yes B n v (λ k l. h k (omega arith)))

pub inside-no : (B n : ℕ) (v : List ℤ) (k : ℕ) → k < n → B < nat_abs (at v k) → inside B n v ≡ false
unfolding inside
inside-no B zero v k l h = absurd (omega arith)
inside-no B (suc n) v k l h = go (λ m. inside-no B n v k m h) (ℕ_discrete k n)
  where
    both : (b : Bool) → cond b false false ≡ false
    both true = refl
    both false = refl

    go : (k < n → inside B n v ≡ false) → Dec (k ≡ n) → cond (leb (nat_abs (at v n)) B) (inside B n v) false ≡ false
    go ih (yes e) = rw (← e, lt-leb (nat_abs (at v k)) B h)
    go ih (no q) = rw (ih (omega arith)) (both (leb (nat_abs (at v n)) B))

pub inside-at : (B n : ℕ) (v : List ℤ) → inside B n v ≡ true → (k : ℕ) → k < n → Within B (at v k)
inside-at B n v h k l = go (dec_le (nat_abs (at v k)) B)
  where
    go : Dec (nat_abs (at v k) ≤ B) → Within B (at v k)
    go (yes q) = record { within = q }
    go (no q) = absurd (true-false h (inside-no B n v k l (omega arith)))

-- ---- weighed sums
pub off_self : (w : ℕ → ℕ → ℤ) (e : ℕ) → off w e e ≡ pos 0
unfolding off
off_self w e = rw (eq-eqb e e refl)

pub off-other : (w : ℕ → ℕ → ℤ) (e k : ℕ) → e ≢ k → off w e k ≡ w e k
unfolding off
off-other w e k q = rw (ne_eqb e k q)

pub off_zero : (w : ℕ → ℕ → ℤ) (e k : ℕ) → w e k ≡ pos 0 → off w e k ≡ pos 0
unfolding off
off_zero w e k h = go (eqb e k)
  where
    go : (b : Bool) → cond b (pos 0) (w e k) ≡ pos 0
    go true = refl
    go false = h

-- lists that agree wherever the weight is not 0 weigh the same
pub weighed-agree : (N : ℕ) (u : ℕ → ℤ) (x y : List ℤ) →
    ((k : ℕ) → k < N → (u k ≡ pos 0) ⊎ (at x k ≡ at y k)) → weighed N u x ≡ weighed N u y
unfolding weighed
weighed-agree N u x y h = sum-cong N _ _ (λ k l. go k (h k l))
  where
    go : (k : ℕ) → (u k ≡ pos 0) ⊎ (at x k ≡ at y k) → u k *ℤ at x k ≡ u k *ℤ at y k
    go k (inl z) = rw z (zero-*ℤ (at x k) ∙ sym (zero-*ℤ (at y k)))
    go k (inr q) = rw q

-- ---- the test for multiples, weight by weight
pub multiples-yes : (S n : ℕ) (u : ℕ → ℤ) → ((k : ℕ) → k < n → nat_abs (u k) % S ≡ 0) → multiples S n u ≡ true
unfolding multiples
multiples-yes S zero u h = refl
multiples-yes S (suc n) u h =
    rw (eq-eqb (nat_abs (u n) % S) 0 (h n (omega arith))) (multiples-yes S n u (λ k l. h k (omega arith)))

pub multiples-at : (S n : ℕ) (u : ℕ → ℤ) → multiples S n u ≡ true → (k : ℕ) → k < n → nat_abs (u k) % S ≡ 0
unfolding multiples
multiples-at S zero u h k l = absurd (omega arith)
multiples-at S (suc n) u h k l = go (λ g. multiples-at S n u g k) (eqb (nat_abs (u n) % S) 0) refl h (ℕ_discrete k n)
  where
    go : (multiples S n u ≡ true → k < n → nat_abs (u k) % S ≡ 0) → (b : Bool) → eqb (nat_abs (u n) % S) 0 ≡ b →
        cond b (multiples S n u) false ≡ true →
        Dec (k ≡ n) → nat_abs (u k) % S ≡ 0
    go ih true e g (yes q) = rw q (eqb-true (nat_abs (u n) % S) 0 e)
    go ih true e g (no q) = ih g (omega arith)
    go ih false e g d = absurd (true-false g refl)
