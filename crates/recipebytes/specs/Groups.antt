-- THE GROUPS OF A NUMBER that is read: how large what they spell is, where they stand, and that they lie inside the bytes.
use Rattle.std.specs.Prelude.{Bool, true, false, cond, List, [], ◌∷◌, ◌≡◌, refl, ℕ, zero, suc, ◌+◌, ◌*◌, ◌%◌, ◌≤◌, ◌<◌, eqb, ltb, length, drop}
use Rattle.std.proofs.Math.Decide.{dec_lt}
use Rattle.std.proofs.Common.{arith, lt-ltb, le-ltb, length-drop, drop_of_length-le}
use Rattle.rules.specs.Marks.{Spelt}
use Rattle.rules.specs.Recipes.{spelt, none, group, tail, groups, number}

-- ---- how large
-- at most k bytes, and a code below m
pub record Small (k m : ℕ) (r : Spelt) : Type 0 where
  pub size : r.size ≤ k
  pub code : r.code < m

pub none-small : Small 0 1 none
none-small = record { size = omega arith; code = omega arith }

spelt-small : (k m : ℕ) (x : ℕ) → x < 128 → 1 ≤ m → Small (k + 1) (128 * m) (spelt 1 x)
spelt-small k m x h l = record { size = omega arith; code = omega arith }

none_any : (k m : ℕ) → 1 ≤ m → Small (k + 1) (128 * m) none
none_any k m l = record { size = omega arith; code = omega arith }

-- one group more
pub group-small : {k m : ℕ} {next : Spelt} (alone : Bool) (l : List ℕ) → 1 ≤ m → Small k m next
    → Small (k + 1) (128 * m) (group alone l next)
unfolding group
group-small {k} {m} {next} alone [] p h = none_any k m p
group-small {k} {m} {next} alone (x ∷ l) p h = last (dec_lt x 128)
  where
    zeroed : (b : Bool) → x < 128 → Small (k + 1) (128 * m) (cond b (cond alone (spelt 1 x) none) (spelt 1 x))
    zeroed true q = single alone
      where
        single : (a : Bool) → Small (k + 1) (128 * m) (cond a (spelt 1 x) none)
        single true = spelt-small k m x q p
        single false = none_any k m p
    zeroed false q = spelt-small k m x q p

    more : (b : Bool) → Small (k + 1) (128 * m) (cond b none (spelt (next.size + 1) (x % 128 + 128 * next.code)))
    more true = none_any k m p
    more false = record { size = let a = h.size in omega arith; code = let a = h.code in omega arith }

    last : Dec (x < 128) → Small (k + 1) (128 * m) (group alone (x ∷ l) next)
    last (yes q) = rw (lt-ltb x 128 q) (zeroed (eqb x 0) q)
    last (no q) = rw (le-ltb x 128 (omega arith)) (more (eqb next.size 0))

pub third-small : (l : List ℕ) → Small 2 16384 (group false l none)
third-small l =
    let h = group-small {k = 0} {m = 1} false l (omega arith) none-small in
    record { size = let a = h.size in omega arith; code = let a = h.code in omega arith }

pub second-small : (l r : List ℕ) → Small 2 16384 (group false l (group false r none))
second-small l r =
    group-small {k = 1} {m = 128} false l (omega arith) (group-small {k = 0} {m = 1} false r (omega arith) none-small)

-- ---- where they stand: the three groups by their places
tail-drop : (i : ℕ) (l : List ℕ) → tail (drop i l) ≡ drop (suc i) l
tail-drop zero [] = refl
tail-drop zero (x ∷ l) = refl
tail-drop (suc i) [] = refl
tail-drop (suc i) (x ∷ l) = tail-drop i l

pub number_by : (b : List ℕ) (i : ℕ)
    → number (drop i b) ≡ group true (drop i b) (group false (drop (i + 1) b) (group false (drop (i + 2) b) none))
unfolding groups
number_by b i =
    let p : i + 1 ≡ suc i = omega arith in
    let q : i + 2 ≡ suc (suc i) = omega arith in
    rw (p, q, tail-drop i b, tail-drop (suc i) b)

-- past the end there is none
pub number_past : (b : List ℕ) (i : ℕ) → length b ≤ i → number (drop i b) ≡ none
unfolding groups group
number_past b i h = rw (drop_of_length-le b h)

-- ---- a number takes no more bytes than there are
cond-size : (b : Bool) (x y : Spelt) (n : ℕ) → x.size ≤ n → y.size ≤ n → (cond b x y).size ≤ n
cond-size true x y n h k = h
cond-size false x y n h k = k

group-inside : (alone : Bool) (l : List ℕ) (next : Spelt) → next.size ≤ length (tail l) → (group alone l next).size ≤ length l
unfolding group
group-inside alone [] next h = omega arith
group-inside alone (x ∷ l) next h =
    cond-size (ltb x 128) _ _ (suc (length l))
    (cond-size (eqb x 0) _ _ (suc (length l))
    (cond-size alone (spelt 1 x) none (suc (length l)) (omega arith) (omega arith))
    (omega arith))
    (cond-size (eqb next.size 0) none (spelt (next.size + 1) _) (suc (length l)) (omega arith) (omega arith))

groups-inside : (k : ℕ) (alone : Bool) (l : List ℕ) → (groups k alone l).size ≤ length l
unfolding groups
groups-inside zero alone l = omega arith
groups-inside (suc k) alone l = group-inside alone l (groups k false (tail l)) (groups-inside k false (tail l))

pub number-inside : (b : List ℕ) (i : ℕ) → i ≤ length b → i + (number (drop i b)).size ≤ length b
number-inside b i h = let a = groups-inside 3 true (drop i b) in omega (arith, length-drop i b)
