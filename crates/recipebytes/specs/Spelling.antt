-- A NUMBER AND ITS BYTES: reading what was written gives the number back (`read-written`), and no other bytes do
-- (`written_read`).
use Rattle.std.specs.Prelude.{Bool, true, false, cond, List, [], ◌∷◌, ◌++◌, ◌≡◌, refl, ℕ, zero, suc, ◌+◌, ◌*◌, ◌/◌, ◌%◌, ◌≤◌, ◌<◌, eqb, ltb, ℤ, length, take}
use Rattle.std.proofs.Common.{sym, ap, ◌∙◌, pos_of_ne-zero, add-one, arith, lt-ltb, le-ltb, eq-eqb, ne_eqb}
use Rattle.std.proofs.Math.Decide.{dec_lt, ℕ_discrete}
use Rattle.rules.specs.Marks.{Spelt}
use Rattle.rules.specs.Recipes.{code, value, spell, written, spelt, none, group, groups, number}
use Rattle.laws.specs.Tests.{apart}
use Rattle.recipebytes.specs.Stated.{Bytes}
use Rattle.recipebytes.specs.Codes.{Codable, code-value}

-- ---- what one, two and three groups look like
pub spell-1 : (u : ℕ) → u < 128 → spell 2 u ≡ u ∷ []
unfolding spell
spell-1 u h = rw (lt-ltb u 128 h)

pub spell-2 : (u : ℕ) → 128 ≤ u → u / 128 < 128 → spell 2 u ≡ (128 + u % 128) ∷ (u / 128) ∷ []
unfolding spell
spell-2 u h k = rw (le-ltb u 128 h, lt-ltb (u / 128) 128 k)

pub spell-3 : (u : ℕ) → 128 ≤ u → 128 ≤ u / 128 → spell 2 u ≡ (128 + u % 128) ∷ (128 + u / 128 % 128) ∷ (u / 128 / 128) ∷ []
unfolding spell
spell-3 u h k = rw (le-ltb u 128 h, le-ltb (u / 128) 128 k)

pub spell-most : (u : ℕ) → length (spell 2 u) ≤ 3
spell-most u = split (dec_lt u 128) (dec_lt (u / 128) 128)
  where
    split : Dec (u < 128) → Dec (u / 128 < 128) → length (spell 2 u) ≤ 3
    split (yes a) b = rw (spell-1 u a) (omega arith)
    split (no a) (yes b) = rw (spell-2 u (omega arith) b) (omega arith)
    split (no a) (no b) = rw (spell-3 u (omega arith) (omega arith)) (omega arith)

-- a number has a byte at least
spell-size : (k u : ℕ) → (n : ℕ) × (length (spell k u) ≡ suc n)
unfolding spell
spell-size zero u = (0, refl)
spell-size (suc k) u = split (ltb u 128)
  where
    split : (b : Bool) → (n : ℕ) × (length (cond b (u ∷ []) ((128 + u % 128) ∷ spell k (u / 128))) ≡ suc n)
    split true = (0, refl)
    split false = (length (spell k (u / 128)), refl)

pub spell-least : (u : ℕ) → 1 ≤ length (spell 2 u)
spell-least u = let s = spell-size 2 u in omega (arith, s.1)

-- ---- reading what was written gives the code back
-- how many codes have at most k + 1 groups
unfoldable limit : ℕ → ℕ
limit zero = 128
limit (suc k) = 128 * limit k

ends : (x : ℕ) (q : List ℕ) (alone : Bool) (next : Spelt) → x < 128 → (x ≡ 0 → alone ≡ true)
    → group alone (x ∷ q) next ≡ spelt 1 x
unfolding group
ends x q alone next h a = rw (lt-ltb x 128 h) (zeroed (ℕ_discrete x 0))
  where
    zeroed : Dec (x ≡ 0) → cond (eqb x 0) (cond alone (spelt 1 x) none) (spelt 1 x) ≡ spelt 1 x
    zeroed (yes e) = rw (eq-eqb x 0 e, a e)
    zeroed (no n) = rw (ne_eqb x 0 n)

goes_on : (x : ℕ) (q : List ℕ) (alone : Bool) (n u : ℕ) → 128 ≤ x
    → group alone (x ∷ q) (spelt (suc n) u) ≡ spelt (suc n + 1) (x % 128 + 128 * u)
unfolding group
goes_on x q alone n u h = rw (le-ltb x 128 h, ne_eqb (suc n) 0 (λ e. omega arith))

read-spell : (k u : ℕ) (q : List ℕ) (alone : Bool) → u < limit k → (u ≡ 0 → alone ≡ true)
    → groups (suc k) alone (spell k u ++ q) ≡ spelt (length (spell k u)) u
unfolding groups spell limit
read-spell zero u q alone h a = ends u q alone none h a
read-spell (suc k) u q alone h a = split (λ b e. read-spell k (u / 128) q false b e) (dec_lt u 128)
  where
    split : (u / 128 < limit k → (u / 128 ≡ 0 → false ≡ true)
        → groups (suc k) false (spell k (u / 128) ++ q) ≡ spelt (length (spell k (u / 128))) (u / 128))
        → Dec (u < 128) → groups (suc (suc k)) alone (spell (suc k) u ++ q) ≡ spelt (length (spell (suc k) u)) u
    split again (yes l) = rw (lt-ltb u 128 l) (ends u q alone (groups (suc k) false q) l a)
    split again (no l) =
        let s = spell-size k (u / 128) in
        let e = again (omega arith) (λ z. let y : ⊥ = omega arith in absurd y) in
        let x : (128 + u % 128) % 128 + 128 * (u / 128) ≡ u = omega arith in
        rw (le-ltb u 128 (omega arith), e, s.1)
        (goes_on (128 + u % 128) (spell k (u / 128) ++ q) alone s.0 (u / 128) (omega arith) ∙ rw (x, add-one))

-- the bytes of a number, and whatever stands after them, are read as that number
pub read-written : (v : ℤ) (q : List ℕ) → Codable v → number (written v ++ q) ≡ spelt (length (written v)) (code v)
unfolding limit
read-written v q h = read-spell 2 (code v) q true h.fits (λ e. refl)

-- ---- bytes
pub rest-bytes : {x : ℕ} {l : List ℕ} → Bytes (x ∷ l) → Bytes l
rest-bytes h = record { each = λ i. h.each (suc i) }

-- ---- and no other bytes are read as the number

-- r is what at most k + 1 groups at the front of l spell
record Only (k : ℕ) (alone : Bool) (l : List ℕ) (r : Spelt) : Type 0 where
  bytes : take r.size l ≡ spell k r.code
  limited : r.code < limit k
  alone-zero : r.code ≡ 0 → alone ≡ true

spell-low : (k u : ℕ) → u < 128 → spell k u ≡ u ∷ []
unfolding spell
spell-low zero u h = refl
spell-low (suc k) u h = rw (lt-ltb u 128 h)

limit-low : (k : ℕ) → 128 ≤ limit k
unfolding limit
limit-low zero = omega arith
limit-low (suc k) = let h = limit-low k in omega arith

-- the first byte ends the number
only_end : (k : ℕ) (alone : Bool) (x : ℕ) (l : List ℕ) (next : Spelt) → x < 128 → ((group alone (x ∷ l) next).size ≡ 0 → ⊥)
    → Only k alone (x ∷ l) (group alone (x ∷ l) next)
unfolding group
only_end k alone x l next h n = zeroed (ℕ_discrete x 0)
  where
    here : (x ≡ 0 → alone ≡ true) → Only k alone (x ∷ l) (spelt 1 x)
    here a = record { bytes = sym (spell-low k x h); limited = let b = limit-low k in omega arith; alone-zero = a }

    zeroed : Dec (x ≡ 0) → Only k alone (x ∷ l) (group alone (x ∷ l) next)
    zeroed (no z) = rw (lt-ltb x 128 h, ne_eqb x 0 z) (here (λ e. absurd (z e)))
    zeroed (yes z) = single alone refl
      where
        single : (a : Bool) → alone ≡ a → Only k alone (x ∷ l) (group alone (x ∷ l) next)
        single true e = rw (lt-ltb x 128 h, eq-eqb x 0 z, e) (rw e at (here (λ q. e)))
        single false e = absurd (n (rw (lt-ltb x 128 h, eq-eqb x 0 z, e)))

-- the first byte stands before others
only-more : (k : ℕ) (alone : Bool) (x : ℕ) (l : List ℕ) (next : Spelt) → 128 ≤ x → x < 256 → (next.size ≡ 0 → ⊥)
    → Only k false l next → Only (suc k) alone (x ∷ l) (group alone (x ∷ l) next)
unfolding group spell limit
only-more k alone x l next h b n o =
    let c = next.code in
    let z : c ≡ 0 → ⊥ = λ e. apart (sym (o.alone-zero e)) in
    let p : 1 ≤ c = pos_of_ne-zero z in
    let q : x % 128 + 128 * c < 128 * limit k = let a = o.limited in omega arith in
    let u : (x % 128 + 128 * c) % 128 ≡ x % 128 = omega arith in
    let v : (x % 128 + 128 * c) / 128 ≡ c = omega arith in
    let w : 128 + x % 128 ≡ x = omega arith in
    rw (le-ltb x 128 h, ne_eqb next.size 0 n)
    (record {
      bytes = rw (le-ltb (x % 128 + 128 * c) 128 (omega arith), add-one, u, v, w) (ap (λ (m : List ℕ). x ∷ m) o.bytes);
      limited = q;
      alone-zero = λ e. let y : ⊥ = omega arith in absurd y;
    })

nothing : (alone : Bool) (next : Spelt) → (group alone [] next).size ≡ 0
unfolding group
nothing alone next = refl

nothing-more : (alone : Bool) (x : ℕ) (l : List ℕ) (next : Spelt) → 128 ≤ x → next.size ≡ 0 → (group alone (x ∷ l) next).size ≡ 0
unfolding group
nothing-more alone x l next h e = rw (le-ltb x 128 h, eq-eqb next.size 0 e)

only-spell : (k : ℕ) (alone : Bool) (l : List ℕ) → Bytes l → ((groups (suc k) alone l).size ≡ 0 → ⊥)
    → Only k alone l (groups (suc k) alone l)
unfolding groups
only-spell zero alone [] b n = absurd (n (nothing alone none))
only-spell zero alone (x ∷ l) b n = split (dec_lt x 128)
  where
    split : Dec (x < 128) → Only zero alone (x ∷ l) (group alone (x ∷ l) none)
    split (yes h) = only_end zero alone x l none h n
    split (no h) = absurd (n (nothing-more alone x l none (omega arith) refl))
only-spell (suc k) alone [] b n = absurd (n (nothing alone (groups (suc k) false [])))
only-spell (suc k) alone (x ∷ l) b n =
    split (only-spell k false l (rest-bytes b)) (dec_lt x 128) (ℕ_discrete (groups (suc k) false l).size 0)
  where
    split : (((groups (suc k) false l).size ≡ 0 → ⊥) → Only k false l (groups (suc k) false l))
        → Dec (x < 128) → Dec ((groups (suc k) false l).size ≡ 0)
        → Only (suc k) alone (x ∷ l) (group alone (x ∷ l) (groups (suc k) false l))
    split again (yes h) e = only_end (suc k) alone x l (groups (suc k) false l) h n
    split again (no h) (yes e) = absurd (n (nothing-more alone x l (groups (suc k) false l) (omega arith) e))
    split again (no h) (no e) = only-more k alone x l (groups (suc k) false l) (omega arith) (b.each 0) e (again e)

-- what is read as a number are the bytes of that number
pub written_read : (l : List ℕ) → Bytes l → ((number l).size ≡ 0 → ⊥)
    → (take (number l).size l ≡ written (value (number l).code)) × Codable (value (number l).code)
unfolding limit
written_read l b n =
    let o = only-spell 2 true l b n in
    (o.bytes ∙ ap (spell 2) (sym (code-value (number l).code)), record { fits = rw (code-value (number l).code) o.limited })
