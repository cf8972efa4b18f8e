-- READING NUMBER AFTER NUMBER: the states of the loops that read, with one law for a turn of each.
use Rattle.std.specs.Prelude.{Bool, true, false, cond, List, [], ◌∷◌, ◌≡◌, refl, ℕ, zero, suc, ◌+◌, ◌-◌, ◌≤◌, ◌<◌, eqb, ℤ, pos, length, set, take, drop}
use Rattle.std.proofs.Common.{sym, ap, ◌∙◌, add-zero, zero-add, arith, length-drop, get_or-drop, drop-drop}
use Rattle.std.proofs.Math.Nat.{sub-zero}
use borrow.Author.Tests.{ne_eqb}
use Rattle.rules.specs.Marks.{Spelt}
use Rattle.rules.specs.Numbers.{at}
use Rattle.rules.specs.Recipes.{value, number, unpack, left, numbers_of, left_of}
use Rattle.rules.specs.Calls.{over}
use Rattle.recipebytes.specs.Groups.{number-inside}
use Rattle.recipebytes.specs.Packing.{left-stop, unpack-stop}
use Rattle.recipebytes.specs.Filling.{front_long, over-next}

-- ---- one number more
-- no more numbers than were asked for
unpack-short : (j : ℕ) (l : List ℕ) → length (unpack j l) ≤ j
unfolding unpack
unpack-short zero l = omega arith
unpack-short (suc j) l = pick (eqb (number l).size 0) (unpack-short j (drop (number l).size l))
  where
    pick : (e : Bool) → length (unpack j (drop (number l).size l)) ≤ j
        → length (cond e [] (value (number l).code ∷ unpack j (drop (number l).size l))) ≤ suc j
    pick true h = omega arith
    pick false h = omega arith

-- a loop of m turns, k of them done, at place i, where a number stands
module _ (b : List ℕ) (m k i : ℕ) (turn : k < m) (n : (number (drop i b)).size ≡ 0 → ⊥) where
  fewer : m - k ≡ suc (m - (k + 1))
  fewer = omega arith

  left-on : left (m - k) (drop i b) ≡ left (m - (k + 1)) (drop (i + (number (drop i b)).size) b)
  unfolding left
  left-on = rw (fewer, ne_eqb (number (drop i b)).size 0 n, drop-drop)

  unpack-on : unpack (m - k) (drop i b)
      ≡ value (number (drop i b)).code ∷ unpack (m - (k + 1)) (drop (i + (number (drop i b)).size) b)
  unfolding unpack
  unpack-on = rw (fewer, ne_eqb (number (drop i b)).size 0 n, drop-drop)

-- ---- the loop that looks for a fault: k numbers stand before place i, and the rest is still to be read
pub record Scanned (b : List ℕ) (k i : ℕ) : Type 0 where
  pub inside : i ≤ length b
  pub rest : left_of b ≡ left (length b - k) (drop i b)
  pub many : length (numbers_of b) ≡ k + length (unpack (length b - k) (drop i b))

pub scan-none : (b : List ℕ) → Scanned b 0 0
scan-none b = record { inside = omega arith; rest = rw sub-zero; many = rw (sub-zero, zero-add) }

-- how it ends: the place of the first number that is none, or the end, and how many stand before it
pub record NumbersEnd (b : List ℕ) (place many : ℕ) : Type 0 where
  pub inside : place ≤ length b
  pub place_is : place + length (left_of b) ≡ length b
  pub many_is : many ≡ length (numbers_of b)

scan-ends : {b : List ℕ} {k i : ℕ} → Scanned b k i → left (length b - k) (drop i b) ≡ drop i b
    → unpack (length b - k) (drop i b) ≡ [] → NumbersEnd b i k
scan-ends {b} {k} {i} h p q = record {
  inside = h.inside;
  place_is = rw (h.rest, p) (let a = h.inside in omega (arith, length-drop i b));
  many_is = sym (h.many ∙ rw q (add-zero k));
}

-- r is what was read at place i
pub inside-by : (b : List ℕ) (i : ℕ) {r : Spelt} → r ≡ number (drop i b) → i ≤ length b → i + r.size ≤ length b
inside-by b i e h = rw e (number-inside b i h)

module _ {b : List ℕ} {k i : ℕ} {r : Spelt} (e : r ≡ number (drop i b)) where
  pub scan-stop : r.size ≡ 0 → Scanned b k i → NumbersEnd b i k
  scan-stop z h =
      let none : (number (drop i b)).size ≡ 0 = rw e at z in
      scan-ends h (left-stop (length b - k) (drop i b) none) (unpack-stop (length b - k) (drop i b) none)

  pub scan-on : k < length b → (r.size ≡ 0 → ⊥) → Scanned b k i → Scanned b (k + 1) (i + r.size)
  scan-on l n h =
      let some : (number (drop i b)).size ≡ 0 → ⊥ = rw e at n in
      rw e
      (record {
        inside = number-inside b i h.inside;
        rest = h.rest ∙ left-on b (length b) k i l some;
        many = h.many ∙ rw (unpack-on b (length b) k i l some) (omega arith);
      })

-- ---- the loop that writes the numbers into a lent slice: k are written, and the rest is still to be read
pub record Decoded (b : List ℕ) (room : List ℤ) (k i : ℕ) (out : List ℤ) : Type 0 where
  pub inside : i ≤ length b
  pub rest : drop k (numbers_of b) ≡ unpack (length b - k) (drop i b)
  pub list : out ≡ over (take k (numbers_of b)) room

pub decode-none : (b : List ℕ) (room : List ℤ) → Decoded b room 0 0 room
decode-none b room = record { inside = omega arith; rest = rw sub-zero; list = refl }

pub decode-long : {b : List ℕ} {room out : List ℤ} {k i : ℕ} → k ≤ length (numbers_of b) → k ≤ length room → Decoded b room k i out
    → length out ≡ length room
decode-long {b} {room} {out} {k} l fits h = rw h.list (front_long (numbers_of b) room k l fits)

module _ {b : List ℕ} {room out : List ℤ} {k i : ℕ} (l : k < length (numbers_of b)) (h : Decoded b room k i out) where
  -- a number is still there, and a turn
  pub there : (number (drop i b)).size ≡ 0 → ⊥
  there e =
      let a : length (drop k (numbers_of b)) ≡ 0 = ap length (h.rest ∙ unpack-stop (length b - k) (drop i b) e) in
      omega (arith, length-drop k (numbers_of b))

  turn : k < length b
  turn = let a = unpack-short (length b - k) (drop i b) in omega (arith, length-drop k (numbers_of b), ap length h.rest)

  split : drop k (numbers_of b)
      ≡ value (number (drop i b)).code ∷ unpack (length b - (k + 1)) (drop (i + (number (drop i b)).size) b)
  split = h.rest ∙ unpack-on b (length b) k i turn there

  value-is : at (numbers_of b) k ≡ value (number (drop i b)).code
  value-is =
      ap (at (numbers_of b)) (sym (add-zero k)) ∙ sym (get_or-drop k (numbers_of b) 0 (pos 0)) ∙ ap (λ (x : List ℤ). at x 0) split

  pub decode-on : {j : ℕ} {new : List ℤ} → k < length room → j ≡ i + (number (drop i b)).size
      → new ≡ set out k (value (number (drop i b)).code) → Decoded b room (k + 1) j new
  decode-on {j} {new} fits e f =
      rw e
      (record {
        inside = number-inside b i h.inside;
        rest = sym (drop-drop 1 k (numbers_of b)) ∙ ap (drop 1) split;
        list = f ∙ rw (h.list, sym value-is) (over-next (numbers_of b) room k (pos 0) l fits);
      })
