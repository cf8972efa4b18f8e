-- THE INPUT: what is answered for its count, and its numbers in their parts.
use Rattle.std.specs.Prelude.{Bool, true, false, cond, List, [], ◌∷◌, ◌≡◌, ℕ, zero, suc, ◌+◌, ◌-◌, ◌≤◌, ◌<◌, eqb, ℤ, pos, negsuc, nat_abs, take, drop}
use Rattle.std.proofs.Math.Path.{refl}
use Rattle.std.proofs.Common.{ap, ◌∙◌, length-drop, take_all}
use Rattle.std.proofs.Math.Decide.{dec_lt}
use native.Mathlib.Omega.{arith}
use borrow.Author.Tests.{le-leb, lt-leb, ltb-true, lt-ltb, le-ltb, eq-eqb, ne_eqb}
use Rattle.std.proofs.Math.Dec.{T}
use Rattle.std.proofs.Math.ListN.{length}
use Rattle.std.specs.Int.Signed.{lt_z, non_neg, mag}
use Rattle.rules.specs.Numbers.{at}
use Rattle.rules.specs.Recipes.{value, number, unpack, numbers_of, left_of}
use Rattle.rules.specs.Answers.{◌or_else◌, accepted, refused}
use Rattle.rules.specs.Calls.{over}
use Rattle.recipebytes.specs.Filling.{front-is}
use Rattle.printing.specs.Program.{limit, block_at, block_in, sheet_in, counts, ran, session, refusal, printed}

pub at_none : (v : List ℤ) → length v ≡ 0 → at v 0 ≡ pos 0
at_none [] h = refl
at_none (x ∷ v) h = absurd (omega arith)

pub mag-near : (z : ℤ) → nat_abs z ≤ mag z + 1
mag-near (pos n) = omega arith
mag-near (negsuc n) = omega arith

-- ---- the count
natural-no : (z : ℤ) → lt_z z (pos 0) ≡ true → non_neg z ≡ false
natural-no (pos n) h = let l : n < 0 = ltb-true n 0 h in absurd (omega arith)
natural-no (negsuc n) h = refl

natural-yes : (z : ℤ) → T (non_neg z) → non_neg z ≡ true
natural-yes (pos n) h = refl
natural-yes (negsuc n) h = absurd h

module _ (v : List ℤ) where
  pub counts-below : lt_z (at v 0) (pos 0) ≡ true → counts v ≡ refused 10 0 0
  unfolding counts
  counts-below h = rw (natural-no (at v 0) h)

  pub counts-beyond : T (non_neg (at v 0)) → length v < block_at v → counts v ≡ refused 10 0 0
  unfolding counts
  counts-beyond n h = rw (natural-yes (at v 0) n, lt-leb (block_at v) (length v) h)

  pub counts-fine : T (non_neg (at v 0)) → block_at v ≤ length v → counts v ≡ accepted
  unfolding counts
  counts-fine n h = rw (natural-yes (at v 0) n, le-leb (block_at v) (length v) h)

  -- what an accepted count has
  pub record Counted : Type 0 where
    pub natural : T (non_neg (at v 0))
    pub inside : block_at v ≤ length v

  pub counted-by : (counts v).number ≡ 0 → Counted
  unfolding counts
  counted-by h = sign (at v 0) refl
    where
      fits : T (non_neg (at v 0)) → Dec (length v < block_at v) → Counted
      fits n (yes l) = let z = rw (natural-yes (at v 0) n, lt-leb (block_at v) (length v) l) at h in absurd (omega arith)
      fits n (no l) = record { natural = n; inside = omega arith }

      sign : (z : ℤ) → at v 0 ≡ z → Counted
      sign (pos k) e = fits (rw e tt) (dec_lt (length v) (block_at v))
      sign (negsuc k) e = let z = rw e at h in absurd (omega arith)

-- ---- the numbers
-- the text for them: 10 for the count, or the runs
pub session_of : List ℤ → List ℕ
session_of v = cond (eqb (counts v).number 0) (session v) (refusal (counts v))

module _ (v : List ℤ) where
  pub session-refused : ((counts v).number ≡ 0 → ⊥) → refusal (counts v) ≡ session_of v
  unfolding session_of
  session-refused h = rw (ne_eqb (counts v).number 0 h)

  pub session-runs : (counts v).number ≡ 0 → session v ≡ session_of v
  unfolding session_of
  session-runs h = rw (eq-eqb (counts v).number 0 h)

  -- the parts as the code lends them
  pub sheet-part : (e : ℕ) → e ≡ block_at v → take (e - 1) (drop 1 v) ≡ sheet_in v
  sheet-part e h = let k : e - 1 ≡ nat_abs (at v 0) = omega arith in rw k

  pub block-part : (e : ℕ) → e ≡ block_at v → take (length v - e) (drop e v) ≡ block_in v
  block-part e h = take_all (length v - e) (drop e v) (omega (arith, length-drop e v)) ∙ ap (λ (k : ℕ). drop k v) h

  pub session-parts : (e : ℕ) (y z : List ℤ) → e ≡ block_at v → y ≡ v → z ≡ v
      → ran (take (e - 1) (drop 1 v)) (take (length v - e) (drop e v)) (take (length y - e) (drop e y))
      (take (length z - e) (drop e z))
      ≡ session v
  session-parts e y z h f g = rw (f, g, sheet-part e h, block-part e h)

-- the numbers as `decode` leaves them in the front of some room
pub decoded-front : (all room out : List ℤ) (m : ℕ) → m ≡ length all → out ≡ over (take m all) room → take m out ≡ all
decoded-front all room out m h e =
    ap (take m) e ∙ front-is all room m (omega arith) ∙ take_all m all (omega arith)

-- no more numbers than bytes
unpack-short : (j : ℕ) (l : List ℕ) → length (unpack j l) ≤ j
unfolding unpack
unpack-short zero l = omega arith
unpack-short (suc j) l = pick (eqb (number l).size 0) (unpack-short j (drop (number l).size l))
  where
    pick : (e : Bool) → length (unpack j (drop (number l).size l)) ≤ j
        → length (cond e [] (value (number l).code ∷ unpack j (drop (number l).size l))) ≤ suc j
    pick true h = omega arith
    pick false h = omega arith

pub numbers-short : (b : List ℕ) → length (numbers_of b) ≤ length b
numbers-short b = unpack-short (length b) b

-- ---- the bytes: 15, then 14, then the numbers
module _ (b : List ℕ) where
  pub printed-many : limit < length b → refusal (refused 15 0 limit) ≡ printed b
  unfolding printed ◌or_else◌
  printed-many h = rw (lt-ltb limit (length b) h)

  pub printed-cut : (p : ℕ) → length b ≤ limit → p + length (left_of b) ≡ length b → p < length b
      → refusal (refused 14 0 p) ≡ printed b
  unfolding printed ◌or_else◌
  printed-cut p h e l =
      let some : length (left_of b) ≡ 0 → ⊥ = λ z. omega arith in
      let place : length b - length (left_of b) ≡ p = omega arith in
      rw (le-ltb limit (length b) h, ne_eqb (length (left_of b)) 0 some, place)

  pub printed-numbers : length b ≤ limit → length (left_of b) ≡ 0 → session_of (numbers_of b) ≡ printed b
  unfolding printed ◌or_else◌ session_of
  printed-numbers h e = rw (le-ltb limit (length b) h, eq-eqb (length (left_of b)) 0 e)
