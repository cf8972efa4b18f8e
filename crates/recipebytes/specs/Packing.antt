-- A SHEET AND ITS BYTES: reading what was written gives the sheet back (`read-packed`), and no other bytes do (`packed-read`).
use Rattle.std.specs.Prelude.{List, [], ◌∷◌, ◌++◌, ◌≡◌, refl, ℕ, zero, suc, ◌+◌, ◌≤◌, ℤ, length, take, drop}
use Rattle.std.proofs.Common.{sym, ap, ◌∙◌, arith, length-append, take-append-drop, get_or-drop}
use Rattle.std.proofs.Math.Decide.{ℕ_discrete}
use borrow.Author.Tests.{eq-eqb, ne_eqb}
use Rattle.std.proofs.Math.Seq.{drop-append_seam}
use Rattle.rules.specs.Numbers.{at}
use Rattle.rules.specs.Recipes.{code, written, spelt, group, groups, number, packed, unpack, left, numbers_of, left_of}
use Rattle.recipebytes.specs.Codes.{Codable, value-code}
use Rattle.recipebytes.specs.Stated.{Bytes}
use Rattle.recipebytes.specs.Spelling.{spell-least, read-written, written_read}

-- every number of a list has at most three groups
pub record Codables (s : List ℤ) : Type 0 where
  pub each : (i : ℕ) → Codable (at s i)

rest-codables : {v : ℤ} {s : List ℤ} → Codables (v ∷ s) → Codables s
rest-codables h = record { each = λ i. h.each (suc i) }

-- ---- where no number stands, reading ends
pub left-stop : (k : ℕ) (l : List ℕ) → (number l).size ≡ 0 → left k l ≡ l
unfolding left
left-stop zero l e = refl
left-stop (suc k) l e = rw (eq-eqb (number l).size 0 e)

pub unpack-stop : (k : ℕ) (l : List ℕ) → (number l).size ≡ 0 → unpack k l ≡ []
unfolding unpack
unpack-stop zero l e = refl
unpack-stop (suc k) l e = rw (eq-eqb (number l).size 0 e)

-- ---- there and back
-- the first number of a packed list
module _ (v : ℤ) (s : List ℤ) (h : Codables (v ∷ s)) where
  front : number (written v ++ packed s) ≡ spelt (length (written v)) (code v)
  front = read-written v (packed s) (h.each 0)

  some_bytes : length (written v) ≡ 0 → ⊥
  some_bytes z = let a = spell-least (code v) in omega arith

  unpack-first : (k : ℕ) → unpack (suc k) (written v ++ packed s) ≡ v ∷ unpack k (packed s)
  unfolding unpack
  unpack-first k = rw (front, ne_eqb (length (written v)) 0 some_bytes, value-code, drop-append_seam)

  left-first : (k : ℕ) → left (suc k) (written v ++ packed s) ≡ left k (packed s)
  unfolding left
  left-first k = rw (front, ne_eqb (length (written v)) 0 some_bytes, drop-append_seam)

unpack-packed : (k : ℕ) (s : List ℤ) → Codables s → length s ≤ k → (unpack k (packed s) ≡ s) × (left k (packed s) ≡ [])
unfolding packed unpack left groups group
unpack-packed k [] h l = (unpack-stop k [] refl, left-stop k [] refl)
unpack-packed zero (v ∷ s) h l = absurd (omega arith)
unpack-packed (suc k) (v ∷ s) h l =
    let r = unpack-packed k s (rest-codables h) (omega arith) in
    (unpack-first v s h k ∙ ap (λ (x : List ℤ). v ∷ x) r.0, left-first v s h k ∙ r.1)

packed-long : (s : List ℤ) → length s ≤ length (packed s)
unfolding packed
packed-long [] = omega arith
packed-long (v ∷ s) = let a = packed-long s in let b = spell-least (code v) in rw length-append (omega arith)

-- the bytes of a sheet are read as that sheet, with nothing left
pub read-packed : (s : List ℤ) → Codables s → (numbers_of (packed s) ≡ s) × (left_of (packed s) ≡ [])
read-packed s h = unpack-packed (length (packed s)) s h (packed-long s)

drop-bytes : (n : ℕ) {l : List ℕ} → Bytes l → Bytes (drop n l)
drop-bytes n {l} h = record { each = λ i. rw (get_or-drop n l i 0) (h.each (n + i)) }

packed-unpack : (k : ℕ) (l : List ℕ) → Bytes l → left k l ≡ [] → packed (unpack k l) ≡ l
unfolding packed unpack left groups group
packed-unpack zero l b e = sym e
packed-unpack (suc k) l b e =
    split (packed-unpack k (drop (number l).size l) (drop-bytes (number l).size b)) (ℕ_discrete (number l).size 0)
  where
    split : (left k (drop (number l).size l) ≡ [] → packed (unpack k (drop (number l).size l)) ≡ drop (number l).size l)
        → Dec ((number l).size ≡ 0) → packed (unpack (suc k) l) ≡ l
    split again (yes z) = rw (eq-eqb (number l).size 0 z) (sym (rw (eq-eqb (number l).size 0 z) at e))
    split again (no n) =
        rw (ne_eqb (number l).size 0 n)
        (ap (λ (x : List ℕ). x ++ packed (unpack k (drop (number l).size l))) (sym (written_read l b n).0)
        ∙ ap (λ (x : List ℕ). take (number l).size l ++ x) (again (rw (ne_eqb (number l).size 0 n) at e))
        ∙ take-append-drop (number l).size l)

-- bytes that are read to their end are the bytes of what was read
pub packed-read : (b : List ℕ) → Bytes b → left_of b ≡ [] → packed (numbers_of b) ≡ b
packed-read b h e = packed-unpack (length b) b h e

-- so no two byte strings are read to their end as the same numbers
pub one-spelling : {a b : List ℕ} → Bytes a → Bytes b → left_of a ≡ [] → left_of b ≡ [] → numbers_of a ≡ numbers_of b → a ≡ b
one-spelling {a} {b} h k p q e = sym (packed-read a h p) ∙ ap packed e ∙ packed-read b k q
