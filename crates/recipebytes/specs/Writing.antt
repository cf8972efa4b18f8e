-- WRITING NUMBER AFTER NUMBER: how many bytes all numbers take, and the state of the loop that writes them, with one law for a
-- turn.
use Rattle.std.specs.Prelude.{List, [], ◌∷◌, ◌++◌, ◌≡◌, refl, ℕ, ◌+◌, ◌*◌, ◌≤◌, ◌<◌, ℤ, pos, length, take, sum_by, drop}
use Rattle.std.proofs.Common.{append_assoc, append-nil, sym, ap, ◌∙◌, add-one, arith, length-append, take-append-drop, take-suc}
use Rattle.std.proofs.lemmas.List.Edits.{sets}
use Rattle.std.proofs.lemmas.List.Recursion.{is_sum_by}
use Rattle.std.proofs.Math.Seq.{take-length}
use Rattle.rules.specs.Numbers.{at}
use Rattle.rules.specs.Recipes.{code, spell, written, packed}
use Rattle.rules.specs.Calls.{over}
use Rattle.recipebytes.specs.Codes.{codes}
use Rattle.recipebytes.specs.Spelling.{spell-most}
use Rattle.recipebytes.specs.Packing.{Codables}
use Rattle.recipebytes.specs.Filling.{over-long, over-more}

packed-append : (s t : List ℤ) → packed (s ++ t) ≡ packed s ++ packed t
unfolding packed
packed-append [] t = refl
packed-append (v ∷ s) t =
    ap (λ (x : List ℕ). written v ++ x) (packed-append s t) ∙ sym (append_assoc (written v) (packed s) (packed t))

-- one number more
packed-next : (s : List ℤ) (k : ℕ) → k < length s → packed (take (k + 1) s) ≡ packed (take k s) ++ written (at s k)
unfolding packed
packed-next s k h =
    rw add-one
    (ap packed (take-suc s k (pos 0) h) ∙ packed-append (take k s) (at s k ∷ [])
    ∙ ap (λ (x : List ℕ). packed (take k s) ++ x) (append-nil (written (at s k))))

packed-front : (s : List ℤ) (k : ℕ) → length (packed (take k s)) ≤ length (packed s)
packed-front s k =
    let e = ap length (ap packed (sym (take-append-drop k s)) ∙ packed-append (take k s) (drop k s)) in
    omega (arith, simp length-append at e)

packed_all : (s : List ℤ) {k : ℕ} → length s ≡ k → packed (take k s) ≡ packed s
packed_all s e = ap packed (ap (λ (n : ℕ). take n s) (sym e) ∙ take-length s)

-- ---- the bytes of all numbers: those of each, at most three
unfoldable pub size_of : ℤ → ℕ
size_of v = length (spell 2 (code v))

pub size-sum : (s : List ℤ) → sum_by size_of s ≡ length (packed s)
unfolding packed size_of
size-sum s =
    sym (is_sum_by (λ (t : List ℤ). length (packed t)) size_of refl (λ v t. length-append (written v) (packed t)) s)

pub packed-most : (s : List ℤ) → length (packed s) ≤ 3 * length s
unfolding packed
packed-most [] = omega arith
packed-most (v ∷ s) = let a = packed-most s in let b = spell-most (code v) in rw length-append (omega arith)

-- ---- the loop that writes: the first k numbers are written, up to place i
pub record Encoded (s : List ℤ) (room : List ℕ) (k i : ℕ) (out : List ℕ) : Type 0 where
  pub place : i ≡ length (packed (take k s))
  pub list : out ≡ over (packed (take k s)) room

pub encode-none : (s : List ℤ) (room : List ℕ) → Encoded s room 0 0 room
unfolding packed
encode-none s room = record { place = refl; list = refl }

-- a code of at most three groups
pub encode-code : {s : List ℤ} {u : ℕ} → Codables s → (k : ℕ) → u ≡ code (at s k) → u < codes
encode-code h k e = rw e (h.each k).fits

module _ {s : List ℤ} {room : List ℕ} {k i : ℕ} {out : List ℕ}
    (fits : length (packed s) ≤ length room) (h : Encoded s room k i out) where
  pub encode-long : length out ≡ length room
  encode-long = let a = packed-front s k in rw h.list (over-long (packed (take k s)) room (omega arith))

  module _ (l : k < length s) {u : ℕ} (e : u ≡ code (at s k)) where
    longer : length (packed (take (k + 1) s)) ≡ i + length (spell 2 u)
    longer = ap length (packed-next s k l) ∙ length-append (packed (take k s)) (written (at s k)) ∙ rw (e, h.place)

    pub encode-fits : i + length (spell 2 u) ≤ length out
    encode-fits = let a = packed-front s (k + 1) in omega (arith, encode-long, longer)

    pub encode-on : {j : ℕ} {new : List ℕ} → j ≡ i + length (spell 2 u) → new ≡ sets out i (spell 2 u)
        → Encoded s room (k + 1) j new
    encode-on {j} {new} f g = record {
      place = f ∙ sym longer;
      list =
          g ∙ rw (h.list, h.place, e, packed-next s k l)
          (over-more (packed (take k s)) (written (at s k)) room
          (let a = packed-front s (k + 1) in omega (arith, simp (packed-next s k l, length-append) at a)));
    }

  pub encode-end : length s ≡ k → out ≡ over (packed s) room
  encode-end e = h.list ∙ ap (λ (x : List ℕ). over x room) (packed_all s e)
