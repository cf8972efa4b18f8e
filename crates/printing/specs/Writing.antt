-- LAWS OF TEXT IN A LENT SLICE: one text after another, and what passes the slice's end.
use Rattle.std.specs.Prelude.{List, [], ◌∷◌, ◌++◌, ◌≡◌, refl, ℕ, suc, ◌+◌, ◌≤◌, ◌<◌, min, length, set}
use Rattle.std.proofs.Common.{sym, ap, ◌∙◌, arith, length-set, length-append}
use Rattle.std.proofs.Math.Decide.{dec_lt}
use Rattle.std.proofs.lemmas.List.Edits.{sets}
use Rattle.std.proofs.Math.Seq.{length-sets, set_out}
use Rattle.printing.specs.Stated.{Wrote}

sets-out : (text l : List ℕ) (i : ℕ) → length l ≤ i → sets l i text ≡ l
sets-out [] l i h = refl
sets-out (a ∷ text) l i h = rw (set_out l i a h) (sets-out text l (suc i) (omega arith))

-- one text after another
sets_then : (a b l : List ℕ) (i : ℕ) → sets (sets l i a) (min (i + length a) (length l)) b ≡ sets l i (a ++ b)
sets_then [] b l i = split (dec_lt (length l) i)
  where
    split : Dec (length l < i) → sets l (min (i + 0) (length l)) b ≡ sets l i b
    split (yes h) = sets-out b l (min (i + 0) (length l)) (omega arith) ∙ sym (sets-out b l i (omega arith))
    split (no h) = let e : min (i + 0) (length l) ≡ i = omega arith in rw e
sets_then (x ∷ a) b l i =
    let e : min (i + suc (length a)) (length l) ≡ min (suc i + length a) (length (set l i x)) = omega (arith, length-set l i x) in
    rw e (sets_then a b (set l i x) (suc i))

pub wrote_none : (l : List ℕ) (i : ℕ) → i ≤ length l → Wrote l i [] l i
wrote_none l i h = record { list = refl; place = omega arith }

pub wrote-long : {l text out : List ℕ} {i r : ℕ} → Wrote l i text out r → length out ≡ length l
wrote-long {l} {text} {out} {i} w = ap length w.list ∙ length-sets l i text

pub wrote-inside : {l text out : List ℕ} {i r : ℕ} → Wrote l i text out r → r ≤ length out
wrote-inside w = let e = wrote-long w in omega (arith, w.place)

pub wrote_then : {l a m b n : List ℕ} {i j k : ℕ} → Wrote l i a m j → Wrote m j b n k → Wrote l i (a ++ b) n k
wrote_then {l} {a} {m} {b} {n} {i} {j} {k} w v = record {
  list = v.list ∙ rw (w.list, w.place) (sets_then a b l i);
  place = let e = wrote-long w in omega (arith, w.place, v.place, length-append a b);
}

-- the same text
pub wrote_as : {l a b m : List ℕ} {i j : ℕ} → Wrote l i a m j → a ≡ b → Wrote l i b m j
wrote_as w e = rw e at w
