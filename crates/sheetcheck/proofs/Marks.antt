-- The places of a permutation, each marked as used when it is met: a place that is not marked is a new one. Assumes nothing.
use mathlib.Core.Bool.{Bool, true, false, cond}
use mathlib.Core.List.{List}
use mathlib.Core.Path.{◌≡◌, refl, sym, ap, ◌∙◌}
use Prim.Native.Nat.{ℕ, zero, suc, ◌+◌, ◌-◌, ◌≤◌, ◌<◌}
use native.Mathlib.Decide.{ℕ_discrete}
use native.Mathlib.Nat.{add-zero}
use native.Mathlib.Omega.{arith}
use lib.IntN.{ℤ, nat_abs}
use lib.ListN.{length, get_or, set}
use lib.Seq.{get_or-set_same, get_or-set_other}
use Rattle.rules.specs.declared.Item.TheVariants.{Row, Place}
use Rattle.rules.specs.Numbers.{at, count}
use Rattle.rules.specs.Sheets.{same, among, below, fault_of}
use Rattle.laws.specs.Tests.{apart, same-eq, unless-true}
use Rattle.laws.specs.Readers.{Seen, one-fine}
use Rattle.laws.specs.Accepted.{row_is}
use Rattle.sheetcheck.proofs.Rows.{Saw, saw-more}

among_none : (s : List ℤ) (z : ℤ) (i m : ℕ) → ((j : ℕ) → j < m → at s (i + j) ≡ z → ⊥) → among s z i m ≡ false
unfolding among
among_none s z i zero h = refl
among_none s z i (suc m) h =
    go (same (at s i) z) refl (among_none s z (i + 1) m (λ j l e. h (suc j) (omega arith) (shift j ∙ e)))
  where
    shift : (j : ℕ) → at s (i + suc j) ≡ at s (i + 1 + j)
    shift j = let e : i + suc j ≡ i + 1 + j = omega arith in ap (at s) e

    go :
        (b : Bool) → same (at s i) z ≡ b → among s z (i + 1) m ≡ false →
        cond (same (at s i) z) true (among s z (i + 1) m) ≡ false
    go true e r = absurd (h 0 (omega arith) (ap (at s) (add-zero i) ∙ same-eq (at s i) z e))
    go false e r = rw e r

-- a place that differs from those before it
place-seen :
    (s : List ℤ) (n p k : ℕ) → Seen s (Row n) (p + k) → ((j : ℕ) → j < k → at s (p + j) ≡ at s (p + k) → ⊥) →
    Seen s (Place n p) (p + k)
unfolding fault_of
place-seen s n p k r h =
    let d : p + k - p ≡ k = omega arith in
    one-fine s (Place n p) (p + k) r.there
    (rw (unless-true (below n (at s (p + k))) 4 r.fine, d, among_none s (at s (p + k)) p k h))

-- the first k places were seen, and each of them is marked
pub record Marked (s : List ℤ) (n p k : ℕ) (used : List Bool) : Type 0 where
  pub each : Saw s (Place n p) p k
  pub marks : (j : ℕ) → j < k → get_or used (count s (p + j)) false ≡ true

pub marked_more :
    {s : List ℤ} {n : ℕ} (p k : ℕ) {used : List Bool} → n ≤ length used → Seen s (Row n) (p + k) →
    get_or used (count s (p + k)) false ≡ false → Marked s n p k used →
    Marked s n p (k + 1) (set used (count s (p + k)) true)
marked_more {s} {n} p k {used} room r free h = record {
  each = saw-more p k h.each (place-seen s n p k r new);
  marks = λ j l. go j (ℕ_discrete j k) l;
}
  where
    new : (j : ℕ) → j < k → at s (p + j) ≡ at s (p + k) → ⊥
    new j l e = apart (sym (h.marks j l) ∙ ap (λ (z : ℤ). get_or used (nat_abs z) false) e ∙ free)

    here : get_or (set used (count s (p + k)) true) (count s (p + k)) false ≡ true
    here = get_or-set_same used (count s (p + k)) true false (let b = (row_is r).1 in omega arith)

    there : (c : ℕ) → Dec (c ≡ count s (p + k)) → get_or used c false ≡ true → get_or (set used (count s (p + k)) true) c false ≡ true
    there c (yes e) m = rw e here
    there c (no q) m = get_or-set_other used (count s (p + k)) c true false q ∙ m

    go : (j : ℕ) → Dec (j ≡ k) → j < k + 1 → get_or (set used (count s (p + k)) true) (count s (p + j)) false ≡ true
    go j (yes e) l = rw e here
    go j (no q) l = there (count s (p + j)) (ℕ_discrete (count s (p + j)) (count s (p + k))) (h.marks j (omega arith))
