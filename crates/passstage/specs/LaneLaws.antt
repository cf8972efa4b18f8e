-- LAWS OF LINES SIDE BY SIDE: a number that is set, a row, a line; and lines taken one after another.
use Rattle.std.specs.Prelude.{Bool, true, false, List, ◌≢◌, ◌≡◌, refl, ℕ, zero, suc, ◌+◌, ◌*◌, ◌≤◌, ◌<◌, ℤ, pos, length, set, replicate}
use Rattle.std.proofs.Common.{sym, ap, ◌∙◌, arith, length-set, ext_get_or}
use Rattle.std.proofs.Math.Decide.{ℕ_discrete}
use Rattle.whole.specs.Diff.{Within}
use Rattle.rules.specs.Numbers.{most_order, most_cells, at}
use Rattle.laws.specs.Tests.{apart}
use Rattle.rules.specs.Stages.{inside}
use Rattle.rules.specs.GoodStages.{Permutes}
use Rattle.rules.proofs.Laws.Lists.{length-fill, fill-at, fill-same, set_at, set_other}
use Rattle.factor.specs.SumBounds.{Bounded, bounded-set, bounded-fill}
use Rattle.factor.specs.MovedInPlace.{scattered, moved_by, moved_line, to_of, from_of, length-scattered, scattered-at}
use Rattle.factor.specs.MovedInPlace.{scattered-other, scattered-same, moved-scattered, to-permutes, from-permutes}
use Rattle.joint.specs.Sums.{nothing}
use Rattle.passstage.specs.Lanes.{lane}
use Rattle.passstage.specs.LaneSteps.{row_set, LineSet, LinesMade}

-- ---- one line
pub length-lane : (l : ℕ) (x : List ℤ) → length (lane l x) ≡ most_order
unfolding lane
length-lane l x = length-fill most_order _ (replicate most_order (pos 0))

pub lane-at : (l : ℕ) (x : List ℤ) (m : ℕ) → m < most_order → at (lane l x) m ≡ at x (l + m * most_order)
unfolding lane
lane-at l x m b = fill-at most_order (λ m. at x (l + m * most_order)) (replicate most_order (pos 0)) m b (omega arith)

pub lane-bounded : {B : ℕ} (l : ℕ) {x : List ℤ} → Bounded B x → Bounded B (lane l x)
unfolding lane
lane-bounded l h = bounded-fill most_order _ (nothing most_order) (λ e. h.small (l + e * most_order))

lanes-same : (l : ℕ) (x y : List ℤ) → ((m : ℕ) → m < most_order → at x (l + m * most_order) ≡ at y (l + m * most_order)) →
    lane l x ≡ lane l y
unfolding lane
lanes-same l x y h = fill-same most_order _ _ _ h

-- ---- a number that is set
lane-set : (l m : ℕ) (z : ℤ) (x : List ℤ) → l < most_order → m < most_order → length x ≡ most_cells →
    lane l (set x (l + m * most_order) z) ≡ set (lane l x) m z
lane-set l m z x a b long =
    ext_get_or (pos 0) _ _ (length-lane l (set x (l + m * most_order) z) ∙ sym (length-set (lane l x) m z ∙ length-lane l x))
    (λ e c. go e (omega (arith, length-lane l (set x (l + m * most_order) z))) (ℕ_discrete e m))
  where
    go : (e : ℕ) → e < most_order → Dec (e ≡ m) → at (lane l (set x (l + m * most_order) z)) e ≡ at (set (lane l x) m z) e
    go e c (yes q) =
        lane-at l (set x (l + m * most_order) z) e c
        ∙ rw q (set_at x (l + m * most_order) z (omega arith) ∙ sym (set_at (lane l x) m z (omega (arith, length-lane l x))))
    go e c (no q) =
        lane-at l (set x (l + m * most_order) z) e c
        ∙ set_other x (l + m * most_order) (l + e * most_order) z (λ w. q (omega arith))
        ∙ sym (lane-at l x e c)
        ∙ sym (set_other (lane l x) m e z q)

-- ---- a row that is set
pub lane_row : (k m w : ℕ) (z : ℕ → ℤ) (x : List ℤ) → k ≡ m * most_order → m < most_order → w ≤ most_order → length x ≡ most_cells →
    (l : ℕ) → l < w → lane l (row_set k w z x) ≡ set (lane l x) m (z l)
lane_row k m w z x start b wide long l a =
    ext_get_or (pos 0) _ _ (length-lane l (row_set k w z x) ∙ sym (length-set (lane l x) m (z l) ∙ length-lane l x))
    (λ e c. go e (omega (arith, length-lane l (row_set k w z x))) (ℕ_discrete e m))
  where
    here : at (row_set k w z x) (k + l) ≡ z l
    here = scattered-at w (λ i. k + i) z x (λ i d. omega arith) (λ i j d d' q e. q (omega arith)) l a

    go : (e : ℕ) → e < most_order → Dec (e ≡ m) → at (lane l (row_set k w z x)) e ≡ at (set (lane l x) m (z l)) e
    go e c (yes q) =
        let p : l + e * most_order ≡ k + l = omega arith in
        lane-at l (row_set k w z x) e c ∙ ap (at (row_set k w z x)) p ∙ here
        ∙ rw q (sym (set_at (lane l x) m (z l) (omega (arith, length-lane l x))))
    go e c (no q) =
        lane-at l (row_set k w z x) e c
        ∙ scattered-other w (λ i. k + i) z x (l + e * most_order) (λ i d p. q (omega arith))
        ∙ sym (lane-at l x e c)
        ∙ sym (set_other (lane l x) m e (z l) q)

-- ---- a line that is set
pub lane-line : (l n : ℕ) (q : ℕ → ℕ) (g : ℕ → ℤ) (x : List ℤ) → l < most_order → length x ≡ most_cells →
    ((m : ℕ) → m < n → q m < most_order) → lane l (scattered n (λ m. l + q m * most_order) g x) ≡ scattered n q g (lane l x)
unfolding scattered
lane-line l zero q g x a long h = refl
lane-line l (suc n) q g x a long h =
    lane-set l (q n) (g n) (scattered n (λ m. l + q m * most_order) g x) a (h n (omega arith))
    (length-scattered n (λ m. l + q m * most_order) g x ∙ long)
    ∙ ap (λ (v : List ℤ). set v (q n) (g n)) (lane-line l n q g x a long (λ m b. h m (omega arith)))

pub lane-beside : (l n : ℕ) (q : ℕ → ℕ) (g : ℕ → ℤ) (x : List ℤ) → l < most_order → (i : ℕ) → i < most_order → i ≢ l →
    lane i (scattered n (λ m. l + q m * most_order) g x) ≡ lane i x
lane-beside l n q g x a i b d =
    lanes-same i _ x
    (λ m c. scattered-other n (λ m. l + q m * most_order) g x (i + m * most_order) (λ e f p. d (omega arith)))

-- numbers in bound, set in a block in bound
pub scattered-bounded : {B : ℕ} (n : ℕ) (q : ℕ → ℕ) (g : ℕ → ℤ) {x : List ℤ} → Bounded B x → ((m : ℕ) → m < n → Within B (g m)) →
    Bounded B (scattered n q g x)
unfolding scattered
scattered-bounded zero q g h w = h
scattered-bounded (suc n) q g {x} h w =
    bounded-set (scattered n q g x) (q n) (scattered-bounded n q g h (λ m l. w m (omega arith))) (w n (omega arith))

-- a line moved
pub line-moved : {B l n : ℕ} {p : ℕ → ℕ} {x : List ℤ} (back : Bool) → l < most_order → length x ≡ most_cells → n ≤ most_order →
    Permutes n p → Bounded B x → LineSet B l (moved_by back n p (lane l x)) x (moved_line back n p l most_order x)
unfolding moved_line
line-moved {l} {n} {p} {x} back a long few h k = record {
  line =
      lane-line l n (to_of back p) _ x a long (λ m b. let c = (to-permutes back h).below m b in omega arith)
      ∙ scattered-same n _ _ _ _ (lane l x) (λ m b. refl)
      (λ m b. sym (lane-at l x (from_of back p m) (let c = (from-permutes back h).below m b in omega arith)))
      ∙ sym (moved-scattered back n p (lane l x));
  others = lane-beside l n (to_of back p) _ x a;
  small = scattered-bounded n _ _ k (λ m b. k.small _);
  long = length-scattered n _ _ x ∙ long;
}

-- ---- the first l lines are made by g, and the others are as they were
pub record UpTo (most : ℕ) (g : List ℤ → List ℤ) (l : ℕ) (x y : List ℤ) : Type 0 where
  pub done : (i : ℕ) → i < l → lane i y ≡ g (lane i x)
  pub ahead : (i : ℕ) → i < most_order → l ≤ i → lane i y ≡ lane i x
  pub small : Bounded most y
  pub long : length y ≡ most_cells

pub no_line : {most : ℕ} {g : List ℤ → List ℤ} {x : List ℤ} → Bounded most x → length x ≡ most_cells → UpTo most g 0 x x
no_line h k = record { done = λ i l. absurd (omega arith); ahead = λ i l m. refl; small = h; long = k }

pub next-line : {most l : ℕ} (g : List ℤ → List ℤ) {x y z : List ℤ} → l < most_order → UpTo most g l x y →
    LineSet most l (g (lane l y)) y z → UpTo most g (l + 1) x z
next-line {most} {l} g {x} {y} {z} a h k = record {
  done = λ i b. go i b (ℕ_discrete i l);
  ahead = λ i b c. k.others i b (λ e. omega arith) ∙ h.ahead i b (omega arith);
  small = k.small;
  long = k.long;
}
  where
    go : (i : ℕ) → i < l + 1 → Dec (i ≡ l) → lane i z ≡ g (lane i x)
    go i b (yes e) = rw e (k.line ∙ ap g (h.ahead l a (omega arith)))
    go i b (no e) = k.others i (omega arith) e ∙ h.done i (omega arith)

pub all_lines : {most n w : ℕ} {g : List ℤ → List ℤ} {x y : List ℤ} → UpTo most g w x y → LinesMade most n g w x y true
all_lines h = record { goes = λ _. h.done; small = λ _. h.small; stops = λ t. apart t; long = h.long }

pub line_refused : {most n l w : ℕ} (g : List ℤ → List ℤ) {x y z : List ℤ} → l < w → w ≤ most_order → UpTo most g l x y →
    inside most n (g (lane l y)) ≡ false → length z ≡ most_cells → LinesMade most n g w x z false
line_refused {most} {n} {l} g a b h k long = record {
  goes = λ t. apart (sym t);
  small = λ t. apart (sym t);
  stops = λ _. record { line = l; below = a; beyond = rw (h.ahead l (omega arith) (omega arith)) at k };
  long = long;
}
