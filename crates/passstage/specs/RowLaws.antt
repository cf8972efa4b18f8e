-- ROWS OF LINES SIDE BY SIDE: the sums of a row for all lines, a row without entries, and all rows, turn after turn.
use Rattle.std.specs.Prelude.{Bool, true, ◌&&◌, List, ◌≡◌, leb, pos, nat_abs, ◌-ℤ◌, ◌*ℤ◌, length, set}
use Rattle.std.proofs.Math.Bool.{false}
use Rattle.std.proofs.Math.Path.{refl, sym, ap, ap₂}
use Rattle.std.proofs.Common.{◌∙◌, leb-true, add-one}
use Prim.Native.Nat.{ℕ, zero, suc, ◌+◌, ◌-◌, ◌*◌, ◌≤◌, ◌<◌}
use Rattle.std.proofs.Math.Decide.{ℕ_discrete}
use native.Mathlib.Omega.{arith}
use Rattle.std.proofs.Math.IntN.{ℤ, ◌+ℤ◌, +ℤ_idr}
use Rattle.std.proofs.lemmas.List.{set-get_or}
use Rattle.std.specs.Int.Signed.{lt_z}
use Rattle.whole.specs.Diff.{lia, Within}
use Rattle.whole.specs.Laws.{distrib}
use Rattle.whole.specs.Machine.{within-sign}
use Rattle.whole.specs.Stated.{sum, Sign}
use Rattle.whole.specs.Sum.{sum-cong}
use Rattle.laws.specs.Tests.{apart}
use Rattle.rules.specs.declared.Rule.{Rule}
use Rattle.rules.specs.Numbers.{most_order, most_cells, unit, bound, at}
use Rattle.rules.specs.Stages.{fill, R}
use Rattle.rules.specs.GoodStages.{Permutes}
use Rattle.rules.proofs.Laws.Rounding.{rounds-nothing}
use Rattle.factor.specs.declared.Layout.{Layout}
use Rattle.factor.specs.declared.Row.{Row}
use Rattle.factor.specs.Layouts.{row_of, along}
use Rattle.factor.specs.Rounding.{sign_below, sign_above}
use Rattle.factor.specs.SumBounds.{Bounded, RowIn, bounded-le, beyond-there}
use Rattle.factor.specs.LayoutInSheet.{InSheet}
use Rattle.factor.specs.InPlace.{in_place, in-place-other, in-place-stays}
use Rattle.factor.specs.MovedInPlace.{scattered, scattered-other, scattered-same, length-scattered}
use Rattle.factor.specs.UndoingOrder.{undoing-permutes, undoing-reversed, Unseen, row-blind}
use Rattle.joint.specs.Sums.{nothing, zero-at}
use Rattle.joint.specs.RowsInPlace.{plain, steps-along, in-place-fill}
use Rattle.linerun.specs.Steps.{rounded_sum, applied_at, undone_at}
use Rattle.linerun.specs.LineBounds.{row-of-16}
use Rattle.passstage.specs.Parts.{whole, rest, whole-small, rest-small, most_part, Raised, raised-small, parts_sum, Parting}
use Rattle.passstage.specs.Parts.{zeros, from_nothing, parts-small, joined, parts-sum, most_parts}
use Rattle.passstage.specs.Lanes.{lane}
use Rattle.passstage.specs.LaneSteps.{made_by, step_at, turn_of, after_turns, row_set, RowGiven, Far, RowMade}
use Rattle.passstage.specs.LaneSteps.{LinesMade}
use Rattle.passstage.specs.LaneLaws.{length-lane, lane-at, lane_row, scattered-bounded}

-- ---- one number
step-made : (back : Bool) (rule : Rule) (s : List ℤ) (f : Layout) (u : List ℤ) (m : ℕ) →
    made_by back (at s (f.signs + m)) (at u m) (rounded_sum rule s f u m) ≡ step_at back rule s f u m
unfolding made_by step_at applied_at undone_at
step-made true rule s f u m = refl
step-made false rule s f u m = refl

-- by the test of its sign
pub made-below : (back : Bool) {d : ℤ} (x q : ℤ) → Sign d → lt_z d (pos 0) ≡ true → q -ℤ x ≡ made_by back d x q
unfolding made_by
made-below true x q s t = rw (sign_below (x -ℤ q) s t) (simp lia (omega arith))
made-below false x q s t = rw (sign_below x s t) (simp lia (omega arith))

pub made-back : {d : ℤ} (x q : ℤ) → Sign d → lt_z d (pos 0) ≡ false → x -ℤ q ≡ made_by true d x q
unfolding made_by
made-back x q s t = sym (sign_above (x -ℤ q) s t)

pub made-forth : {d : ℤ} (x q : ℤ) → Sign d → lt_z d (pos 0) ≡ false → x +ℤ q ≡ made_by false d x q
unfolding made_by
made-forth x q s t = rw (sign_above x s t)

made-turned : (back : Bool) (d x : ℤ) → made_by back d x (pos 0) ≡ d *ℤ x
unfolding made_by
made-turned true d x = let e : x -ℤ pos 0 ≡ x = simp lia (omega arith) in rw e
made-turned false d x = +ℤ_idr (d *ℤ x)

-- ---- a row without entries
along-none : (s : List ℤ) (r : Row) (m : ℕ) (u : List ℤ) → r.left + r.right ≡ 0 → along (at s) r m u ≡ pos 0
unfolding along sum
along-none s r m u e =
    let a : r.left ≡ 0 = omega arith in
    let b : r.right ≡ 0 = omega arith in
    rw (a, b)

step-none : (back : Bool) (rule : Rule) (s : List ℤ) (f : Layout) (u : List ℤ) (m : ℕ) →
    (row_of f m).left + (row_of f m).right ≡ 0 → at s (f.signs + m) *ℤ at u m ≡ step_at back rule s f u m
unfolding rounded_sum
step-none back rule s f u m e =
    sym (made-turned back (at s (f.signs + m)) (at u m))
    ∙ ap (made_by back (at s (f.signs + m)) (at u m))
    (sym (ap (R rule unit) (along-none s (row_of f m) m u e) ∙ rounds-nothing rule unit (omega arith)))
    ∙ step-made back rule s f u m

-- ---- the sums of row m
regroup : (a b c d : ℤ) → (pos unit *ℤ (a +ℤ b)) +ℤ (c +ℤ d) ≡ ((pos unit *ℤ a) +ℤ c) +ℤ ((pos unit *ℤ b) +ℤ d)
regroup a b c d = simp distrib (simp lia (omega arith))

module _ {s : List ℤ} {f : Layout} (h : InSheet s f) (m : ℕ) (l : m < f.order) {x : List ℤ} (q : Bounded bound x) where
  abbrev r : Row
  r = row_of f m

  row : RowIn s most_order r m
  row = row-of-16 h m l

  pub left-parting : Parting s (row_of f m).at (row_of f m).left x 0 zeros
  left-parting = record {
    some = 0;
    few = let a = row.left in let b = row.right in omega arith;
    room = let a = row.room in omega arith;
    places = λ j b. let d = row.left in let e = row.right in omega arith;
    entries = λ j b. row.entries j (omega arith);
    numbers = q;
    small = nothing (2 * most_order);
    long = refl;
  }

  -- after the entries on the left, of w lines
  module _ {w : ℕ} {u : List ℤ} (a : Raised w (parts_sum whole s (row_of f m).at (row_of f m).left x 0)
      (parts_sum rest s (row_of f m).at (row_of f m).left x 0) zeros u) where
    left-small : Bounded ((row_of f m).left * most_part) u
    left-small =
        bounded-le (omega arith)
        (raised-small (nothing {B = 0} (2 * most_order))
        (λ c. parts-small left-parting whole whole-small r.left (omega arith) c)
        (λ c. parts-small left-parting rest (λ z _. rest-small z) r.left (omega arith) c) a)

    pub right-parting : Parting s ((row_of f m).at + (row_of f m).left) (row_of f m).right x ((m + 1) * most_order) u
    right-parting = record {
      some = r.left;
      few = let a = row.left in let b = row.right in omega arith;
      room = let a = row.room in omega arith;
      places = λ j b. let d = row.right in omega arith;
      entries = λ j b. let e : r.at + (r.left + j) ≡ r.at + r.left + j = omega arith in
          rw e at (row.entries (r.left + j) (omega arith));
      numbers = q;
      small = left-small;
      long = a.long;
    }

    -- and after those on the right
    module _ {v : List ℤ} (b : Raised w
        (parts_sum whole s ((row_of f m).at + (row_of f m).left) (row_of f m).right x ((m + 1) * most_order))
        (parts_sum rest s ((row_of f m).at + (row_of f m).left) (row_of f m).right x ((m + 1) * most_order)) u v) where
      pub sums-small : Bounded most_parts v
      sums-small =
          let e = row.left in let d = row.right in
          bounded-le (omega arith)
          (raised-small left-small (λ c. parts-small right-parting whole whole-small r.right (omega arith) c)
          (λ c. parts-small right-parting rest (λ z _. rest-small z) r.right (omega arith) c) b)

      pub sums-along : (c : ℕ) → c < w → w ≤ most_order → joined v c ≡ along (at s) (row_of f m) m (lane c x)
      unfolding along
      sums-along c d wide =
          ap₂ (λ (y z : ℤ). (pos unit *ℤ y) +ℤ z)
          (b.wholes c d ∙ ap (λ (z : ℤ). z +ℤ right whole) (from_nothing (a.wholes c d) (zero-at (2 * most_order) c)))
          (b.rests c d ∙ ap (λ (z : ℤ). z +ℤ right rest) (from_nothing (a.rests c d) (zero-at (2 * most_order) (most_order + c))))
          ∙ regroup (left whole) (right whole) (left rest) (right rest)
          ∙ ap₂ ◌+ℤ◌
          (parts-sum s r.at r.left x 0 c
          ∙ sum-cong r.left _ _ (λ j g.
          let e : 0 + j * most_order + c ≡ c + j * most_order = omega arith in
          ap (λ (z : ℤ). at s (r.at + j) *ℤ z)
          (ap (at x) e ∙ sym (lane-at c x j (let k = row.left in let n = row.right in omega arith)))))
          (parts-sum s (r.at + r.left) r.right x ((m + 1) * most_order) c
          ∙ sum-cong r.right _ _ (λ j g.
          let e : (m + 1) * most_order + j * most_order + c ≡ c + (suc m + j) * most_order = omega arith in
          ap (λ (z : ℤ). at s (r.at + r.left + j) *ℤ z)
          (ap (at x) e ∙ sym (lane-at c x (suc m + j) (let k = row.right in omega arith)))))
        where
          left : (ℤ → ℤ) → ℤ
          left part = parts_sum part s r.at r.left x 0 c

          right : (ℤ → ℤ) → ℤ
          right part = parts_sum part s (r.at + r.left) r.right x ((m + 1) * most_order) c

-- ---- how a row ends
pub row_goes : {k w : ℕ} {z : ℕ → ℤ} {x y : List ℤ} → length x ≡ most_cells → y ≡ row_set k w z x → Bounded bound y →
    RowMade k w z x y true
row_goes {k} {w} {z} {x} h e b = record {
  goes = λ _. e;
  small = λ _. b;
  stops = λ t. apart t;
  long = ap length e ∙ length-scattered w (λ l. k + l) z x ∙ h;
}

pub row-stops : {k w : ℕ} {z : ℕ → ℤ} {x y : List ℤ} → length y ≡ most_cells → Far w z → RowMade k w z x y false
row-stops h f = record { goes = λ t. apart (sym t); small = λ t. apart (sym t); stops = λ _. f; long = h }

-- whether the first w of the numbers z are all in bound
pub record Judged (w : ℕ) (z : ℕ → ℤ) (ok : Bool) : Type 0 where
  pub all : ok ≡ true → (l : ℕ) → l < w → Within bound (z l)
  pub one : ok ≡ false → Far w z

pub judged-none : {z : ℕ → ℤ} → Judged 0 z true
judged-none = record { all = λ _ l b. absurd (omega arith); one = λ t. apart t }

pub judged-next : {z : ℕ → ℤ} {a b : Bool} (w : ℕ) → Judged w z a → b ≡ leb (nat_abs (z w)) bound → Judged (w + 1) z (a && b)
judged-next {z} {a = true} {b = true} w j t = record {
  all = λ _ l b. go l b (ℕ_discrete l w);
  one = λ e. apart e;
}
  where
    go : (l : ℕ) → l < w + 1 → Dec (l ≡ w) → Within bound (z l)
    go l b (yes e) = rw e (record { within = leb-true (nat_abs (z w)) bound (sym t) })
    go l b (no e) = j.all refl l (omega arith)
judged-next {a = true} {b = false} w j t = record {
  all = λ e. apart (sym e);
  one = λ _. record { line = w; below = omega arith; far = sym t };
}
judged-next {a = false} {b} w j t = record {
  all = λ e. apart (sym e);
  one = λ _. let f = j.one refl in record { line = f.line; below = let l = f.below in omega arith; far = f.far };
}

-- so it ends
pub row-judged : {k w : ℕ} {z : ℕ → ℤ} {x y : List ℤ} {ok : Bool} → length x ≡ most_cells → Bounded bound x →
    y ≡ row_set k w z x → Judged w z ok → RowMade k w z x y ok
row-judged {k} {w} {z} {x} h q e j = record {
  goes = λ _. e;
  small = λ t. rw e (scattered-bounded w (λ l. k + l) z q (j.all t));
  stops = j.one;
  long = ap length e ∙ length-scattered w (λ l. k + l) z x ∙ h;
}

-- the same numbers
row_same : {k w : ℕ} {z v : ℕ → ℤ} {x y : List ℤ} {ok : Bool} → ((l : ℕ) → l < w → z l ≡ v l) → RowMade k w z x y ok →
    RowMade k w v x y ok
row_same {k} {w} {z} {v} {x} e h = record {
  goes = λ t. h.goes t ∙ scattered-same w _ _ z v x (λ l b. refl) e;
  small = h.small;
  stops = λ t. let a = h.stops t in
      record { line = a.line; below = a.below; far = rw (e a.line a.below) at a.far };
  long = h.long;
}

-- the number whose turn it is, as it was
pub row-ahead : (k l : ℕ) (z : ℕ → ℤ) (x : List ℤ) {y : List ℤ} → y ≡ row_set k l z x → at y (k + l) ≡ at x (k + l)
row-ahead k l z x e =
    ap (λ (v : List ℤ). at v (k + l)) e ∙ scattered-other l (λ i. k + i) z x (k + l) (λ i b d. omega arith)

-- and one number more
pub row_next : (k l : ℕ) (z : ℕ → ℤ) (x : List ℤ) {y : List ℤ} → y ≡ row_set k l z x → set y (k + l) (z l) ≡ row_set k (l + 1) z x
unfolding scattered
row_next k l z x e = rw (add-one, e)

-- numbers set to what they are
pub row-still : (k w : ℕ) (z : ℕ → ℤ) (x : List ℤ) → ((l : ℕ) → z l ≡ at x (k + l)) → row_set k w z x ≡ x
unfolding scattered
row-still k zero z x h = refl
row-still k (suc w) z x h = rw (row-still k w z x h, h w) (set-get_or x (k + w) (pos 0))

-- ---- row m of all lines
module _ {s : List ℤ} {f : Layout} (h : InSheet s f) (m : ℕ) (l : m < f.order) {x : List ℤ} (q : Bounded bound x) (w : ℕ)
    (wide : w ≤ most_order) where
  pub row-given : length x ≡ most_cells → RowGiven (at s (f.signs + m)) (m * most_order) w x
  row-given long = record {
    sign = h.sign m l;
    wide = wide;
    places = let o = h.order in omega arith;
    small = q;
    long = long;
  }

module _ (back : Bool) (rule : Rule) {s : List ℤ} {f : Layout} (h : InSheet s f) (m : ℕ) (l : m < f.order) {x : List ℤ}
    (q : Bounded bound x) (w : ℕ) (wide : w ≤ most_order) where
  place : (i : ℕ) → at x (m * most_order + i) ≡ at (lane i x) m
  place i =
      let e : m * most_order + i ≡ i + m * most_order = omega arith in
      ap (at x) e ∙ sym (lane-at i x m (let o = h.order in omega arith))

  -- without entries
  pub row-turned : {y : List ℤ} → length x ≡ most_cells → (row_of f m).left + (row_of f m).right ≡ 0 →
      y ≡ row_set (m * most_order) w (λ i. at s (f.signs + m) *ℤ at x (m * most_order + i)) x →
      RowMade (m * most_order) w (λ i. step_at back rule s f (lane i x) m) x y true
  row-turned long none e =
      row_same
      (λ i b. ap (λ (z : ℤ). at s (f.signs + m) *ℤ z) (place i) ∙ step-none back rule s f (lane i x) m none)
      (row_goes long e
      (rw e (scattered-bounded w _ _ q (λ i b. within-sign (h.sign m l) (q.small (m * most_order + i))))))

  -- by the sums
  pub row-summed : (v : List ℤ) {y : List ℤ} {ok : Bool} →
      ((i : ℕ) → i < w → joined v i ≡ along (at s) (row_of f m) m (lane i x)) →
      RowMade (m * most_order) w (λ i. made_by back (at s (f.signs + m)) (at x (m * most_order + i)) (R rule unit (joined v i))) x
      y ok →
      RowMade (m * most_order) w (λ i. step_at back rule s f (lane i x) m) x y ok
  unfolding rounded_sum
  row-summed v e g =
      row_same
      (λ i b.
      ap₂ (λ (z a : ℤ). made_by back (at s (f.signs + m)) z (R rule unit a)) (place i) (e i b)
      ∙ step-made back rule s f (lane i x) m)
      g

-- ---- the order of the rows
pub turn-permutes : (back : Bool) (f : Layout) → f.row < f.order → Permutes f.order (turn_of back f)
unfolding turn_of
turn-permutes true f b = undoing-permutes f.kind f.order f.row b
turn-permutes false f b = undoing-reversed f.kind f.order f.row b

-- ---- all rows
-- the lines after t turns
pub record Turns (back : Bool) (rule : Rule) (s : List ℤ) (f : Layout) (w t : ℕ) (x y : List ℤ) : Type 0 where
  pub lines : (l : ℕ) → l < w → lane l y ≡ after_turns back rule s f t (lane l x)
  pub small : Bounded bound y
  pub long : length y ≡ most_cells

module _ {back : Bool} {rule : Rule} {s : List ℤ} {f : Layout} {w : ℕ} {x : List ℤ} where
  pub no-turn : Bounded bound x → length x ≡ most_cells → Turns back rule s f w 0 x x
  unfolding in_place
  no-turn h k = record { lines = λ l b. refl; small = h; long = k }

  pub turns-done : {y : List ℤ} → Turns back rule s f w f.order x y →
      LinesMade bound f.order (after_turns back rule s f f.order) w x y true
  turns-done u = record { goes = λ _. u.lines; small = λ _. u.small; stops = λ t. apart t; long = u.long }

module _ (back : Bool) (rule : Rule) {s : List ℤ} {f : Layout} (h : InSheet s f) (b : f.row < f.order) {w t : ℕ}
    {x y z : List ℤ} (wide : w ≤ most_order) (l : t < f.order) (u : Turns back rule s f w t x y) {ok : Bool}
    (r : RowMade (turn_of back f t * most_order) w (λ l. step_at back rule s f (lane l y) (turn_of back f t)) y z ok) where
  abbrev p : ℕ → ℕ
  p = turn_of back f

  here : p t < most_order
  here = let o = h.order in let c = (turn-permutes back f b).below t l in omega arith

  pub turns_next : ok ≡ true → Turns back rule s f w (t + 1) x z
  unfolding in_place
  turns_next o = record {
    lines = λ i c.
        ap (lane i) (r.goes o) ∙ lane_row (p t * most_order) (p t) w _ y refl here wide u.long i c
        ∙ rw (add-one, u.lines i c);
    small = r.small o;
    long = r.long;
  }

  pub turns-stop : ok ≡ false → LinesMade bound f.order (after_turns back rule s f f.order) w x z false
  turns-stop o =
      let a = r.stops o in
      let v = lane a.line x in
      record {
        goes = λ e. apart (sym e);
        small = λ e. apart (sym e);
        stops = λ _. record {
          line = a.line;
          below = a.below;
          beyond =
              beyond-there bound f.order (after_turns back rule s f f.order v) (p t) _ ((turn-permutes back f b).below t l)
              (in-place-stays (turn-permutes back f b) (step_at back rule s f) v
              (let d = h.order in omega (arith, length-lane a.line x)) t f.order l (omega arith))
              (rw (u.lines a.line a.below) at a.far);
        };
        long = r.long;
      }

-- ---- applied: a row looks at no number that was written before it
along-same : (s : List ℤ) (r : Row) (m : ℕ) (u v : List ℤ) → ((j : ℕ) → j < r.left → at u j ≡ at v j) →
    ((j : ℕ) → j < r.right → at u (suc m + j) ≡ at v (suc m + j)) → along (at s) r m u ≡ along (at s) r m v
unfolding along
along-same s r m u v a b =
    ap₂ ◌+ℤ◌ (sum-cong r.left _ _ (λ j d. rw (a j d))) (sum-cong r.right _ _ (λ j d. rw (b j d)))

pub applied-in-place : (rule : Rule) (s : List ℤ) (f : Layout) (u : List ℤ) → f.row < f.order → f.order ≤ length u →
    after_turns false rule s f f.order u ≡ fill f.order (applied_at rule s f u) u
unfolding step_at
applied-in-place rule s f u b room =
    steps-along (step_at false rule s f) (plain (applied_at rule s f u)) p n u same
    ∙ in-place-fill (turn-permutes false f b) (applied_at rule s f u) u room
  where
    n : ℕ
    n = f.order

    p : ℕ → ℕ
    p = turn_of false f

    unseen : (t e : ℕ) → t < n → e < t → Unseen (row_of f (p t)) (p t) (p e)
    unseen t e l d = unfold turn_of in row-blind f (n - suc t) (n - suc e) b (omega arith) (omega arith)

    same : (t : ℕ) → t < n → step_at false rule s f (after_turns false rule s f t u) (p t) ≡ applied_at rule s f u (p t)
    same t l = unfold step_at in unfold applied_at in unfold rounded_sum in
        ap₂ (λ (z a : ℤ). (at s (f.signs + p t) *ℤ z) +ℤ R rule unit a)
        (other (p t) (λ e d g. (unseen t e l d).diagonal (sym g)))
        (along-same s (row_of f (p t)) (p t) _ u
        (λ j c. other j (λ e d g. (unseen t e l d).left j c (sym g)))
        (λ j c. other (suc (p t) + j) (λ e d g. (unseen t e l d).right j c (sym g))))
      where
        other : (e : ℕ) → ((i : ℕ) → i < t → p i ≡ e → ⊥) → at (after_turns false rule s f t u) e ≡ at u e
        other e g = in-place-other (step_at false rule s f) p t u e g
