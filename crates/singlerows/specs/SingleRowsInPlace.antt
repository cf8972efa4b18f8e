-- A ROW BESIDE THE ONE WITH ENTRIES, IN PLACE: turned, and its one sum put in, it is what the turns of the row leave, though the
-- code does not write it in the order of the turns.
use Rattle.std.specs.Prelude.{Bool, true, false, ◌≢◌, ◌≡◌, refl, leb, ℤ, nat_abs, ◌*ℤ◌, length}
use mathlib.Core.List.{List}
use Rattle.std.proofs.Math.Path.{sym, ap, ap₂}
use Rattle.std.proofs.Common.{◌∙◌, le_refl, add-one, le-ltb, length-set, set-set}
use Prim.Native.Nat.{ℕ, zero, suc, ◌+◌, ◌-◌, ◌*◌, ◌≤◌, ◌<◌}
use Rattle.std.proofs.Math.Decide.{ℕ_discrete, dec_lt}
use native.Mathlib.Omega.{arith}
use Rattle.std.proofs.Math.IntN.{◌+ℤ◌}
use Rattle.std.proofs.Math.ListN.{set}
use Rattle.whole.specs.Diff.{Within}
use Rattle.whole.specs.Stated.{Sign}
use Rattle.whole.specs.Laws.{signs-times}
use Rattle.whole.specs.Machine.{within-sign}
use Rattle.whole.specs.Sum.{sum-cong}
use Rattle.rules.specs.declared.Kind.TheVariants.{Single}
use Rattle.rules.specs.declared.Rule.{Rule}
use Rattle.rules.specs.Numbers.{at}
use Rattle.rules.specs.GoodStages.{Permutes}
use Rattle.rules.proofs.Laws.Membership.{true-false}
use Rattle.rules.proofs.Laws.Lists.{set_at, set_other, same-list}
use Rattle.factor.specs.declared.Layout.{Layout}
use Rattle.factor.specs.Layouts.{row_of}
use Rattle.factor.specs.LayoutInSheet.{InSheet}
use Rattle.factor.specs.SumBounds.{Bounded, bounded-set, Kept, kept-no, kept-yes}
use Rattle.factor.specs.UndoingOrder.{nth_undone, undoing-permutes}
use Rattle.factor.specs.InPlace.{in_place, length-in-place, in-place-other, apart}
use Rattle.joint.specs.Sums.{entries_sum}
use Rattle.joint.specs.Elements.{sign_at, applied_of, undone_of}
use Rattle.joint.specs.RowsInPlace.{Stopped, RowDone, in_row, plain}
use Rattle.singlerows.specs.SingleRows.{beside_sum, undone_beside, Turned}
use Rattle.singlerows.specs.SingleRows.{undone-beside, applied-corner, undone-corner}

-- ---- how a row ends, by its outcome
module _ {most m : ℕ} {step : List ℤ → ℕ → ℤ} {q : ℕ → ℕ} {x y : List ℤ} where
  pub row-through : y ≡ in_place step q m x → Bounded most y → RowDone most step q m x y true
  row-through e b = record {
    through = λ _. (e, b);
    stopped = λ t. absurd (true-false refl t);
    keeps = ap length e ∙ length-in-place step q m x;
  }

  pub row-beyond : length y ≡ length x → Stopped most step q m x → RowDone most step q m x y false
  row-beyond l h = record { through = λ t. absurd (true-false t refl); stopped = λ _. h; keeps = l }

  -- by its last number, which goes into its place or is beyond the bound
  pub row-kept : {z : ℤ} {e : ℕ} {w : List ℤ} {ok : Bool} → Kept most z e w ok y → length y ≡ length x → Bounded most w →
      set w e z ≡ in_place step q m x → (leb (nat_abs z) most ≡ false → Stopped most step q m x) → RowDone most step q m x y ok
  row-kept {z} {e} {w} k l small on far = record {
    through = λ t. (k.put t ∙ on, rw (k.put t) (bounded-set w e small (kept-yes k t)));
    stopped = λ t. far (kept-no k t);
    keeps = l;
  }

-- a number beyond the bound in turn j, and a turn more
pub turn-beyond : {most m : ℕ} (step : List ℤ → ℕ → ℤ) (q : ℕ → ℕ) (j : ℕ) (x : List ℤ) {y : List ℤ} → j < m →
    y ≡ in_place step q j x → leb (nat_abs (step y (q j))) most ≡ false → Stopped most step q m x
turn-beyond step q j x l w far = record { turn = j; before = l; far = rw (← w) far }

pub turn-next : (step : List ℤ → ℕ → ℤ) (q : ℕ → ℕ) (j : ℕ) (x : List ℤ) {y : List ℤ} → y ≡ in_place step q j x →
    set y (q j) (step y (q j)) ≡ in_place step q (j + 1) x
unfolding in_place
turn-next step q j x w = rw (add-one, w)

-- ---- turned element by element
module _ {g : ℕ → ℤ} {d : ℤ} {k : ℕ} where
  pub turned_none : (x : List ℤ) → Turned g d k 0 x x
  turned_none x = record { each = λ j l. absurd (omega arith); other = λ e h. refl; long = refl }

  module _ {m : ℕ} {x y : List ℤ} (t : Turned g d k m x y) where
    -- the element whose turn it is, as it was
    pub turned-ahead : at y (k + m) ≡ at x (k + m)
    turned-ahead = t.other (k + m) (λ j l e. omega arith)

    pub turned-next : k + m < length x → Turned g d k (m + 1) x (set y (k + m) ((d *ℤ g m) *ℤ at x (k + m)))
    turned-next room = record {
      each = λ j l. go j l (ℕ_discrete j m);
      other = λ e h. set_other y (k + m) e _ (λ z. h m (omega arith) (sym z)) ∙ t.other e (λ j l. h j (omega arith));
      long = length-set y (k + m) _ ∙ t.long;
    }
      where
        go : (j : ℕ) → j < m + 1 → Dec (j ≡ m) →
            at (set y (k + m) ((d *ℤ g m) *ℤ at x (k + m))) (k + j) ≡ (d *ℤ g j) *ℤ at x (k + j)
        go j l (yes e) = rw e (set_at y (k + m) _ (omega (arith, t.long)))
        go j l (no e) = set_other y (k + m) (k + j) _ (λ z. omega arith) ∙ t.each j (omega arith)

    pub turned-small : Sign d → ((j : ℕ) → j < m → Sign (g j)) → {B : ℕ} → Bounded B x → Bounded B y
    turned-small sign signs {B} b = record { small = λ e. go e (dec_lt e k) (dec_lt e (k + m)) }
      where
        go : (e : ℕ) → Dec (e < k) → Dec (e < k + m) → Within B (at y e)
        go e (yes p) q = rw (t.other e (λ j l z. omega arith)) (b.small e)
        go e (no p) (no q) = rw (t.other e (λ j l z. omega arith)) (b.small e)
        go e (no p) (yes q) =
            let z : k + (e - k) ≡ e = omega arith in
            let l : e - k < m = omega arith in
            rw (← z, t.each (e - k) l) (within-sign (signs-times sign (signs (e - k) l)) (b.small (k + (e - k))))

-- ---- a block that has at each place of n turns what that turn makes, and is as before elsewhere, is what the turns leave
module _ (step : List ℤ → ℕ → ℤ) (p : ℕ → ℕ) (n : ℕ) (x y : List ℤ) (room : (u : ℕ) → u < n → p u < length x)
    (each : (u : ℕ) → u < n → at y (p u) ≡ step (in_place step p u x) (p u))
    (other : (e : ℕ) → ((u : ℕ) → u < n → p u ≢ e) → at y e ≡ at x e) where
  -- after m turns, where no later turn comes
  agree : (m : ℕ) → m ≤ n → (e : ℕ) → ((u : ℕ) → m ≤ u → u < n → p u ≢ e) → at y e ≡ at (in_place step p m x) e
  unfolding in_place
  agree zero l e h = other e (λ u b. h u (omega arith) b)
  agree (suc m) l e h = go (agree m (omega arith) e) (ℕ_discrete (p m) e)
    where
      early : p m ≢ e → (u : ℕ) → m ≤ u → u < n → Dec (u ≡ m) → p u ≢ e
      early z u a b (yes w) = rw w z
      early z u a b (no w) = h u (omega arith) b

      go : (((u : ℕ) → m ≤ u → u < n → p u ≢ e) → at y e ≡ at (in_place step p m x) e) → Dec (p m ≡ e) →
          at y e ≡ at (set (in_place step p m x) (p m) (step (in_place step p m x) (p m))) e
      go before (yes z) =
          rw (← z) (each m l ∙ sym (set_at (in_place step p m x) (p m) _ (omega (arith, room m l, length-in-place step p m x))))
      go before (no z) =
          before (λ u a b. early z u a b (ℕ_discrete u m))
          ∙ sym (set_other (in_place step p m x) (p m) e _ (λ w. z (sym w)))

  turns-leave : length y ≡ length x → y ≡ in_place step p n x
  turns-leave long =
      same-list 0 y (in_place step p n x) (long ∙ sym (length-in-place step p n x)) (λ e l. absurd (omega arith))
      (λ e l. agree n (le_refl n) e (λ u a b. absurd (omega arith)))

-- ---- the row, turned and with element q set, is the row applied; and undone, where the sum is of the row as turned
pub last-undone : (n r : ℕ) → r < n → nth_undone Single n r (n - 1) ≡ r
unfolding nth_undone
last-undone n r l = rw (le-ltb (n - 1) (n - suc r) (omega arith)) (omega arith)

-- before the last turn it is another
pub early-undone : (n r u : ℕ) → r < n → u < n - 1 → nth_undone Single n r u ≢ r
early-undone n r u l b e =
    apart (undoing-permutes Single n r l) u (n - 1) (omega arith) (omega arith) (λ z. omega arith) (e ∙ sym (last-undone n r l))

module _ (rule : Rule) (c : List ℤ) (fa : Layout) (i : ℕ) (single : fa.kind ≡ Single) (beside : i ≢ fa.row)
    {s : List ℤ} {fb : Layout} (single' : fb.kind ≡ Single) (h : InSheet s fb) (low : fb.row < fb.order) (x : List ℤ)
    (room : i * fb.order + fb.order ≤ length x) {t : List ℤ}
    (turns : Turned (sign_at s fb) (sign_at c fa i) (i * fb.order) fb.order x t) where
  abbrev n : ℕ
  n = fb.order

  abbrev q : ℕ
  q = fb.row

  abbrev k : ℕ
  k = i * fb.order

  abbrev d : ℤ
  d = sign_at c fa i

  pub applied-row : {z : ℤ} → z ≡ applied_of rule c fa s fb x (i * fb.order + fb.row) →
      set t (i * fb.order + fb.row) z ≡ in_place (plain (applied_of rule c fa s fb x)) (in_row fb.order i) fb.order x
  applied-row {z} e =
      turns-leave (plain (applied_of rule c fa s fb x)) (in_row n i) n x (set t (k + q) z) (λ u l. omega arith)
      (λ u l. go u l (ℕ_discrete u q))
      (λ o a. set_other t (k + q) o z (λ w. a q low (sym w)) ∙ turns.other o a)
      (length-set t (k + q) z ∙ turns.long)
    where
      go : (u : ℕ) → u < n → Dec (u ≡ q) → at (set t (k + q) z) (k + u) ≡ applied_of rule c fa s fb x (k + u)
      go u l (yes w) =
          rw w (set_at t (k + q) z (omega (arith, turns.long)) ∙ e)
      go u l (no w) =
          set_other t (k + q) (k + u) z (λ v. omega arith) ∙ turns.each u l
          ∙ sym (applied-corner c fa i single beside h x u l single' w rule)

  -- undone: every element but the last
  abbrev step : List ℤ → ℕ → ℤ
  step v e = undone_of rule c fa s fb v e

  abbrev p : ℕ → ℕ
  p u = in_row fb.order i (nth_undone fb.kind fb.order fb.row u)

  abbrev almost : List ℤ
  almost = set t (k + q) (at x (k + q))

  last : nth_undone fb.kind fb.order fb.row (fb.order - 1) ≡ fb.row
  last = rw single' (last-undone n q low)

  order : Permutes fb.order (λ u. nth_undone fb.kind fb.order fb.row u)
  order = undoing-permutes fb.kind fb.order fb.row low

  almost-undone : almost ≡ in_place step p (n - 1) x
  almost-undone =
      turns-leave step p (n - 1) x almost (λ u l. let b = order.below u (omega arith) in omega arith)
      (λ u l. made u l)
      (λ e a. kept e a (ℕ_discrete e (k + q)))
      (length-set t (k + q) _ ∙ turns.long)
    where
      made : (u : ℕ) → u < n - 1 → at almost (p u) ≡ step (in_place step p u x) (p u)
      made u l =
          let j = nth_undone fb.kind n q u in
          let b : u < n = omega arith in
          let w : j ≢ q = rw single' (early-undone n q u low l) in
          set_other t (k + q) (k + j) _ (λ v. w (omega arith)) ∙ turns.each j (order.below u b)
          ∙ sym (undone-corner c fa i single beside h (in_place step p u x) j (order.below u b) single' w rule
          ∙ ap (◌*ℤ◌ (d *ℤ sign_at s fb j))
          (in-place-other step p u x (k + j) (λ v g z. apart order v u (omega arith) b (λ y. omega arith) (omega arith))))

      kept : (e : ℕ) → ((u : ℕ) → u < n - 1 → p u ≢ e) → Dec (e ≡ k + q) → at almost e ≡ at x e
      kept e a (yes w) = rw w (set_at t (k + q) _ (omega (arith, turns.long)))
      kept e a (no w) =
          set_other t (k + q) e _ w
          ∙ turns.other e (λ j l z. seen j l z (ℕ_discrete (order.from j) (n - 1)))
        where
          seen : (j : ℕ) → j < n → k + j ≡ e → Dec (order.from j ≡ n - 1) → ⊥
          seen j l z (yes v) =
              w (sym z ∙ ap (λ (m : ℕ). k + m) (sym (order.to-from j l) ∙ ap (nth_undone fb.kind n q) v ∙ last))
          seen j l z (no v) =
              a (order.from j) (let b = order.from-below j l in omega arith) (ap (λ (m : ℕ). k + m) (order.to-from j l) ∙ z)

  -- the last looks at the others alone
  last-value : step almost (k + q) ≡ undone_beside rule d (sign_at s fb q) (beside_sum s fb q k t) (at x (k + q))
  unfolding beside_sum entries_sum
  last-value =
      undone-beside c fa i single beside h almost q low rule
      ∙ ap₂ (λ (a b : ℤ). undone_beside rule d (sign_at s fb q) b a)
      (set_at t (k + q) _ (omega (arith, turns.long)))
      (ap₂ ◌+ℤ◌
      (sum-cong (row_of fb q).left _ _
      (λ l b. let a = (h.row q low).left in rw (set_other t (k + q) (k + l) (at x (k + q)) (λ z. omega arith))))
      (sum-cong (row_of fb q).right _ _ (λ l b. rw (set_other t (k + q) (k + (suc q + l)) (at x (k + q)) (λ z. omega arith)))))

  module _ {z : ℤ} (e : z ≡ undone_beside rule (sign_at c fa i) (sign_at s fb fb.row)
      (beside_sum s fb fb.row (i * fb.order) t) (at x (i * fb.order + fb.row))) where
    last_made : step (in_place step p (n - 1) x) (p (n - 1)) ≡ z
    last_made = rw (last, ← almost-undone) (last-value ∙ sym e)

    pub undone-row : set t (i * fb.order + fb.row) z ≡ in_place (undone_of rule c fa s fb)
        (λ u. in_row fb.order i (nth_undone fb.kind fb.order fb.row u)) fb.order x
    unfolding in_place
    undone-row =
        let m : suc (n - 1) ≡ n = omega arith in
        sym (set-set t (k + q) (at x (k + q)) z)
        ∙ ap₂ (λ (v : List ℤ) (o : ℕ). set v (k + o) z) almost-undone (sym last)
        ∙ ap (set (in_place step p (n - 1) x) (p (n - 1))) (sym last_made)
        ∙ ap (λ (u : ℕ). in_place step p u x) m

    pub undone-stops : {most : ℕ} → leb (nat_abs z) most ≡ false → Stopped most (undone_of rule c fa s fb)
        (λ u. in_row fb.order i (nth_undone fb.kind fb.order fb.row u)) fb.order x
    undone-stops f = record { turn = n - 1; before = omega arith; far = rw last_made f }
