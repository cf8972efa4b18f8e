-- ROWS UNDER A LOWER OR AN UPPER FACTOR THAT ARE UNDONE: the sums with what is recovered, and the latest of them.
use Rattle.std.specs.Prelude.{Bool, true, false, List, ◌≢◌, ◌≡◌, ℕ, zero, suc, ◌+◌, ◌-◌, ◌*◌, ◌≤◌, ◌<◌, leb, ℤ, pos, nat_abs, ◌+ℤ◌, ◌*ℤ◌, length, set}
use Rattle.std.proofs.Math.Path.{refl}
use Rattle.std.proofs.Common.{sym, ap, ◌∙◌, add-one, arith, length-set}
use Rattle.whole.specs.Diff.{Within}
use Rattle.whole.specs.Machine.{within-le}
use Rattle.whole.specs.Stated.{sum}
use Rattle.whole.specs.Sum.{sum_first}
use Rattle.laws.specs.Tests.{apart}
use Rattle.rules.specs.declared.Rule.{Rule}
use Rattle.rules.specs.declared.Kind.TheVariants.{Lower, Upper}
use Rattle.rules.specs.Factors.{above}
use Rattle.rules.specs.Numbers.{most_order, most_cells, unit, bound, at}
use Rattle.rules.proofs.Laws.Lists.{length-fill}
use Rattle.factor.specs.declared.Layout.{Layout}
use Rattle.factor.specs.SumBounds.{Bounded, bounded-le, bounded-set}
use Rattle.factor.specs.LayoutInSheet.{InSheet, row-wide}
use Rattle.factor.specs.UndoingOrder.{nth_undone}
use Rattle.factor.specs.InPlace.{in_place, length-in-place}
use Rattle.joint.specs.Sums.{Wide, most_column, rest_sums, rest-sums-small}
use Rattle.joint.specs.Elements.{sign_at, diagonal_of, rest_sums_at, undone_from, rounded_rest, undone_rest, undone_of}
use Rattle.joint.specs.RowsInPlace.{RowAsks, RowDone, in_row, onward, run-both, run_short, run-next, run-stops}
use Rattle.joint.specs.RowsInPlace.{undone-here, in_block}
use Rattle.joint.specs.Triangles.{total_of}
use Rattle.joint.specs.RecoveredSums.{RecoveredSums, recovered-sums-start, recovered-sums-next, recovered-sums-small}
use Rattle.joint.specs.RecoveredSums.{recovered-sums-undo}

-- ---- definitions
-- the largest own term
abbrev pub most_own : ℕ
most_own = unit * most_column

-- of numbers v that come in the order q, the latest of t of them; before the first, 0
unfoldable pub recent_of : List ℤ → (ℕ → ℕ) → ℕ → ℤ
recent_of v q zero = pos 0
recent_of v q (suc t) = at v (q t)

-- the sums of row i after t turns
pub record Recovered (c : List ℤ) (fa : Layout) (i : ℕ) (fb : Layout) (t : ℕ) (x v : List ℤ) : Type 0 where
  pub sums : RecoveredSums c fa i fb t x v
  pub small : Bounded most_column v
  pub long : length v ≡ most_order

-- what a run of turns asks, t of them being done
pub record UndoGiven (c : List ℤ) (fa : Layout) (r : List ℤ) (fb : Layout) (i t : ℕ) (x v : List ℤ) : Type 0 where
  pub column : InSheet c fa
  pub row : InSheet r fb
  pub below : i < fa.order
  pub low : fb.row < fb.order
  pub small : Bounded bound x
  pub long : length x ≡ most_cells
  pub recovered : Recovered c fa i fb t x v

-- the place of the element in turn u
abbrev pub undone_turn : Layout → ℕ → ℕ → ℕ
undone_turn fb i u = in_row fb.order i (nth_undone fb.kind fb.order fb.row u)

-- what a run of turns from a to b makes
abbrev pub RunUndone : Rule → List ℤ → Layout → List ℤ → Layout → ℕ → ℕ → ℕ → List ℤ → List ℤ → List ℤ → Bool → Type 0
RunUndone rule c fa r fb i a b x y v ok =
    RowDone bound (undone_of rule c fa r fb) (onward (undone_turn fb i) a) (b - a) x y ok
    × (ok ≡ true → Recovered c fa i fb b y v)

-- a run from turn a on stands before turn t, x₀ the block before it
pub record Undoing (rule : Rule) (c : List ℤ) (fa : Layout) (r : List ℤ) (fb : Layout) (i a t : ℕ) (x₀ x v : List ℤ) : Type 0
  where
    pub from : a ≤ t
    pub block : x ≡ in_place (undone_of rule c fa r fb) (onward (undone_turn fb i) a) (t - a) x₀
    pub small : Bounded bound x
    pub recovered : Recovered c fa i fb t x v

-- t turns of row i are done, x the block before it, y and v as they are now
pub record UndoneTo (rule : Rule) (c : List ℤ) (fa : Layout) (r : List ℤ) (fb : Layout) (i : ℕ) (x : List ℤ) (t : ℕ)
    (y v : List ℤ) : Type 0 where
  pub done : RowDone bound (undone_of rule c fa r fb) (undone_turn fb i) t x y true
  pub given : UndoGiven c fa r fb i t y v

-- ---- laws
pub recent-none : (v : List ℤ) (q : ℕ → ℕ) {t : ℕ} → t ≡ 0 → recent_of v q t ≡ pos 0
unfolding recent_of
recent-none v q e = rw e

pub recent-some : (v : List ℤ) (q : ℕ → ℕ) (t : ℕ) → t ≢ 0 → recent_of v q t ≡ at v (q (t - 1))
unfolding recent_of
recent-some v q zero h = absurd (h refl)
recent-some v q (suc t) h = let e : suc t - 1 ≡ t = omega arith in rw e

pub recent-next : (v : List ℤ) (q : ℕ → ℕ) (t : ℕ) → recent_of v q (t + 1) ≡ at v (q t)
unfolding recent_of
recent-next v q t = rw add-one

-- the last term of a sum apart, and the first
pub sum-last : (m : ℕ) (f : ℕ → ℤ) → m ≢ 0 → sum (m - 1) f +ℤ f (m - 1) ≡ sum m f
unfolding sum
sum-last zero f h = absurd (h refl)
sum-last (suc m) f h = let e : suc m - 1 ≡ m = omega arith in rw e

pub sum_head : (m : ℕ) (f : ℕ → ℤ) → m ≢ 0 → f 0 +ℤ sum (m - 1) (λ j. f (suc j)) ≡ sum m f
sum_head zero f h = absurd (h refl)
sum_head (suc m) f h = let e : suc m - 1 ≡ m = omega arith in rw e (sym (sum_first m f))

-- fewer entries, and those after the first
pub wide-less : {a v : List ℤ} {p k m : ℕ} (n : ℕ) → n ≤ m → Wide a p v k m → Wide a p v k n
wide-less n l h = record {
  room = let d = h.room in omega arith;
  columns = let d = h.columns in omega arith;
  entries = λ j b. h.entries j (omega arith);
  numbers = h.numbers;
}

pub wide-after : {a v : List ℤ} {p k m : ℕ} → m ≢ 0 → Wide a p v k m → Wide a (p + 1) v (k + 1) (m - 1)
wide-after {p} {m} q h =
    let b : 1 ≤ m = one m q in
    record {
      room = let d = h.room in omega arith;
      columns = let d = h.columns in omega arith;
      entries = λ j l. let e : p + 1 + j ≡ p + (j + 1) = omega arith in rw e (h.entries (j + 1) (omega arith));
      numbers = h.numbers;
    }
  where
    one : (m : ℕ) → m ≢ 0 → 1 ≤ m
    one zero h = absurd (h refl)
    one (suc m) h = omega arith

pub lower-turn : (f : Layout) (t : ℕ) → f.kind ≡ Lower → nth_undone f.kind f.order f.row t ≡ t
unfolding nth_undone
lower-turn f t e = rw e

pub upper-turn : (f : Layout) (t : ℕ) → f.kind ≡ Upper → nth_undone f.kind f.order f.row t ≡ f.order - suc t
unfolding nth_undone
upper-turn f t e = rw e

-- an element from its whole sum
pub undone-from : (rule : Rule) (s : List ℤ) (f : Layout) (j : ℕ) (d : ℤ) (v : List ℤ) (x : ℤ) →
    undone_from rule (total_of s f j v) d (sign_at s f j) x ≡ undone_rest rule s f j d v x
unfolding undone_from undone_rest rounded_rest
undone-from rule s f j d v x = refl

-- the entries above a row of an upper factor, and its own
pub above_step : (n t : ℕ) → t < n → above n (n - t) ≡ above n (n - 1 - t) + t
unfolding above
above_step n t l =
    let e : n - t ≡ suc (n - 1 - t) = omega arith in
    let f : n - suc (n - 1 - t) ≡ t = omega arith in
    rw (e, f)

-- ---- runs of turns, one after another
-- before the first, where the code has the order of the row as n
pub undo-start : {c r x v : List ℤ} {fa fb : Layout} {i n : ℕ} → RowAsks c fa r fb i x → n ≡ fb.order →
    v ≡ rest_sums_at c fa i x n → UndoGiven c fa r fb i 0 x v
unfolding rest_sums
undo-start {c} {r} {x} {v} {fa} {fb} {i} h e z =
    let z : v ≡ rest_sums_at c fa i x fb.order = rw e at z in
    record {
      column = h.column;
      row = h.row;
      below = h.below;
      low = h.low;
      small = h.small;
      long = h.long;
      recovered = record {
        sums = recovered-sums-start c fa i fb h.low h.row.order x z;
        small =
            rw z
            (rest-sums-small fb.order (row-wide h.column.order (h.column.row i h.below))
            (bounded-le (omega arith) h.small));
        long = ap length z ∙ length-fill _ _ _;
      };
    }

module _ {rule : Rule} {c r x : List ℤ} {fa fb : Layout} {i : ℕ} where
  pub undone-none : {v : List ℤ} → UndoGiven c fa r fb i 0 x v → UndoneTo rule c fa r fb i x 0 x v
  unfolding in_place
  undone-none g = record {
    done = record { through = λ t. (refl, g.small); stopped = λ t. apart t; keeps = refl };
    given = g;
  }

  -- after one run from turn a to turn b
  module _ (a b : ℕ) {y z v w : List ℤ} {ok : Bool} (h : UndoneTo rule c fa r fb i x a y v)
      (k : RunUndone rule c fa r fb i a b y z w ok) (l : a ≤ b) where
    -- every number passed
    pub undone-more : ok ≡ true → UndoneTo rule c fa r fb i x b z w
    undone-more t =
        let g = h.given in
        record {
          done = run-both (undone_turn fb i) a b refl l h.done (rw t at k.0);
          given = record {
            column = g.column;
            row = g.row;
            below = g.below;
            low = g.low;
            small = (k.0.through t).1;
            long = k.0.keeps ∙ g.long;
            recovered = k.1 t;
          };
        }

    -- one did not
    pub undone-stops : ok ≡ false → b ≤ fb.order →
        RowDone bound (undone_of rule c fa r fb) (undone_turn fb i) fb.order x z ok
    undone-stops t m = run_short (undone_turn fb i) b fb.order refl m t (run-both (undone_turn fb i) a b refl l h.done k.0)

    -- turn b is the last
    pub undone-all : fb.order ≡ b → RowDone bound (undone_of rule c fa r fb) (undone_turn fb i) fb.order x z ok
    undone-all e = run-both (undone_turn fb i) a b e l h.done k.0

-- ---- the turns of a run
pub undoing-starts : {rule : Rule} {c r x v : List ℤ} {fa fb : Layout} {i a : ℕ} → UndoGiven c fa r fb i a x v →
    Undoing rule c fa r fb i a a x x v
unfolding in_place
undoing-starts {a} g =
    let z : a - a ≡ 0 = omega arith in
    record { from = omega arith; block = rw z; small = g.small; recovered = g.recovered }

module _ {rule : Rule} {c r x₀ v₀ x v : List ℤ} {fa fb : Layout} {i a t : ℕ} (g : UndoGiven c fa r fb i a x₀ v₀)
    (h : Undoing rule c fa r fb i a t x₀ x v) where
  keeps : length x ≡ length x₀
  keeps = ap length h.block ∙ length-in-place _ _ (t - a) _

  pub undoing_ends : (b : ℕ) → t ≡ b → RunUndone rule c fa r fb i a b x₀ x v true
  undoing_ends b e = (
    record { through = λ w. (rw e at h.block, h.small); stopped = λ w. apart w; keeps = keeps },
    λ w. rw e at h.recovered,
  )

  -- turn t is that of the element in column j
  module _ (l : t < fb.order) {j : ℕ} (k : j < fb.order) (q : nth_undone fb.kind fb.order fb.row t ≡ j) where
    -- what the element was
    abbrev element : ℤ
    element = undone_of rule c fa r fb x (i * fb.order + j)

    pub undoing-value : undone_from rule (total_of r fb j v) (sign_at c fa i) (sign_at r fb j) (at x (i * fb.order + j))
        ≡ undone_of rule c fa r fb x (i * fb.order + j)
    undoing-value =
        undone-from rule r fb j (sign_at c fa i) v (at x (i * fb.order + j))
        ∙ (rw q at
        (recovered-sums-undo c fa i fb g.low g.row.order g.column g.below t l h.recovered.sums g.row rule))
        ∙ sym (undone-here rule c fa r fb x i j k)

    pub undoing-stops : (b : ℕ) {y w : List ℤ} → t < b → length y ≡ length x₀ →
        leb (nat_abs (undone_of rule c fa r fb x (i * fb.order + j))) bound ≡ false →
        RunUndone rule c fa r fb i a b x₀ y w false
    undoing-stops b m kept far = (
      record {
        through = λ e. apart (sym e);
        stopped = λ e. run-stops _ (undone_turn fb i) a b t x₀ h.from m h.block (rw q far);
        keeps = kept;
      },
      λ e. apart (sym e),
    )

    pub undoing-next : Within bound (undone_of rule c fa r fb x (i * fb.order + j)) →
        Undoing rule c fa r fb i a (t + 1) x₀ (set x (i * fb.order + j) (undone_of rule c fa r fb x (i * fb.order + j)))
        (set v j (at v j +ℤ (diagonal_of (sign_at c fa i) *ℤ undone_of rule c fa r fb x (i * fb.order + j))))
    undoing-next m =
        let d = h.recovered in
        let room = in_block j g.column.order g.row.order g.below k in
        record {
          from = let d = h.from in omega arith;
          block = rw q at (run-next _ (undone_turn fb i) a t x₀ h.from h.block);
          small = bounded-set x (i * fb.order + j) h.small m;
          recovered = record {
            sums =
                rw q at
                (recovered-sums-next c fa i fb g.low g.row.order g.column g.below t l d.sums element
                (rw q (omega (arith, room, keeps, g.long))) d.long);
            small =
                bounded-set v j d.small
                (rw q at
                (recovered-sums-small c fa i fb g.low g.row.order g.column g.below t l d.sums
                (bounded-le (omega arith) h.small) (within-le (omega arith) m)));
            long = length-set v j _ ∙ d.long;
          };
        }
