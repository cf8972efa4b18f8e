-- THE ROWS OF A PAIR OF FACTORS WITH WEIGHTS, one in each turn: what the block holds after some of them. Each is as from the
-- block before all rows (`row-unwritten`, `element-same`).
use Rattle.std.specs.Prelude.{Bool, true, false, List, ◌≢◌, ◌≡◌, refl, ℕ, ◌+◌, ◌*◌, ◌≤◌, ◌<◌, ℤ, length}
use Rattle.std.proofs.Common.{ap, ◌∙◌, mul-le-mul, arith}
use Rattle.rules.specs.declared.Kind.TheVariants.{Permutation}
use Rattle.rules.specs.declared.Rule.{Rule}
use Rattle.rules.specs.Numbers.{most_cells, bound}
use Rattle.rules.proofs.Laws.Membership.{true-false}
use Rattle.factor.specs.declared.Layout.{Layout}
use Rattle.factor.specs.declared.run.Task.{Task}
use Rattle.factor.specs.Tasks.{limit_of}
use Rattle.factor.specs.SumBounds.{Bounded}
use Rattle.factor.specs.LayoutInSheet.{InSheet}
use Rattle.factor.specs.Steps.{Step, step-stops, step-goes}
use Rattle.factor.specs.InPlace.{in_place}
use Rattle.joint.specs.RowsInPlace.{RowAsks, RowDone, element_of, row_order, row-done-same, element-same}
use Rattle.joint.specs.RowsInPlace.{row-stopped, row-passed, no_row}
use Rattle.rectanglerun.specs.UndoingOrder.{nth_row, pair_order, weights_of}
use Rattle.rectanglerun.specs.UndoingOrder.{nth-row-below, pair-order-permutes, pair-order-row}
use Rattle.rectanglerun.specs.UndoingOrder.{row-unwritten}

-- what is asked of the two factors and of the block
pub record Weighable (task : Task) (c : List ℤ) (fa : Layout) (r : List ℤ) (fb : Layout) (x : List ℤ) : Type 0 where
  pub column : InSheet c fa
  pub row : InSheet r fb
  pub low1 : fa.row < fa.order
  pub low2 : fb.row < fb.order
  pub alike : fa.kind ≡ fb.kind
  pub weighs : fb.kind ≢ Permutation
  pub small : Bounded (limit_of task) x
  pub long : length x ≡ most_cells

module _ (task : Task) (rule : Rule) (c : List ℤ) (fa : Layout) (r : List ℤ) (fb : Layout) (x : List ℤ) where
  -- all rows, or a number beyond the bound
  abbrev pub Weighed : Bool → List ℤ → Type 0
  Weighed ok y = Step (limit_of task) (fa.order * fb.order) (weights_of task rule c fa r fb x) ok y × (length y ≡ most_cells)

  -- the rows of s turns
  pub record Rows (s : ℕ) (y : List ℤ) : Type 0 where
    pub block : y ≡ in_place (element_of task rule c fa r fb x) (pair_order task fa fb) (s * fb.order) x
    pub small : Bounded (limit_of task) y
    pub long : length y ≡ most_cells

module _ {task : Task} {c : List ℤ} {fa : Layout} {r : List ℤ} {fb : Layout} {x : List ℤ} (h : Weighable task c fa r fb x) where
  pub turn_below : {s i : ℕ} → s < fa.order → i ≡ nth_row task fa s → i < fa.order
  turn_below {s} l e = rw e (nth-row-below fa h.low1 task s l)

  pub no_rows : {rule : Rule} → Rows task rule c fa r fb x 0 x
  no_rows = record { block = no_row _ _ _ _; small = h.small; long = h.long }

  -- rows leave a block of which the next ones ask the same
  pub still : {y : List ℤ} → Bounded (limit_of task) y → length y ≡ most_cells → Weighable task c fa r fb y
  still b l = record {
    column = h.column;
    row = h.row;
    low1 = h.low1;
    low2 = h.low2;
    alike = h.alike;
    weighs = h.weighs;
    small = b;
    long = l;
  }

  pub asks : {i : ℕ} → i < fa.order → limit_of task ≡ bound → RowAsks c fa r fb i x
  asks l b = record {
    column = h.column;
    row = h.row;
    below = l;
    low = h.low2;
    small = rw b at h.small;
    long = h.long;
    alike = h.alike;
    weighs = h.weighs;
  }

module _ {task : Task} {c : List ℤ} {fa : Layout} {r : List ℤ} {fb : Layout} {x : List ℤ} (h : Weighable task c fa r fb x) where
  -- what the row of turn s asks
  pub row-asks : {rule : Rule} {s i : ℕ} {y : List ℤ} → s < fa.order → i ≡ nth_row task fa s → limit_of task ≡ bound →
      Rows task rule c fa r fb x s y → RowAsks c fa r fb i y
  row-asks l e b a = asks (still h a.small a.long) (turn_below h l e) b

  -- the row of turn s, made from the block y as it stands
  module _ {rule : Rule} {s i : ℕ} {y z : List ℤ} {ok : Bool} (l : s < fa.order) (a : Rows task rule c fa r fb x s y)
      (e : i ≡ nth_row task fa s)
      (w : RowDone (limit_of task) (element_of task rule c fa r fb y) (row_order task fb i) fb.order y z ok) where
    -- with elements from the block before all rows
    told : RowDone (limit_of task) (element_of task rule c fa r fb x) (row_order task fb i) fb.order y z ok
    told =
        row-done-same _ _
        (λ u g. element-same task rule c fa r fb i u g (λ b. rw e (row-unwritten fa h.low1 task _ fb s l x a.block b)))
        w

    turns : (u : ℕ) → u < fb.order → pair_order task fa fb (s * fb.order + u) ≡ row_order task fb i u
    turns u g = pair-order-row task fa fb s u g ∙ rw e

    pub row_more : ok ≡ true → Rows task rule c fa r fb x (s + 1) z
    row_more t =
        let p = told.through t in
        record {
          block = row-passed _ (pair_order task fa fb) fb.order s (row_order task fb i) x turns a.block p.0;
          small = p.1;
          long = w.keeps ∙ a.long;
        }

    pub row-stops : {b : Bool} → ok ≡ false → b ≡ false → Weighed task rule c fa r fb x b z
    row-stops t n =
        let room : fa.order * fb.order ≤ length x = omega
        (arith, mul-le-mul h.column.order h.row.order, h.long) in (
          rw n
              (step-stops
              (row-stopped (pair-order-permutes fa h.low1 task fb h.low2) (limit_of task) _ x room fa.order fb.order s
              (row_order task fb i) refl l turns a.block (told.stopped t))),
          w.keeps ∙ a.long,
        )

pub rows_all :
    {task : Task} {rule : Rule} {c : List ℤ} {fa : Layout} {r : List ℤ} {fb : Layout} {s : ℕ} {x y : List ℤ} → s ≡ fa.order →
    Rows task rule c fa r fb x s y → Weighed task rule c fa r fb x true y
rows_all {task} {rule} {c} {fa} {r} {fb} {x} e a =
    let all = ap (λ (k : ℕ). in_place (element_of task rule c fa r fb x) (pair_order task fa fb) (k * fb.order) x) e in
    (step-goes (a.block ∙ all) a.small, a.long)

-- ---- some of the turns
-- those from a up to b make z of the block y, whatever block x there was before all rows: code that begins in the middle has it
-- no more
pub record TurnsDone (task : Task) (rule : Rule) (c : List ℤ) (fa : Layout) (r : List ℤ) (fb : Layout) (a b : ℕ) (y : List ℤ)
    (ok : Bool) (z : List ℤ) : Type 0 where
  pub through : ok ≡ true → {x : List ℤ} → Weighable task c fa r fb x → Rows task rule c fa r fb x a y →
      Rows task rule c fa r fb x b z
  pub stopped : ok ≡ false → {x : List ℤ} → Weighable task c fa r fb x → Rows task rule c fa r fb x a y →
      Weighed task rule c fa r fb x ok z

module _ {task : Task} {rule : Rule} {c : List ℤ} {fa : Layout} {r : List ℤ} {fb : Layout} {a : ℕ} {y : List ℤ} where
  pub no-turns : TurnsDone task rule c fa r fb a a y true y
  no-turns = record { through = λ _ h k. k; stopped = λ e. absurd (true-false refl e) }

  -- the row of turn s after them
  module _ {s i : ℕ} {u z : List ℤ} {ok : Bool} (t : TurnsDone task rule c fa r fb a s y true u) (l : s < fa.order)
      (e : i ≡ nth_row task fa s)
      (w : RowDone (limit_of task) (element_of task rule c fa r fb u) (row_order task fb i) fb.order u z ok) where
    pub turns_more : ok ≡ true → TurnsDone task rule c fa r fb a (s + 1) y true z
    turns_more o = record {
      through = λ _ h k. row_more h l (t.through refl h k) e w o;
      stopped = λ f. absurd (true-false refl f);
    }

    pub turns-stop : {b : ℕ} {g : Bool} → ok ≡ false → g ≡ false → TurnsDone task rule c fa r fb a b y g z
    turns-stop o n = record {
      through = λ f. absurd (true-false f n);
      stopped = λ _ h k. row-stops h l (t.through refl h k) e w o n;
    }

-- ---- how all turns end: after the turns from a on, or the row of the last one
module _ {task : Task} {rule : Rule} {c : List ℤ} {fa : Layout} {r : List ℤ} {fb : Layout} {x y z : List ℤ}
    (h : Weighable task c fa r fb x) where
  pub turns-last : {a : ℕ} {ok : Bool} → Rows task rule c fa r fb x a y → TurnsDone task rule c fa r fb a fa.order y ok z →
      Weighed task rule c fa r fb x ok z
  turns-last {ok = true} k t = rows_all refl (t.through refl h k)
  turns-last {ok = false} k t = t.stopped refl h k

  pub row_last : {s i : ℕ} {ok : Bool} → s + 1 ≡ fa.order → Rows task rule c fa r fb x s y → i ≡ nth_row task fa s →
      RowDone (limit_of task) (element_of task rule c fa r fb y) (row_order task fb i) fb.order y z ok →
      Weighed task rule c fa r fb x ok z
  row_last {ok = true} n k e w = rows_all n (row_more h (omega arith) k e w refl)
  row_last {ok = false} n k e w = row-stops h (omega arith) k e w refl refl
