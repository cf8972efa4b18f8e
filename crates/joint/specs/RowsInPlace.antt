-- A ROW OF ELEMENTS IN m TURNS: what the block becomes where every number made on the way is in bound, or the turn that makes one
-- beyond it.
use Rattle.std.specs.Prelude.{Bool, true, false, List, ◌≢◌, ◌≡◌, refl, ℕ, zero, suc, ◌+◌, ◌-◌, ◌*◌, ◌≤◌, ◌<◌, leb, ℤ, pos, nat_abs, length, set}
use Rattle.std.proofs.Common.{sym, ap, ◌∙◌, subst, add-suc, add-zero, arith}
use Rattle.std.proofs.Math.Nat as NatL
use Rattle.laws.specs.Tests.{apart}
use Rattle.rules.specs.declared.Rule.{Rule}
use Rattle.rules.specs.declared.Kind.TheVariants.{Permutation}
use Rattle.rules.specs.Numbers.{most_order, most_cells, unit, bound, at}
use Rattle.rules.specs.Stages.{fill, inside}
use Rattle.rules.specs.GoodStages.{Permutes}
use Rattle.rules.proofs.Laws.Lists.{length-fill, fill-at, fill-past, same-list}
use Rattle.rules.proofs.Laws.Rectangles.{row-of, col-of}
use Rattle.factor.specs.declared.Layout.{Layout}
use Rattle.factor.specs.declared.run.Task.{Task}
use Rattle.factor.specs.declared.run.Task.TheVariants.{Forward, Inverse, Allowance}
use Rattle.factor.specs.Layouts.{row_of}
use Rattle.factor.specs.LayoutInSheet.{InSheet}
use Rattle.factor.specs.UndoingOrder.{nth_undone}
use Rattle.factor.specs.Tasks.{is_inverse}
use Rattle.factor.specs.SumBounds.{Bounded, beyond-there}
use Rattle.factor.specs.InPlace.{in_place, length-in-place, in-place-other, in-place-stays}
use Rattle.joint.specs.Sums.{SameRows, columns-same}
use Rattle.joint.specs.Elements.{sign_at, diagonal_of, sums_at, applied_at, undone_at, applied_of, undone_of}
use Rattle.joint.specs.Allowances.{row_magnitudes, side_by_side, magnitude_sums, whole_row, allowed_at, allowed_of}

pub record Stopped (most : ℕ) (step : List ℤ → ℕ → ℤ) (q : ℕ → ℕ) (m : ℕ) (x : List ℤ) : Type 0 where
  pub turn : ℕ
  pub before : turn < m
  pub far : leb (nat_abs (step (in_place step q turn x) (q turn))) most ≡ false

-- x before, y after; y is as long as x, whether a number was beyond the bound or not
pub record RowDone (most : ℕ) (step : List ℤ → ℕ → ℤ) (q : ℕ → ℕ) (m : ℕ) (x y : List ℤ) (ok : Bool) : Type 0 where
  pub through : ok ≡ true → (y ≡ in_place step q m x) × Bounded most y
  pub stopped : ok ≡ false → Stopped most step q m x
  pub keeps : length y ≡ length x

-- what row i asks: two factors of one kind that has weights, and a block in bound
pub record RowAsks (c : List ℤ) (fa : Layout) (r : List ℤ) (fb : Layout) (i : ℕ) (x : List ℤ) : Type 0 where
  pub column : InSheet c fa
  pub row : InSheet r fb
  pub below : i < fa.order
  pub low : fb.row < fb.order
  pub small : Bounded bound x
  pub long : length x ≡ most_cells
  pub alike : fa.kind ≡ fb.kind
  pub weighs : fb.kind ≢ Permutation

-- the elements of row i of rows of n, in reading order
abbrev pub in_row : ℕ → ℕ → ℕ → ℕ
in_row n i j = i * n + j

-- a step that looks at a block of its own, and not at the one that it fills
abbrev pub plain : (ℕ → ℤ) → List ℤ → ℕ → ℤ
plain f v e = f e

-- ---- by the task
-- the turns of row i: undone, in the order of the row sheet's factor; else in reading order
unfoldable pub row_order : Task → Layout → ℕ → ℕ → ℕ
row_order Forward fb i u = in_row fb.order i u
row_order Inverse fb i u = in_row fb.order i (nth_undone fb.kind fb.order fb.row u)
row_order Allowance fb i u = in_row fb.order i u

-- what element e becomes: undone, from the block v as it stands; else from the block x before
unfoldable pub element_of : Task → Rule → List ℤ → Layout → List ℤ → Layout → List ℤ → List ℤ → ℕ → ℤ
element_of Forward rule c fa r fb x v e = plain (applied_of rule c fa r fb x) v e
element_of Inverse rule c fa r fb x v e = undone_of rule c fa r fb v e
element_of Allowance rule c fa r fb x v e = plain (allowed_of rule c fa r fb x) v e

-- ---- laws

-- whatever the order
pub in-place-fill : {n : ℕ} {p : ℕ → ℕ} → Permutes n p → (f : ℕ → ℤ) (x : List ℤ) → n ≤ length x →
    in_place (plain f) p n x ≡ fill n f x
in-place-fill {n} {p} h f x room =
    same-list n _ _
    (length-in-place (plain f) p n x ∙ sym (length-fill n f x))
    (λ e l.
    let b = h.from-below e l in
    ap (at (in_place (plain f) p n x)) (sym (h.to-from e l)) ∙ in-place-stays h (plain f) x room (h.from e) n b (omega arith)
    ∙ ap f (h.to-from e l)
    ∙ sym (fill-at n f x e l room))
    (λ e l. in-place-other (plain f) p n x e (λ u b z. let k = h.below u b in omega arith) ∙ sym (fill-past n f x e l))

-- steps that make the same numbers
pub steps-same : (f g : List ℤ → ℕ → ℤ) (q : ℕ → ℕ) (m : ℕ) (x : List ℤ) →
    ((u : ℕ) → u < m → (v : List ℤ) → f v (q u) ≡ g v (q u)) → in_place f q m x ≡ in_place g q m x
unfolding in_place
steps-same f g q zero x h = refl
steps-same f g q (suc m) x h = rw (steps-same f g q m x (λ u l. h u (omega arith)), h m (omega arith) (in_place g q m x))

-- the same, where only the blocks on the way are looked at
pub steps-along : (f g : List ℤ → ℕ → ℤ) (q : ℕ → ℕ) (m : ℕ) (x : List ℤ) →
    ((u : ℕ) → u < m → f (in_place f q u x) (q u) ≡ g (in_place f q u x) (q u)) → in_place f q m x ≡ in_place g q m x
unfolding in_place
steps-along f g q zero x h = refl
steps-along f g q (suc m) x h =
    rw (h m (omega arith), steps-along f g q m x (λ u l. h u (omega arith)))

-- orders that name the same elements
orders-same : (step : List ℤ → ℕ → ℤ) (p q : ℕ → ℕ) (m : ℕ) (x : List ℤ) → ((u : ℕ) → u < m → p u ≡ q u) →
    in_place step p m x ≡ in_place step q m x
unfolding in_place
orders-same step p q zero x e = refl
orders-same step p q (suc m) x e = rw (orders-same step p q m x (λ u l. e u (omega arith)), e m (omega arith))

-- what is set in place goes on from where it stands
in-place-on : (step : List ℤ → ℕ → ℤ) (p q : ℕ → ℕ) (a b : ℕ) (x : List ℤ) → ((u : ℕ) → u < b → p (a + u) ≡ q u) →
    in_place step q b (in_place step p a x) ≡ in_place step p (a + b) x
unfolding in_place
in-place-on step p q a zero x e = rw add-zero
in-place-on step p q a (suc b) x e = rw (in-place-on step p q a b x (λ u l. e u (omega arith)), add-suc, e b (omega arith))

-- an order from turn a on
abbrev pub onward : (ℕ → ℕ) → ℕ → ℕ → ℕ
onward q a u = q (a + u)

-- one turn more
pub run-next : (step : List ℤ → ℕ → ℤ) (q : ℕ → ℕ) (a j : ℕ) (x : List ℤ) {y : List ℤ} → a ≤ j →
    y ≡ in_place step (onward q a) (j - a) x → set y (q j) (step y (q j)) ≡ in_place step (onward q a) (j + 1 - a) x
unfolding in_place
run-next step q a j x {y} l w =
    let e : j + 1 - a ≡ suc (j - a) = omega arith in
    let f : a + (j - a) ≡ j = omega arith in
    rw (e, f, w)

-- a number beyond the bound in turn j
pub run-stops : {most : ℕ} (step : List ℤ → ℕ → ℤ) (q : ℕ → ℕ) (a b j : ℕ) (x : List ℤ) {y : List ℤ} → a ≤ j → j < b →
    y ≡ in_place step (onward q a) (j - a) x → leb (nat_abs (step y (q j))) most ≡ false → Stopped most step (onward q a) (b - a) x
run-stops step q a b j x l k w far =
    let f : a + (j - a) ≡ j = omega arith in record { turn = j - a; before = omega arith; far = rw (f, ← w) far }

-- a run after a run
module _ {most a : ℕ} (b : ℕ) {step : List ℤ → ℕ → ℤ} {q : ℕ → ℕ} {x y : List ℤ} where
  pub run-stopped : RowDone most step q a x y false → RowDone most step q (a + b) x y false
  run-stopped h = record {
    through = λ t. apart (sym t);
    stopped = λ t. let s = h.stopped refl in
        record { turn = s.turn; before = let l = s.before in omega arith; far = s.far };
    keeps = h.keeps;
  }

  pub run_on : {z : List ℤ} {ok : Bool} → RowDone most step q a x y true → RowDone most step (onward q a) b y z ok →
      RowDone most step q (a + b) x z ok
  run_on {z} {ok} h k = record {
    through = λ t. (
      (k.through t).0 ∙ ap (in_place step (onward q a) b) (h.through refl).0
          ∙ in-place-on step q (onward q a) a b x (λ u l. refl),
      (k.through t).1,
    );
    stopped = λ t.
        let s = k.stopped t in
        let e = ap (in_place step (onward q a) s.turn) (h.through refl).0
        ∙ in-place-on step q (onward q a) a s.turn x (λ u l. refl) in
        record { turn = a + s.turn; before = let l = s.before in omega arith; far = rw e at s.far };
    keeps = k.keeps ∙ h.keeps;
  }

-- orders that name the same elements
pub run-order : {most m : ℕ} {step : List ℤ → ℕ → ℤ} {x y : List ℤ} {ok : Bool} (p q : ℕ → ℕ) → ((u : ℕ) → u < m → p u ≡ q u) →
    RowDone most step p m x y ok → RowDone most step q m x y ok
run-order {step} {x} p q e h = record {
  through = λ t. ((h.through t).0 ∙ orders-same step p q _ x e, (h.through t).1);
  stopped = λ t.
      let s = h.stopped t in
      record {
        turn = s.turn;
        before = s.before;
        far = rw (orders-same step p q s.turn x (λ u l. e u (let b = s.before in omega arith)), e s.turn s.before) at
            s.far;
      };
  keeps = h.keeps;
}

-- a run of m turns from the first on, and one that follows it up to turn m; n is how many turns there are
pub run-all : {most : ℕ} {step : List ℤ → ℕ → ℤ} {x y : List ℤ} {ok : Bool} (q : ℕ → ℕ) (m : ℕ) {n : ℕ} → n ≡ m →
    RowDone most step (onward q 0) (m - 0) x y ok → RowDone most step q n x y ok
run-all q m e h =
    let z : m - 0 ≡ m = omega arith in
    rw e (run-order (onward q 0) q (λ u l. let f : 0 + u ≡ u = omega arith in ap q f) (rw z at h))

pub run-both : {most : ℕ} {step : List ℤ → ℕ → ℤ} {x y z : List ℤ} {ok : Bool} (q : ℕ → ℕ) (a m : ℕ) {n : ℕ} → n ≡ m → a ≤ m →
    RowDone most step q a x y true → RowDone most step (onward q a) (m - a) y z ok → RowDone most step q n x z ok
run-both q a m e l h k = let f : a + (m - a) ≡ m = omega arith in rw e (rw f at (run_on (m - a) h k))

pub run_short : {most : ℕ} {step : List ℤ → ℕ → ℤ} {x y : List ℤ} {ok : Bool} (q : ℕ → ℕ) (a m : ℕ) {n : ℕ} → n ≡ m → a ≤ m →
    ok ≡ false → RowDone most step q a x y ok → RowDone most step q n x y ok
run_short q a m e l t h = let f : a + (m - a) ≡ m = omega arith in rw (e, t) (rw f at (run-stopped (m - a) (rw t at h)))

-- steps that make the same number in each turn
pub row-done-along : {most m : ℕ} {q : ℕ → ℕ} {x y : List ℤ} {ok : Bool} (f g : List ℤ → ℕ → ℤ) →
    ((u : ℕ) → u < m → f (in_place f q u x) (q u) ≡ g (in_place f q u x) (q u)) → RowDone most f q m x y ok →
    RowDone most g q m x y ok
row-done-along {q} {x} f g e h = record {
  through = λ t. ((h.through t).0 ∙ steps-along f g q _ x e, (h.through t).1);
  stopped = λ t.
      let s = h.stopped t in
      let l = s.before in
      let w = steps-along f g q s.turn x (λ u k. e u (omega arith)) in
      record { turn = s.turn; before = l; far = rw (← w) (rw (e s.turn l) at s.far) };
  keeps = h.keeps;
}

-- the element whose turn it is, as it was before the row
pub row-ahead : (step : List ℤ → ℕ → ℤ) (n i j : ℕ) (x : List ℤ) {y : List ℤ} → y ≡ in_place step (in_row n i) j x →
    at y (i * n + j) ≡ at x (i * n + j)
row-ahead step n i j x w =
    ap (λ (v : List ℤ). at v (i * n + j)) w ∙ in-place-other step (in_row n i) j x (i * n + j) (λ u l e. omega arith)

pub row-done-same : {most m : ℕ} {q : ℕ → ℕ} {x y : List ℤ} {ok : Bool} (f g : List ℤ → ℕ → ℤ) →
    ((u : ℕ) → u < m → (v : List ℤ) → f v (q u) ≡ g v (q u)) →
    RowDone most f q m x y ok → RowDone most g q m x y ok
row-done-same {m} {q} {x} f g h w = record {
  through = λ t. ((w.through t).0 ∙ steps-same f g q m x h, (w.through t).1);
  stopped = λ t.
      let s = w.stopped t in
      let e = steps-same f g q s.turn x (λ u l. h u (let b = s.before in omega arith)) in
      record { turn = s.turn; before = s.before; far = rw (e, h s.turn s.before (in_place g q s.turn x)) at s.far };
  keeps = w.keeps;
}

-- an element by its row and column
pub applied-here : (rule : Rule) (c : List ℤ) (fa : Layout) (r : List ℤ) (fb : Layout) (x : List ℤ) (i j : ℕ) → j < fb.order →
    applied_of rule c fa r fb x (i * fb.order + j) ≡ applied_at rule r fb j (sign_at c fa i) (sums_at c fa i x fb.order)
    (at x (i * fb.order + j))
unfolding applied_of
applied-here rule c fa r fb x i j l = rw (row-of 0 fb.order i j l, col-of 0 fb.order i j l)

pub undone-here : (rule : Rule) (c : List ℤ) (fa : Layout) (r : List ℤ) (fb : Layout) (x : List ℤ) (i j : ℕ) → j < fb.order →
    undone_of rule c fa r fb x (i * fb.order + j) ≡ undone_at rule r fb j (sign_at c fa i) (sums_at c fa i x fb.order)
    (at x (i * fb.order + j))
unfolding undone_of
undone-here rule c fa r fb x i j l = rw (row-of 0 fb.order i j l, col-of 0 fb.order i j l)

pub allowed-here : (rule : Rule) (c : List ℤ) (fa : Layout) (r : List ℤ) (fb : Layout) (x : List ℤ) (i j : ℕ) → j < fb.order →
    allowed_of rule c fa r fb x (i * fb.order + j) ≡ allowed_at rule r fb j (whole_row c fa i) (magnitude_sums c fa i x fb.order)
    (at x (i * fb.order + j))
unfolding allowed_of
allowed-here rule c fa r fb x i j l = rw (row-of 0 fb.order i j l, col-of 0 fb.order i j l)

-- row i of a block is made of what it looks at; magnitudes side by side leave that as it is
pub element-same : (task : Task) (rule : Rule) (c : List ℤ) (fa : Layout) (r : List ℤ) (fb : Layout) {x y : List ℤ} (i u : ℕ) →
    u < fb.order →
    (is_inverse task ≡ false → SameRows (row_of fa i) i fb.order x y) → (v : List ℤ) →
    element_of task rule c fa r fb x v (row_order task fb i u) ≡ element_of task rule c fa r fb y v (row_order task fb i u)
unfolding element_of row_order is_inverse
element-same Forward rule c fa r fb {x} {y} i u l g v =
    let h = g refl in
    applied-here rule c fa r fb x i u l
    ∙ rw (columns-same c (diagonal_of (sign_at c fa i)) h, h.diagonal u l) (sym (applied-here rule c fa r fb y i u l))
element-same Inverse rule c fa r fb i u l g v = refl
element-same Allowance rule c fa r fb {x} {y} i u l g v =
    let h = g refl in
    let beside : SameRows (side_by_side (row_of fa i)) i fb.order x y = record
    { left = h.left; diagonal = h.diagonal; right = h.right } in
    allowed-here rule c fa r fb x i u l
    ∙ rw (columns-same (row_magnitudes c (row_of fa i)) (pos unit) beside, h.diagonal u l)
    (sym (allowed-here rule c fa r fb y i u l))

-- a row of a block of at most 16 by 16, and a place of it
pub row_room : {a b i : ℕ} → a ≤ most_order → b ≤ most_order → i < a → i * b + b ≤ most_cells
row_room {a} {b} {i} p q l = let h : suc i ≤ most_order = omega arith in omega (arith, NatL.mul-le-mul_right b h)

pub in_block : {a b i : ℕ} (j : ℕ) → a ≤ most_order → b ≤ most_order → i < a → j < b → i * b + j < most_cells
in_block {b} {i} j p q l k = let h = row_room {b = b} {i = i} p q l in omega arith

-- ---- a row stuck stops the stage: the number beyond the bound is found in what all turns would give
module _ {N : ℕ} {p : ℕ → ℕ} (h : Permutes N p) (most : ℕ) (step : List ℤ → ℕ → ℤ) (x : List ℤ) (room : N ≤ length x) where
  pub stopped-beyond : (q : ℕ → ℕ) (a m : ℕ) → a + m ≤ N → ((u : ℕ) → u < m → p (a + u) ≡ q u) →
      Stopped most step q m (in_place step p a x) → inside most N (in_place step p N x) ≡ false
  stopped-beyond q a m l e s =
      let t = a + s.turn in
      let b : t < N = let c = s.before in omega arith in
      beyond-there most N (in_place step p N x) (p t) (step (in_place step p t x) (p t)) (h.below t b)
      (in-place-stays h step x room t N b (omega arith))
      (rw (in-place-on step p q a s.turn x (λ u g. e u (let c = s.before in omega arith)), ← (e s.turn s.before)) at
      s.far)

  -- row i of rows of n
  pub row-stopped : (n1 n i : ℕ) (q : ℕ → ℕ) {y : List ℤ} → N ≡ n1 * n → i < n1 → ((u : ℕ) → u < n → p (i * n + u) ≡ q u) →
      y ≡ in_place step p (i * n) x → Stopped most step q n y → inside most N (in_place step p N x) ≡ false
  row-stopped n1 n i q {y} z l e w s =
      stopped-beyond q (i * n) n (omega (arith, NatL.mul-le-mul_right n l)) e
      (subst (λ (v : List ℤ). Stopped most step q n v) w s)

pub row-passed : (step : List ℤ → ℕ → ℤ) (p : ℕ → ℕ) (n i : ℕ) (q : ℕ → ℕ) (x : List ℤ) {y y' : List ℤ} →
    ((u : ℕ) → u < n → p (i * n + u) ≡ q u) →
    y ≡ in_place step p (i * n) x → y' ≡ in_place step q n y → y' ≡ in_place step p ((i + 1) * n) x
row-passed step p n i q x e w w' =
    w' ∙ ap (in_place step q n) w ∙ in-place-on step p q (i * n) n x e
    ∙ (let z : i * n + n ≡ (i + 1) * n = omega arith in ap (λ (m : ℕ). in_place step p m x) z)

-- before the first row
pub no_row : (step : List ℤ → ℕ → ℤ) (p : ℕ → ℕ) (n : ℕ) (x : List ℤ) → x ≡ in_place step p (0 * n) x
unfolding in_place
no_row step p n x = let z : 0 * n ≡ 0 = omega arith in rw z
