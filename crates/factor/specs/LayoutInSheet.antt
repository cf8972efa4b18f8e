-- THE ROWS OF A CHECKED FACTOR lie inside its sheet, with entries in bound and columns inside the order.
use Rattle.std.specs.Prelude.{Bool, true, false, cond, List, ◌≢◌, ◌≡◌, refl, ℕ, zero, suc, ◌+◌, ◌-◌, ◌≤◌, ◌<◌, eqb, ℤ, length}
use Rattle.std.proofs.Common.{sym, ◌∙◌, add-zero, add-suc, le_refl, arith, eq-eqb, ne_eqb}
use Rattle.std.proofs.Math.Path.{ap}
use Rattle.std.proofs.Math.Decide.{ℕ_discrete}
use Rattle.whole.specs.Stated.{Sign}
use Rattle.rules.specs.declared.Kind.{Kind}
use Rattle.rules.specs.declared.Kind.TheVariants.{Permutation, Lower, Upper, Single}
use Rattle.rules.specs.Numbers.{most_order, at, count}
use Rattle.rules.specs.Sheets.{kind_of, triangle}
use Rattle.rules.specs.Factors.{signs_at, above}
use Rattle.rules.specs.GoodStages.{Permutes}
use Rattle.laws.specs.Tests.{triangle-twice, triangle-more}
use Rattle.laws.specs.Accepted.{FactorRead, Weights, weights-room, entries_of, Counts, entry-is, sign-is, row_is, place-counts}
use Rattle.laws.specs.Sound.{places-permute}
use Rattle.factor.specs.declared.Row.{Row}
use Rattle.factor.specs.declared.Layout.{Layout}
use Rattle.factor.specs.Layouts.{row_in, layout_by, layout_at, row, row_by, row_of, is_move}
use Rattle.factor.specs.SumBounds.{RowIn, above-triangle, signs-inside}

-- a row that starts some entries after the first, and ends inside the entries
record RowAt (kind : Kind) (n e m : ℕ) (r : Row) : Type 0 where
  skip : ℕ
  start : r.at ≡ e + skip
  room : skip + (r.left + r.right) ≤ entries_of n kind
  left : r.left ≤ m
  right : suc m + r.right ≤ n

above_more : (n m d : ℕ) → above n m ≤ above n (m + d)
unfolding above
above_more n m zero = rw add-zero (le_refl (above n m))
above_more n m (suc d) = rw add-suc (let h = above_more n m d in omega arith)

-- all rows of an upper factor together have a triangle of entries
above-all : (n : ℕ) → above n n ≡ triangle n
unfolding above triangle
above-all zero = refl
above-all (suc n) =
    let d : suc n - 1 ≡ n = omega arith in
    let h = rw d at (above-triangle (suc n) (suc n) (le_refl (suc n))) in omega (arith, triangle-twice (suc n))

row_at : (kind : Kind) (n r e m : ℕ) → m < n → kind ≢ Permutation → RowAt kind n e m (row_by kind n r e m)
unfolding row_by entries_of triangle above
row_at Permutation n r e m l q = absurd (q refl)
row_at Lower n r e m l q = record {
  skip = triangle m;
  start = refl;
  room = let d : suc m + (n - suc m) ≡ n = omega arith in let h = rw d at (triangle-more (suc m) (n - suc m)) in omega arith;
  left = le_refl m;
  right = omega arith;
}
row_at Upper n r e m l q = record {
  skip = above n m;
  start = refl;
  room = let d : suc m + (n - suc m) ≡ n = omega arith in let h = rw d at (above_more n (suc m) (n - suc m)) in
      omega (arith, above-all n);
  left = omega arith;
  right = omega arith;
}
row_at Single n r e m l q = go (ℕ_discrete m r)
  where
    go : Dec (m ≡ r) → RowAt Single n e m (row e (cond (eqb m r) m 0) (cond (eqb m r) (n - suc m) 0))
    go (yes t) =
        rw (eq-eqb m r t) (record {
          skip = 0;
          start = sym (add-zero e);
          room = omega arith;
          left = le_refl m;
          right = omega
              arith;
        })
    go (no t) =
        rw (ne_eqb m r t) (record {
          skip = 0;
          start = sym (add-zero e);
          room = omega arith;
          left = omega arith;
          right = omega
              arith;
        })

pub rows-in-sheet :
    {s : List ℤ} {n i : ℕ} → FactorRead s n i → kind_of (count s i) ≢ Permutation → (m : ℕ) → m < n →
    RowIn s n (row_of (layout_at s n i) m) m
unfolding layout_by layout_at
rows-in-sheet {s} {n} {i} h q m l = go (row_at kind n (row_in kind s i) e m l q) (h.body.weights q)
  where
    kind : Kind
    kind = kind_of (count s i)

    e : ℕ
    e = signs_at kind i + n

    go : {r : Row} → RowAt kind n e m r → Weights s n (entries_of n kind) (signs_at kind i) → RowIn s n r m
    go {r} a w = record {
      room = let x = weights-room w (let y = signs-inside h in omega arith) in omega (arith, a.start, a.room);
      left = a.left;
      right = a.right;
      entries = λ j b. let p : e + (a.skip + j) ≡ r.at + j = omega (arith, a.start) in
          rw p at (entry-is (w.entries.each (a.skip + j) (omega (arith, a.room))));
    }

-- a factor with weights, as the code uses it
pub record InSheet (s : List ℤ) (f : Layout) : Type 0 where
  pub order : f.order ≤ most_order
  pub there : (m : ℕ) → m < f.order → f.signs + m < length s
  pub sign : (m : ℕ) → m < f.order → Sign (at s (f.signs + m))
  pub row : (m : ℕ) → m < f.order → RowIn s f.order (row_of f m) m

pub in-sheet : {s : List ℤ} {n i : ℕ} → n ≤ most_order → FactorRead s n i → kind_of (count s i) ≢ Permutation →
    InSheet s (layout_at s n i)
unfolding layout_by layout_at
in-sheet l h q = record {
  order = l;
  there = λ m b. ((h.body.weights q).signs.each m b).there;
  sign = λ m b. sign-is ((h.body.weights q).signs.each m b);
  row = λ m b. rows-in-sheet h q m b;
}

-- an order is at most 16
pub row-wide : {s : List ℤ} {n m : ℕ} {r : Row} → n ≤ most_order → RowIn s n r m → RowIn s most_order r m
row-wide l h = record { room = h.room; left = h.left; right = let a = h.right in omega arith; entries = h.entries }

-- a permutation, as the code uses it: its places stand where the signs of other kinds do
abbrev pub permutation_at : List ℤ → Layout → ℕ → ℕ
permutation_at s f m = count s (f.signs + m)

pub record Moves (s : List ℤ) (f : Layout) : Type 0 where
  pub order : f.order ≤ most_order
  pub counts : (m : ℕ) → m < f.order → Counts s (f.signs + m)
  pub permutes : Permutes f.order (permutation_at s f)

pub moves : {s : List ℤ} {n i : ℕ} → n ≤ most_order → FactorRead s n i → kind_of (count s i) ≡ Permutation →
    Moves s (layout_at s n i)
unfolding layout_by layout_at signs_at
moves {s} {n} {i} l h q = record {
  order = l;
  counts = λ m b. rw q (place-counts ((h.body.places q).each m b));
  permutes = rw q (places-permute (h.body.places q));
}

-- ---- a factor by what it does
pub move-yes : (kind : Kind) → is_move kind ≡ true → kind ≡ Permutation
unfolding is_move
move-yes Permutation h = refl
move-yes Lower h = let z : ◌≡◌ {A = ℕ} 0 1 = cc in absurd (omega arith)
move-yes Upper h = let z : ◌≡◌ {A = ℕ} 0 1 = cc in absurd (omega arith)
move-yes Single h = let z : ◌≡◌ {A = ℕ} 0 1 = cc in absurd (omega arith)

pub move-no : (kind : Kind) → is_move kind ≡ false → kind ≢ Permutation
unfolding is_move
move-no kind h e = let z : true ≡ false = rw e at h in let y : ◌≡◌ {A = ℕ} 0 1 = cc in omega arith

-- the row of the layout is one of the order, whatever the kind
pub row_inside : {s : List ℤ} {n i : ℕ} → 1 ≤ n → FactorRead s n i → (layout_at s n i).row < n
unfolding layout_at layout_by
row_inside {s} {n} {i} l h = go (kind_of (count s i)) refl
  where
    go : (kind : Kind) → kind_of (count s i) ≡ kind → row_in kind s i < n
    go Permutation e = unfold row_in in l
    go Lower e = unfold row_in in l
    go Upper e = unfold row_in in l
    go Single e = unfold row_in in (row_is (h.body.row e)).1

-- as the code learns it of the factor at a place
module _ {s : List ℤ} {n i : ℕ} (h : FactorRead s n i) {f : Layout} {b : Bool} (e : f ≡ layout_at s n i)
    (t : b ≡ is_move f.kind) where
  told : b ≡ is_move (kind_of (count s i))
  unfolding layout_at layout_by
  told = t ∙ ap (λ (g : Layout). is_move g.kind) e

  pub kind-yes : b ≡ true → kind_of (count s i) ≡ Permutation
  kind-yes y = move-yes (kind_of (count s i)) (sym told ∙ y)

  pub kind-no : b ≡ false → kind_of (count s i) ≢ Permutation
  kind-no y = move-no (kind_of (count s i)) (sym told ∙ y)

-- ---- what a stage of a rectangle asks: a factor of each checked sheet, of one kind
pub record Paired (c r : List ℤ) (n1 n2 i j : ℕ) : Type 0 where
  pub some1 : 1 ≤ n1
  pub most1 : n1 ≤ most_order
  pub column : FactorRead c n1 i
  pub some2 : 1 ≤ n2
  pub most2 : n2 ≤ most_order
  pub row : FactorRead r n2 j
  pub match : kind_of (count c i) ≡ kind_of (count r j)
