-- NUMBERS COPIED BETWEEN TWO LAYOUTS, and rows and columns that change places: as the code goes through them, and where each
-- number is then.
use Rattle.std.specs.Prelude.{List, ◌≢◌, ◌≡◌, ℤ, pos, length, set}
use Rattle.std.specs.List.{CopiedTo, SameBelow, SameFrom}
use Rattle.std.proofs.Math.Path.{refl, sym, ap}
use Rattle.std.proofs.Common.{◌∙◌, add-one, ext_get_or}
use Prim.Native.Nat.{ℕ, zero, suc, ◌+◌, ◌-◌, ◌*◌, ◌≤◌, ◌<◌, min, max}
use Rattle.std.proofs.Math.Decide.{ℕ_discrete, dec_lt}
use Rattle.std.proofs.Math.Nat as NatL
use native.Mathlib.Omega.{arith}
use Rattle.std.proofs.Math.ListN.{length-set}
use Rattle.whole.specs.Diff.{Within}
use Rattle.rules.specs.Numbers.{most_order, most_cells, at}
use Rattle.rules.proofs.Laws.Lists.{set_at, set_other}
use Rattle.factor.specs.SumBounds.{Bounded, bounded-set}
use Rattle.passstage.specs.LaneLaws.{scattered-bounded}
use Rattle.factor.specs.MovedInPlace.{scattered, length-scattered, scattered-at, scattered-other, scattered-same}

-- ---- copied, row by row
-- the places of a row, and of all rows, lie in a slice, and no sum of the code's is too large
pub record CopiesRow (many k s : ℕ) (x : List ℤ) : Type 0 where
  pub few : many ≤ most_order
  pub there : (l : ℕ) → l < many → k + l * s < length x
  pub small : length x ≤ most_cells

pub record CopiesLines (many long k s : ℕ) (x : List ℤ) : Type 0 where
  pub few : many ≤ most_order
  pub short : long ≤ most_order
  pub near : k ≤ most_cells
  pub there : (m l : ℕ) → m < long → l < many → m * k + l * s < length x
  pub small : length x ≤ most_cells

-- place q m l is set to g m l, for each l below many and each m below long
unfoldable pub copied : ℕ → (ℕ → ℕ → ℕ) → (ℕ → ℕ → ℤ) → ℕ → List ℤ → List ℤ
copied many q g zero y = y
copied many q g (suc m) y = scattered many (q m) (g m) (copied many q g m y)

pub length-copied : (many : ℕ) (q : ℕ → ℕ → ℕ) (g : ℕ → ℕ → ℤ) (n : ℕ) (y : List ℤ) → length (copied many q g n y) ≡ length y
unfolding copied
length-copied many q g zero y = refl
length-copied many q g (suc n) y = length-scattered many (q n) (g n) (copied many q g n y) ∙ length-copied many q g n y

-- a place that is none of these stays
pub copied-other : (many : ℕ) (q : ℕ → ℕ → ℕ) (g : ℕ → ℕ → ℤ) (n : ℕ) (y : List ℤ) (e : ℕ) →
    ((m l : ℕ) → m < n → l < many → e ≢ q m l) → at (copied many q g n y) e ≡ at y e
unfolding copied
copied-other many q g zero y e h = refl
copied-other many q g (suc n) y e h =
    scattered-other many (q n) (g n) (copied many q g n y) e (λ l b. h n l (omega arith) b)
    ∙ copied-other many q g n y e (λ m l a b. h m l (omega arith) b)

-- no two numbers go to one place
pub record Apart (many n : ℕ) (q : ℕ → ℕ → ℕ) : Type 0 where
  pub lines : (m i j : ℕ) → m < n → i < many → j < many → i ≢ j → q m i ≢ q m j
  pub rows : (a b i j : ℕ) → a < b → b < n → i < many → j < many → q a i ≢ q b j

pub copied_at : (many : ℕ) (q : ℕ → ℕ → ℕ) (g : ℕ → ℕ → ℤ) (n : ℕ) (y : List ℤ) → Apart many n q →
    ((m l : ℕ) → m < n → l < many → q m l < length y) → (m l : ℕ) → m < n → l < many → at (copied many q g n y) (q m l) ≡ g m l
unfolding copied
copied_at many q g zero y h room m l a b = absurd (omega arith)
copied_at many q g (suc n) y h room m l a b =
    go
    (λ c. copied_at many q g n y (record {
      lines = λ i e f p. h.lines i e f (omega arith);
      rows = λ i e f k p s. h.rows i e f k p (omega arith);
    }) (λ i e p. room i e (omega arith)) m l c b)
    (ℕ_discrete m n)
  where
    go : (m < n → at (copied many q g n y) (q m l) ≡ g m l) → Dec (m ≡ n) →
        at (scattered many (q n) (g n) (copied many q g n y)) (q m l) ≡ g m l
    go ih (yes e) =
        rw e (scattered-at many (q n) (g n) (copied many q g n y)
        (λ i p. rw (length-copied many q g n y) (room n i (omega arith) p))
        (λ i j p s d. h.lines n i j (omega arith) p s d) l b)
    go ih (no e) =
        scattered-other many (q n) (g n) (copied many q g n y) (q m l) (λ i p. h.rows m n l i (omega arith) (omega arith) b p)
        ∙ ih (omega arith)

pub copied-bounded : {B : ℕ} (many : ℕ) (q : ℕ → ℕ → ℕ) (g : ℕ → ℕ → ℤ) (n : ℕ) {y : List ℤ} → Bounded B y →
    ((m l : ℕ) → Within B (g m l)) → Bounded B (copied many q g n y)
unfolding copied
copied-bounded many q g zero h w = h
copied-bounded many q g (suc n) h w = scattered-bounded many (q n) (g n) (copied-bounded many q g n h w) (λ l b. w n l)

-- ---- rows and columns change places
-- the first j numbers of row i and of column i
unfoldable pub exchanged : ℕ → ℕ → List ℤ → List ℤ
exchanged i zero x = x
exchanged i (suc j) x =
    set (set (exchanged i j x) (i * most_order + j) (at (exchanged i j x) (j * most_order + i))) (j * most_order + i)
    (at (exchanged i j x) (i * most_order + j))

-- those of the first n rows and columns, in each at most `few`
unfoldable pub turning : ℕ → ℕ → List ℤ → List ℤ
turning few zero x = x
turning few (suc i) x = exchanged i (min i few) (turning few i x)

-- those of a block of n by m numbers, or m by n
abbrev pub turned : ℕ → ℕ → List ℤ → List ℤ
turned n m x = turning (min n m) (max n m) x

pub length_exchanged : (i j : ℕ) (x : List ℤ) → length (exchanged i j x) ≡ length x
unfolding exchanged
length_exchanged i zero x = refl
length_exchanged i (suc j) x =
    length-set (set (exchanged i j x) _ _) _ _ ∙ length-set (exchanged i j x) _ _ ∙ length_exchanged i j x

pub length-turning : (few n : ℕ) (x : List ℤ) → length (turning few n x) ≡ length x
unfolding turning
length-turning few zero x = refl
length-turning few (suc n) x = length_exchanged n (min n few) (turning few n x) ∙ length-turning few n x

-- where a number stands after it: row and column below 16
module _ (i : ℕ) (x : List ℤ) (long : length x ≡ most_cells) where
  -- a place that is neither in the first j of row i nor in the first j of column i
  exchanged-other : (j r c : ℕ) → r < most_order → c < most_order → j ≤ i → i < most_order → (r ≡ i → j ≤ c) → (c ≡ i → j ≤ r) →
      at (exchanged i j x) (r * most_order + c) ≡ at x (r * most_order + c)
  unfolding exchanged
  exchanged-other zero r c a b k l f g = refl
  exchanged-other (suc j) r c a b k l f g =
      set_other (set (exchanged i j x) (i * most_order + j) _) (j * most_order + i) (r * most_order + c) _
      (λ e. let z = g (omega arith) in omega arith)
      ∙ set_other (exchanged i j x) (i * most_order + j) (r * most_order + c) _ (λ e. let z = f (omega arith) in omega arith)
      ∙ exchanged-other j r c a b (omega arith) l (λ e. let z = f e in omega arith) (λ e. let z = g e in omega arith)

  -- row i has what column i had
  exchanged-row : (j c : ℕ) → c < j → j ≤ i → i < most_order →
      at (exchanged i j x) (i * most_order + c) ≡ at x (c * most_order + i)
  unfolding exchanged
  exchanged-row zero c a k l = absurd (omega arith)
  exchanged-row (suc j) c a k l = go (exchanged-row j c) (ℕ_discrete c j)
    where
      go : (c < j → j ≤ i → i < most_order → at (exchanged i j x) (i * most_order + c) ≡ at x (c * most_order + i)) → Dec (c ≡ j) →
          at (exchanged i (suc j) x) (i * most_order + c) ≡ at x (c * most_order + i)
      go ih (yes e) =
          rw e (set_other (set (exchanged i j x) (i * most_order + j) _) (j * most_order + i) (i * most_order + j) _
          (λ z. omega arith)
          ∙ set_at (exchanged i j x) (i * most_order + j) _ (omega (arith, length_exchanged i j x))
          ∙ exchanged-other j j i (omega arith) l (omega arith) l (λ z. absurd (omega arith)) (λ z. omega arith))
      go ih (no e) =
          set_other (set (exchanged i j x) (i * most_order + j) _) (j * most_order + i) (i * most_order + c) _ (λ z. omega arith)
          ∙ set_other (exchanged i j x) (i * most_order + j) (i * most_order + c) _ (λ z. omega arith)
          ∙ ih (omega arith) (omega arith) l

  -- column i has what row i had
  exchanged-column : (j r : ℕ) → r < j → j ≤ i → i < most_order →
      at (exchanged i j x) (r * most_order + i) ≡ at x (i * most_order + r)
  unfolding exchanged
  exchanged-column zero r a k l = absurd (omega arith)
  exchanged-column (suc j) r a k l = go (exchanged-column j r) (ℕ_discrete r j)
    where
      go : (r < j → j ≤ i → i < most_order → at (exchanged i j x) (r * most_order + i) ≡ at x (i * most_order + r)) → Dec (r ≡ j) →
          at (exchanged i (suc j) x) (r * most_order + i) ≡ at x (i * most_order + r)
      go ih (yes e) =
          rw e (set_at (set (exchanged i j x) (i * most_order + j) _) (j * most_order + i) _
          (omega (
            arith,
            length-set (exchanged i j x) (i * most_order + j) (at (exchanged i j x) (j * most_order + i)),
            length_exchanged i j x,
          ))
          ∙ exchanged-other j i j l (omega arith) (omega arith) l (λ z. omega arith) (λ z. absurd (omega arith)))
      go ih (no e) =
          set_other (set (exchanged i j x) (i * most_order + j) _) (j * most_order + i) (r * most_order + i) _ (λ z. omega arith)
          ∙ set_other (exchanged i j x) (i * most_order + j) (r * most_order + i) _ (λ z. omega arith)
          ∙ ih (omega arith) (omega arith) l

-- after n turns, a place outside the first n by n
turning-rest : (few n : ℕ) (x : List ℤ) → length x ≡ most_cells → n ≤ most_order → (r c : ℕ) → r < most_order → c < most_order →
    (r < n → n ≤ c) → at (turning few n x) (r * most_order + c) ≡ at x (r * most_order + c)
unfolding turning
turning-rest few zero x long most r c a b h = refl
turning-rest few (suc n) x long most r c a b h =
    exchanged-other n (turning few n x) (length-turning few n x ∙ long) (min n few) r c a b (omega arith) most
    (λ e. let z = h (omega arith) in omega arith) (λ e. beside e (dec_lt r n))
    ∙ turning-rest few n x long (omega arith) r c a b (λ e. let z = h (omega arith) in omega arith)
  where
    beside : c ≡ n → Dec (r < n) → min n few ≤ r
    beside e (yes q) = let z = h (omega arith) in omega arith
    beside e (no q) = omega arith

-- ROWS ARE COLUMNS, in the first few rows and in the first few columns
pub turning-at : (few n : ℕ) (x : List ℤ) → length x ≡ most_cells → n ≤ most_order → (r c : ℕ) → r < n → c < n →
    (few ≤ r → c < few) → at (turning few n x) (r * most_order + c) ≡ at x (c * most_order + r)
unfolding turning
turning-at few zero x long most r c a b h = absurd (omega arith)
turning-at few (suc n) x long most r c a b h =
    go (λ a b. turning-at few n x long (omega arith) r c a b h) (ℕ_discrete r n) (ℕ_discrete c n)
  where
    wide : length (turning few n x) ≡ most_cells
    wide = length-turning few n x ∙ long

    left : r ≡ n → (c ≡ n → ⊥) → Dec (r < few) → c < min n few
    left e f (yes l) = omega arith
    left e f (no l) = let z = h (omega arith) in omega arith

    above : c ≡ n → (r ≡ n → ⊥) → Dec (r < few) → r < min n few
    above e f (yes l) = omega arith
    above e f (no l) = let z = h (omega arith) in omega arith

    go : (r < n → c < n → at (turning few n x) (r * most_order + c) ≡ at x (c * most_order + r)) → Dec (r ≡ n) → Dec (c ≡ n) →
        at (exchanged n (min n few) (turning few n x)) (r * most_order + c) ≡ at x (c * most_order + r)
    go ih (yes e) (yes f) =
        rw (e, f)
        (exchanged-other n (turning few n x) wide (min n few) n n most most (omega arith) most (λ z. omega arith)
        (λ z. omega arith)
        ∙ turning-rest few n x long (omega arith) n n most most (λ z. omega arith))
    go ih (yes e) (no f) =
        let l = left e f (dec_lt r few) in
        rw e
        (exchanged-row n (turning few n x) wide (min n few) c l (omega arith) most
        ∙ turning-rest few n x long (omega arith) c n (omega arith) most (λ z. omega arith))
    go ih (no e) (yes f) =
        let l = above f e (dec_lt r few) in
        rw f
        (exchanged-column n (turning few n x) wide (min n few) r l (omega arith) most
        ∙ turning-rest few n x long (omega arith) n r most (omega arith) (λ z. absurd (omega arith)))
    go ih (no e) (no f) =
        exchanged-other n (turning few n x) wide (min n few) r c (omega arith) (omega arith) (omega arith) most
        (λ z. absurd (e z)) (λ z. absurd (f z))
        ∙ ih (omega arith) (omega arith)

-- numbers that change places stay in bound
exchanged-bounded : {B : ℕ} (i j : ℕ) {x : List ℤ} → Bounded B x → Bounded B (exchanged i j x)
unfolding exchanged
exchanged-bounded i zero h = h
exchanged-bounded i (suc j) {x} h =
    let k = exchanged-bounded i j h in
    bounded-set (set (exchanged i j x) (i * most_order + j) (at (exchanged i j x) (j * most_order + i))) (j * most_order + i)
    (bounded-set (exchanged i j x) (i * most_order + j) k (k.small (j * most_order + i))) (k.small (i * most_order + j))

pub turning-bounded : {B : ℕ} (few n : ℕ) {x : List ℤ} → Bounded B x → Bounded B (turning few n x)
unfolding turning
turning-bounded few zero h = h
turning-bounded few (suc n) h = exchanged-bounded n (min n few) (turning-bounded few n h)

-- ---- rows 16 apart, closed up
pub rows-near : (i : ℕ) {n : ℕ} → n ≤ most_order → i * n ≤ i * most_order
rows-near i l = NatL.mul-le-mul_left i l

-- numbers side by side that are moved to another place
pub shifted : (s d n : ℕ) (y : List ℤ) {z : List ℤ} → length z ≡ length y → d + n ≤ length y → CopiedTo y z s d n → SameBelow y z d →
    SameFrom y z (d + n) → z ≡ scattered n (λ j. d + j) (λ j. at y (s + j)) y
shifted s d n y {z} l room h b f =
    ext_get_or (pos 0) _ _ (l ∙ sym (length-scattered n (λ j. d + j) (λ j. at y (s + j)) y))
    (λ e c. go e (dec_lt e d) (dec_lt e (d + n)))
  where
    go : (e : ℕ) → Dec (e < d) → Dec (e < d + n) → at z e ≡ at (scattered n (λ j. d + j) (λ j. at y (s + j)) y) e
    go e (yes q) r =
        b e (pos 0) q ∙ sym (scattered-other n (λ j. d + j) (λ j. at y (s + j)) y e (λ m a w. omega arith))
    go e (no q) (yes r) =
        let p : d + (e - d) ≡ e = omega arith in
        h e (pos 0) (omega arith) r
        ∙ sym (ap (at (scattered n (λ j. d + j) (λ j. at y (s + j)) y)) (sym p)
        ∙ scattered-at n (λ j. d + j) (λ j. at y (s + j)) y (λ m a. omega arith) (λ i j a c k w. k (omega arith)) (e - d)
        (omega arith))
    go e (no q) (no r) =
        f e (pos 0) (omega arith)
        ∙ sym (scattered-other n (λ j. d + j) (λ j. at y (s + j)) y e (λ m a w. omega arith))

-- row i is read before the rows before it reach it
close-below : (m n i j l : ℕ) → m < i → l < n → n ≤ most_order → i * most_order + j ≢ m * n + l
close-below m n i j l a b q e =
    let h : (m + 1) * n ≤ i * n = NatL.mul-le-mul_right n (omega arith) in
    let k = rows-near i q in
    omega arith

pub row-closed : (i n : ℕ) (x : List ℤ) {y : List ℤ} → n ≤ most_order →
    y ≡ copied n (λ r j. r * n + j) (λ r j. at x (r * most_order + j)) i x →
    scattered n (λ j. i * n + j) (λ j. at y (i * most_order + j)) y
    ≡ copied n (λ r j. r * n + j) (λ r j. at x (r * most_order + j)) (i + 1) x
unfolding copied
row-closed i n x l e =
    rw (add-one, e)
    (scattered-same n _ _ _ _ _ (λ m b. refl)
    (λ j b. copied-other n (λ r k. r * n + k) (λ r k. at x (r * most_order + k)) i x (i * most_order + j)
    (λ m k a c. close-below m n i j k a c l)))
