-- THE SUM OF A JOINT STAGE IN TWO STEPS, as the code makes it, and how large its numbers become, so that 64 bits hold them.
-- A row of weights is a row of entries and the diagonal's own weight; entries may be those of a sheet or copied magnitudes.
use Rattle.std.specs.Prelude.{List, ◌≢◌, ◌≡◌, refl, ℕ, zero, suc, ◌+◌, ◌*◌, ◌/◌, ◌%◌, ◌≤◌, ◌<◌, ℤ, pos, ◌-ℤ◌, ◌*ℤ◌, length, set, replicate}
use Rattle.std.proofs.Common.{sym, ◌∙◌, zero-add, mul-le-mul, add-one}
use Rattle.std.proofs.Math.Path.{ap, ap₂}
use Rattle.std.proofs.Math.Nat as NatL
use Rattle.std.proofs.Math.Decide.{dec_lt}
use native.Mathlib.Omega.{arith}
use Rattle.std.proofs.Math.IntN.{◌+ℤ◌, +ℤ_idl, +ℤ_idr, +ℤ_assoc, +ℤ_comm}
use Rattle.whole.specs.Diff.{lin, Within}
use Rattle.whole.specs.Laws.{distrib}
use Rattle.whole.specs.Machine.{within-le, within-+, within--, within-*, within-pos}
use Rattle.whole.specs.Stated.{sum}
use Rattle.whole.specs.Sum.{sum-cong, sum-within}
use Rattle.rules.specs.Numbers.{most_order, most_cells, most_entry, most_allowance, at}
use Rattle.rules.specs.Stages.{fill}
use Rattle.rules.proofs.Laws.Lists.{length-fill, fill-at, fill-past, fill-same, same-list, set_other}
use Rattle.rules.proofs.Laws.Rectangles.{row-of, col-of}
use Rattle.factor.specs.declared.Row.{Row}
use Rattle.factor.specs.SumBounds.{Bounded, RowIn, bounded-le, bounded-set}

-- ---- definitions
-- row m: its entries, each times the number f of its column
unfoldable pub entries_sum : List ℤ → Row → ℕ → (ℕ → ℤ) → ℤ
entries_sum a r m f =
    sum r.left (λ j. at a (r.at + j) *ℤ f j) +ℤ sum r.right (λ j. at a (r.at + r.left + j) *ℤ f (suc m + j))

-- and its own weight times the number of its own column
abbrev pub across : List ℤ → Row → ℕ → ℤ → (ℕ → ℤ) → ℤ
across a r m diagonal f = entries_sum a r m f +ℤ (diagonal *ℤ f m)

-- the number of row l in column k of a block whose rows have n numbers
abbrev pub in_column : List ℤ → ℕ → ℕ → ℕ → ℤ
in_column x n k l = at x (l * n + k)

-- a row of sums, each of the first n with a number more
abbrev pub added : ℕ → (ℕ → ℤ) → List ℤ → List ℤ
added n f v = fill n (λ c. at v c +ℤ f c) v

-- m numbers of a from place p on, each times a row of the block, in column c; the first row starts at place k
unfoldable pub rows_sum : List ℤ → ℕ → ℕ → List ℤ → ℕ → ℕ → ℕ → ℤ
rows_sum a p m x k n c = sum m (λ j. at a (p + j) *ℤ at x (k + j * n + c))

-- the same, and the row's own numbers from place o on, each times the diagonal's weight
abbrev pub side_with : List ℤ → ℕ → ℕ → List ℤ → ℕ → ℕ → ℤ → ℕ → ℕ → ℤ
side_with a p m x k n diagonal o c = (diagonal *ℤ at x (o + c)) +ℤ rows_sum a p m x k n c

-- four numbers into their columns, from c on
abbrev pub with_four : ℕ → List ℤ → List ℤ → List ℤ
with_four c t v = set (set (set (set v c (at t 0)) (c + 1) (at t 1)) (c + 2) (at t 2)) (c + 3) (at t 3)

-- "V": row m times each of the n columns
unfoldable pub column_sums : List ℤ → Row → ℕ → ℤ → List ℤ → ℕ → List ℤ
column_sums a r m diagonal x n = fill n (λ k. across a r m diagonal (in_column x n k)) (replicate most_order (pos 0))

-- the same without row m itself
unfoldable pub rest_sums : List ℤ → Row → ℕ → List ℤ → ℕ → List ℤ
rest_sums a r m x n = fill n (λ k. entries_sum a r m (in_column x n k)) (replicate most_order (pos 0))

-- row m times V, less the own term of an element: up is the weight on the diagonal in its row of the block, x its number
unfoldable pub joint_sum : List ℤ → Row → ℕ → ℤ → ℤ → List ℤ → ℤ → ℤ
joint_sum a r m diagonal columnDiagonal v x = across a r m diagonal (at v) -ℤ ((columnDiagonal *ℤ diagonal) *ℤ x)

-- the largest number of V
abbrev pub most_column : ℕ
most_column = most_order * (most_entry * most_allowance)

-- and of a column less a number in it
abbrev pub most_rest : ℕ
most_rest = most_column + most_entry * most_allowance

-- ---- what the code asks
pub record Band (a : List ℤ) (r : Row) (m : ℕ) (diagonal : ℤ) : Type 0 where
  pub row : RowIn a most_order r m
  pub small : Within most_entry diagonal

-- a row of entries alone
pub no-diagonal : {a : List ℤ} {r : Row} {m : ℕ} → RowIn a most_order r m → Band a r m (pos 0)
no-diagonal h = record { row = h; small = within-le (omega arith) (within-pos 0) }

-- the largest product of an entry and a number
abbrev pub product : ℕ
product = most_entry * most_allowance

-- m entries of a from place p on, w numbers of each row of x from place k on, and sums of some products
pub record Adding (a : List ℤ) (p m : ℕ) (x : List ℤ) (k n w : ℕ) (v : List ℤ) : Type 0 where
  pub some : ℕ
  pub few : some + m ≤ most_order
  pub wide : w ≤ most_order
  pub room : p + m ≤ length a
  pub places : (j : ℕ) → j < m → k + j * n + w ≤ most_cells
  pub entries : (j : ℕ) → j < m → Within most_entry (at a (p + j))
  pub numbers : Bounded most_allowance x
  pub small : Bounded (some * product) v
  pub long : length v ≡ most_order

-- m entries of a from place p on, and whole rows of x from place k on
pub record Side (a : List ℤ) (p m : ℕ) (x : List ℤ) (k n : ℕ) : Type 0 where
  pub few : m ≤ most_order
  pub wide : n ≤ most_order
  pub start : k ≤ most_cells
  pub room : p + m ≤ length a
  pub places : k + m * n ≤ most_cells
  pub entries : (j : ℕ) → j < m → Within most_entry (at a (p + j))
  pub numbers : Bounded most_allowance x

-- m entries of a from place p on, and numbers of V from place k on
pub record Wide (a : List ℤ) (p : ℕ) (v : List ℤ) (k m : ℕ) : Type 0 where
  pub room : p + m ≤ length a
  pub columns : k + m ≤ most_order
  pub entries : (j : ℕ) → j < m → Within most_entry (at a (p + j))
  pub numbers : Bounded most_column v

pub wide-small : {a v : List ℤ} {p k m : ℕ} → Wide a p v k m → (i : ℕ) → i ≤ m →
    Within (most_order * (most_entry * most_column)) (sum i (λ j. at a (p + j) *ℤ at v (k + j)))
wide-small {m} t i l =
    let h = t.columns in
    within-le (omega arith) (sum-within i _ (λ j b. within-* (t.entries j (omega arith)) (t.numbers.small _)))

-- ---- a whole row: sixteen terms at most
module _ {a : List ℤ} {r : Row} {m : ℕ} {diagonal : ℤ} (h : Band a r m diagonal) where
  module _ {B : ℕ} (f : ℕ → ℤ) (k : (j : ℕ) → Within B (f j)) where
    pub entries-small : Within (15 * (most_entry * B)) (entries_sum a r m f)
    unfolding entries_sum
    entries-small =
        let b : r.left + r.right ≤ 15 = let l = h.row.left in let q = h.row.right in omega arith in
        within-le (omega (arith, NatL.mul-le-mul_right (most_entry * B) b))
        (within-+
        (sum-within r.left _ (λ j b. within-* (h.row.entries j (omega arith)) (k j)))
        (sum-within r.right _
        (λ j b.
        let e : r.at + (r.left + j) ≡ r.at + r.left + j = omega arith in
        within-* (rw e at (h.row.entries (r.left + j) (omega arith))) (k (suc m + j)))))

    pub across-small : Within (most_order * (most_entry * B)) (across a r m diagonal f)
    across-small = within-le (omega arith) (within-+ entries-small (within-* h.small (k m)))

  module _ {v : List ℤ} (q : Bounded most_column v) where
    pub left-wide : Wide a r.at v 0 r.left
    left-wide = record {
      room = let s = h.row.room in omega arith;
      columns = let s = h.row.left in let t = h.row.right in omega arith;
      entries = λ j g. h.row.entries j (omega arith);
      numbers = q;
    }

    pub right-wide : Wide a (r.at + r.left) v (m + 1) r.right
    right-wide = record {
      room = let s = h.row.room in omega arith;
      columns = let t = h.row.right in omega arith;
      entries = λ j g. let e : r.at + (r.left + j) ≡ r.at + r.left + j = omega arith in
          rw e at (h.row.entries (r.left + j) (omega arith));
      numbers = q;
    }

-- both sums, as the code makes them
pub wide_runs : (a : List ℤ) (r : Row) (m : ℕ) (v : List ℤ) →
    sum r.left (λ j. at a (r.at + j) *ℤ at v (0 + j)) +ℤ sum r.right (λ j. at a (r.at + r.left + j) *ℤ at v (m + 1 + j))
    ≡ entries_sum a r m (at v)
unfolding entries_sum
wide_runs a r m v = ap₂ ◌+ℤ◌ (sum-cong r.left _ _ (λ j b. rw zero-add)) (sum-cong r.right _ _ (λ j b. rw add-one))

-- ---- V row by row
pub zero-at : (n k : ℕ) → at (replicate n (pos 0)) k ≡ pos 0
zero-at zero zero = refl
zero-at zero (suc k) = refl
zero-at (suc n) zero = refl
zero-at (suc n) (suc k) = zero-at n k

pub nothing : {B : ℕ} (n : ℕ) → Bounded B (replicate n (pos 0))
nothing n = record { small = λ k. rw (zero-at n k) (record { within = omega arith }) }

pub fill-over : (n : ℕ) (f g : ℕ → ℤ) (v : List ℤ) → n ≤ length v → fill n f (fill n g v) ≡ fill n f v
fill-over n f g v l =
    let e = length-fill n g v in
    same-list n _ _
    (length-fill n f (fill n g v) ∙ e ∙ sym (length-fill n f v))
    (λ c b. fill-at n f (fill n g v) c b (omega arith) ∙ sym (fill-at n f v c b l))
    (λ c b. fill-past n f (fill n g v) c b ∙ fill-past n g v c b ∙ sym (fill-past n f v c b))

-- one after the other
pub added_twice : (n : ℕ) (f g : ℕ → ℤ) (v : List ℤ) → n ≤ length v → added n g (added n f v) ≡ added n (λ c. f c +ℤ g c) v
added_twice n f g v l =
    fill-over n _ _ v l
    ∙ fill-same n _ _ v (λ c b. ap (λ (z : ℤ). z +ℤ g c) (fill-at n _ v c b l) ∙ +ℤ_assoc (at v c) (f c) (g c))

pub added-small : (n : ℕ) (f : ℕ → ℤ) (v : List ℤ) (s j : ℕ) → n ≤ length v → Bounded (s * product) v →
    ((c : ℕ) → c < n → Within (j * product) (f c)) → Bounded ((s + j) * product) (added n f v)
added-small n f v s j l h g = record { small = λ c. go c (dec_lt c n) }
  where
    go : (c : ℕ) → Dec (c < n) → Within ((s + j) * product) (at (added n f v) c)
    go c (yes b) = rw (fill-at n (λ c. at v c +ℤ f c) v c b l) (within-le (omega arith) (within-+ (h.small c) (g c b)))
    go c (no b) = rw (fill-past n (λ c. at v c +ℤ f c) v c (omega arith)) (within-le (omega arith) (h.small c))

inside : {a x v : List ℤ} {p m k n w : ℕ} → Adding a p m x k n w v → w ≤ length v
inside t = omega (arith, t.wide, t.long)

pub rows-small : {a x v : List ℤ} {p m k n w : ℕ} → Adding a p m x k n w v → (j : ℕ) → j ≤ m → (c : ℕ) →
    Within (j * product) (rows_sum a p j x k n c)
unfolding rows_sum
rows-small t j l c = sum-within j _ (λ i b. within-* (t.entries i (omega arith)) (t.numbers.small _))

-- before the first row, and after j
pub added_none : {a x v : List ℤ} {p m k n w : ℕ} → Adding a p m x k n w v → v ≡ added w (rows_sum a p 0 x k n) v
unfolding rows_sum sum
added_none {v} {w} t =
    same-list w v _ (sym (length-fill w _ v)) (λ c b. sym (fill-at w _ v c b (inside t) ∙ +ℤ_idr (at v c)))
    (λ c b. sym (fill-past w _ v c b))

pub adding-small : {a x v : List ℤ} {p m k n w : ℕ} → Adding a p m x k n w v → (j : ℕ) → j < m →
    Bounded most_column (added w (rows_sum a p j x k n) v)
adding-small {v} {w} t j l =
    let d = t.few in
    bounded-le (omega arith) (added-small w _ v t.some j (inside t) t.small (λ c b. rows-small t j (omega arith) c))

-- after the last
pub adding-all-small : {a x v : List ℤ} {p m k n w : ℕ} → Adding a p m x k n w v →
    Bounded most_column (added w (rows_sum a p m x k n) v)
adding-all-small {v} {m} {w} t =
    let d = t.few in
    bounded-le (omega arith) (added-small w _ v t.some m (inside t) t.small (λ c b. rows-small t m (omega arith) c))

pub adding-next : {a x v : List ℤ} {p m k n w : ℕ} → Adding a p m x k n w v → (j : ℕ) →
    added w (λ c. at a (p + j) *ℤ at x (k + j * n + c)) (added w (rows_sum a p j x k n) v) ≡ added w (rows_sum a p (j + 1) x k n) v
unfolding rows_sum sum
adding-next {v} {w} t j = added_twice w _ _ v (inside t) ∙ rw add-one

-- some columns of whole rows: w of them, of the first row those from place k' on, and sums of `some` products
pub side-adding : {a x v : List ℤ} {p m k n : ℕ} → Side a p m x k n → (k' w some : ℕ) → k' + w ≤ k + n → some + m ≤ most_order →
    w ≤ most_order → Bounded (some * product) v → length v ≡ most_order → Adding a p m x k' n w v
side-adding {m} {k} {n} t k' w some l few wide small long = record {
  some = some;
  few = few;
  wide = wide;
  room = t.room;
  places = λ j b. let e : suc j ≤ m = b in omega (arith, l, NatL.mul-le-mul_right n e, t.places);
  entries = t.entries;
  numbers = t.numbers;
  small = small;
  long = long;
}

-- the two runs of entries
module _ {a : List ℤ} {r : Row} {m : ℕ} (h : RowIn a most_order r m) {x : List ℤ} {n : ℕ} (few : n ≤ most_order)
    (q : Bounded most_allowance x) where
  abbrev zeros : List ℤ
  zeros = replicate most_order (pos 0)

  pub above-side : Side a r.at r.left x 0 n
  above-side = record {
    few = let d = h.left in let e = h.right in omega arith;
    wide = few;
    start = omega arith;
    room = let d = h.room in omega arith;
    places =
        let d : r.left ≤ most_order = (let d = h.left in let e = h.right in omega arith) in omega (arith, mul-le-mul d few);
    entries = λ j b. h.entries j (omega arith);
    numbers = q;
  }

  pub below-side : Side a (r.at + r.left) r.right x ((m + 1) * n) n
  below-side = record {
    few = let d = h.left in let e = h.right in omega arith;
    wide = few;
    start = omega (arith, mul-le-mul h.right few);
    room = let d = h.room in omega arith;
    places = omega (arith, mul-le-mul h.right few);
    entries = λ j b. let e : r.at + (r.left + j) ≡ r.at + r.left + j = omega arith in
        rw e at (h.entries (r.left + j) (omega arith));
    numbers = q;
  }

  pub above : Adding a r.at r.left x 0 n n (replicate most_order (pos 0))
  above = side-adding above-side 0 n 0 (omega arith) (omega (arith, above-side.few)) few (nothing most_order) refl

  pub below : Adding a (r.at + r.left) r.right x ((m + 1) * n) n n
      (added n (rows_sum a r.at r.left x 0 n) (replicate most_order (pos 0)))
  below =
      side-adding below-side ((m + 1) * n) n r.left (omega arith) (let d = h.left in let e = h.right in omega arith)
      few
      (bounded-le (omega arith) (added-small n _ zeros 0 r.left few (nothing most_order)
      (λ c b. rows-small above r.left (omega arith) c)))
      (length-fill n _ zeros)

  -- together
  pub rest-rows : added n (rows_sum a (r.at + r.left) r.right x ((m + 1) * n) n)
      (added n (rows_sum a r.at r.left x 0 n) (replicate most_order (pos 0))) ≡ rest_sums a r m x n
  unfolding rest_sums entries_sum rows_sum
  rest-rows =
      added_twice n _ _ zeros few
      ∙ fill-same n _ _ zeros
      (λ c b.
      rw (zero-at most_order c)
      (+ℤ_idl _
      ∙ ap₂ ◌+ℤ◌
      (sum-cong r.left _ _ (λ j g. rw zero-add))
      (sum-cong r.right _ _ (λ j g. let e : (m + 1) * n + j * n + c ≡ (suc m + j) * n + c = omega arith in rw e))))

  -- and row m itself
  pub column-rows : (diagonal : ℤ) →
      added n (λ c. diagonal *ℤ at x (m * n + c)) (rest_sums a r m x n) ≡ column_sums a r m diagonal x n
  unfolding rest_sums column_sums
  column-rows diagonal =
      fill-over n _ _ zeros few
      ∙ fill-same n _ _ zeros (λ c b. ap (λ (z : ℤ). z +ℤ (diagonal *ℤ at x (m * n + c))) (fill-at n _ zeros c b few))

-- ---- a row with entries on one side of the diagonal
pub rest-left : (a : List ℤ) (r : Row) (m : ℕ) (x : List ℤ) (n p q : ℕ) → p ≡ r.at → q ≡ r.left → r.right ≡ 0 →
    added n (rows_sum a p q x 0 n) (replicate most_order (pos 0)) ≡ rest_sums a r m x n
unfolding rest_sums entries_sum rows_sum sum
rest-left a r m x n p q f g e =
    fill-same n _ _ (replicate most_order (pos 0))
    (λ c b. rw (zero-at most_order c, f, g, e) (+ℤ_idl _ ∙ sum-cong r.left _ _ (λ j g. rw zero-add) ∙ sym (+ℤ_idr _)))

pub rest-right : (a : List ℤ) (r : Row) (m : ℕ) (x : List ℤ) (n p q : ℕ) → p ≡ r.at → q ≡ r.right → r.left ≡ 0 →
    added n (rows_sum a p q x ((m + 1) * n) n) (replicate most_order (pos 0)) ≡ rest_sums a r m x n
unfolding rest_sums entries_sum rows_sum sum
rest-right a r m x n p q f g e =
    fill-same n _ _ (replicate most_order (pos 0))
    (λ c b.
    rw (zero-at most_order c, f, g, e)
    (+ℤ_idl _
    ∙ sum-cong r.right _ _
    (λ j g.
    let y : r.at + j ≡ r.at + 0 + j = omega arith in
    let z : (m + 1) * n + j * n + c ≡ (suc m + j) * n + c = omega arith in
    rw (y, z))
    ∙ sym (+ℤ_idl _)))

-- and its own numbers
pub rest-with : (a : List ℤ) (r : Row) (m : ℕ) (x : List ℤ) (n : ℕ) (diagonal : ℤ) (p q k : ℕ) → n ≤ most_order →
    added n (rows_sum a p q x k n) (replicate most_order (pos 0)) ≡ rest_sums a r m x n →
    added n (side_with a p q x k n diagonal (m * n)) (replicate most_order (pos 0)) ≡ column_sums a r m diagonal x n
unfolding rest_sums column_sums
rest-with a r m x n diagonal p q k few e =
    fill-same n _ (λ c. at zeros c +ℤ (rows_sum a p q x k n c +ℤ own c)) zeros
    (λ c b. ap (λ (z : ℤ). at zeros c +ℤ z) (+ℤ_comm (own c) (rows_sum a p q x k n c)))
    ∙ sym (added_twice n (rows_sum a p q x k n) own zeros few)
    ∙ ap (added n own) e
    ∙ fill-over n _ _ zeros few
    ∙ fill-same n _ _ zeros (λ c b. ap (λ (z : ℤ). z +ℤ own c) (fill-at n _ zeros c b few))
  where
    zeros : List ℤ
    zeros = replicate most_order (pos 0)

    own : ℕ → ℤ
    own c = diagonal *ℤ at x (m * n + c)

-- ---- four columns more
-- four columns of whole rows, c columns from the left, in sums of the own terms or of none
pub side-four : {a x v : List ℤ} {p m k n : ℕ} → Side a p m x k n → (c some : ℕ) → c + 4 ≤ n → some + m ≤ most_order →
    Bounded (some * product) v → length v ≡ most_order → Adding a p m x (k + c) n 4 v
side-four {k} t c some l few small long = side-adding t (k + c) 4 some (omega arith) few (omega arith) small long

-- the own terms
pub own-small : {x : List ℤ} {d : ℤ} (w o : ℕ) → w ≤ most_order → Bounded most_allowance x → Within most_entry d →
    Bounded (1 * product) (added w (λ c. d *ℤ at x (o + c)) (replicate most_order (pos 0)))
own-small w o l q h =
    bounded-le (omega arith)
    (added-small w _ (replicate most_order (pos 0)) 0 1 l (nothing most_order)
    (λ c b. within-le (omega arith) (within-* h (q.small _))))

pub four-rows : (a : List ℤ) (p m : ℕ) (x : List ℤ) (k n c d : ℕ) → rows_sum a p m x (k + c) n d ≡ rows_sum a p m x k n (c + d)
unfolding rows_sum
four-rows a p m x k n c d =
    sum-cong m _ _ (λ j b. let e : k + c + j * n + d ≡ k + j * n + (c + d) = omega arith in rw e)

fill-four : (f : ℕ → ℤ) (k : ℕ) (v : List ℤ) →
    set (set (set (set (fill k f v) k (f (k + 0))) (k + 1) (f (k + 1))) (k + 2) (f (k + 2))) (k + 3) (f (k + 3))
    ≡ fill (suc (suc (suc (suc k)))) f v
unfolding fill
fill-four f k v =
    let b : k + 0 ≡ k = omega arith in
    let c : k + 2 ≡ suc (suc k) = omega arith in
    let d : k + 3 ≡ suc (suc (suc k)) = omega arith in
    rw (b, add-one, c, d)

-- and what they are of the whole row
pub four-with : (a : List ℤ) (p m : ℕ) (x : List ℤ) (k n : ℕ) (d : ℤ) (o c : ℕ) →
    added 4 (rows_sum a p m x (k + c) n) (added 4 (λ e. d *ℤ at x (o + c + e)) (replicate most_order (pos 0)))
    ≡ added 4 (λ e. side_with a p m x k n d o (c + e)) (replicate most_order (pos 0))
four-with a p m x k n d o c =
    added_twice 4 _ _ (replicate most_order (pos 0)) (omega arith)
    ∙ fill-same 4 _ _ (replicate most_order (pos 0))
    (λ e b. let h : o + c + e ≡ o + (c + e) = omega arith in rw (four-rows a p m x k n c e, h))

pub four-more : (f : ℕ → ℤ) (g : ℕ) (t v : List ℤ) →
    t ≡ added 4 (λ c. f (4 * g + c)) (replicate most_order (pos 0)) → v ≡ added (4 * g) f (replicate most_order (pos 0)) →
    with_four (4 * g) t v ≡ added (4 * (g + 1)) f (replicate most_order (pos 0))
four-more f g t v e h =
    let q : 4 * (g + 1) ≡ suc (suc (suc (suc (4 * g)))) = omega arith in
    rw (h, four 0 (omega arith), four 1 (omega arith), four 2 (omega arith), four 3 (omega arith), q)
    (fill-four (λ c. at (replicate most_order (pos 0)) c +ℤ f c) (4 * g) (replicate most_order (pos 0)))
  where
    four : (c : ℕ) → c < 4 → at t c ≡ at (replicate most_order (pos 0)) (4 * g + c) +ℤ f (4 * g + c)
    four c b =
        ap (λ (u : List ℤ). at u c) e
        ∙ fill-at 4 (λ c. at (replicate most_order (pos 0)) c +ℤ f (4 * g + c)) (replicate most_order (pos 0)) c b (omega arith)
        ∙ rw (zero-at most_order c, zero-at most_order (4 * g + c))

-- ---- V holds small numbers, whatever its place
pub fill-small : {B : ℕ} (n : ℕ) (f : ℕ → ℤ) (v : List ℤ) → Bounded B v → ((k : ℕ) → k < n → Within B (f k)) →
    Bounded B (fill n f v)
unfolding fill
fill-small zero f v h g = h
fill-small (suc n) f v h g = bounded-set (fill n f v) n (fill-small n f v h (λ k l. g k (omega arith))) (g n (omega arith))

pub columns-small : {a : List ℤ} {r : Row} {m : ℕ} {diagonal : ℤ} {x : List ℤ} (n : ℕ) → Band a r m diagonal →
    Bounded most_allowance x → Bounded most_column (column_sums a r m diagonal x n)
unfolding column_sums
columns-small {x} n h q =
    fill-small n _ (replicate most_order (pos 0)) (nothing most_order)
    (λ k l. across-small h (in_column x n k) (λ j. q.small (j * n + k)))

-- the own term comes off before or after the diagonal's weight
pub diagonal-first : (a : List ℤ) (r : Row) (m : ℕ) (diagonal columnDiagonal : ℤ) (v : List ℤ) (x : ℤ) →
    entries_sum a r m (at v) +ℤ (diagonal *ℤ (at v m -ℤ (columnDiagonal *ℤ x))) ≡ joint_sum a r m diagonal columnDiagonal v x
unfolding joint_sum
diagonal-first a r m diagonal columnDiagonal v x = plain (entries_sum a r m (at v)) diagonal (at v m) columnDiagonal x
  where
    plain : (e o w u y : ℤ) → e +ℤ (o *ℤ (w -ℤ (u *ℤ y))) ≡ (e +ℤ (o *ℤ w)) -ℤ ((u *ℤ o) *ℤ y)
    plain e o w u y = simp distrib (simp lin (omega arith))

pub joint-small : {a : List ℤ} {r : Row} {m : ℕ} {diagonal columnDiagonal x : ℤ} {v : List ℤ} → Band a r m diagonal →
    Within most_entry columnDiagonal → Bounded most_column v → Within most_allowance x →
    Within (most_order * (most_entry * most_column) + most_entry * most_entry * most_allowance)
    (joint_sum a r m diagonal columnDiagonal v x)
unfolding joint_sum
joint-small {v} h u q g = within-- (across-small h (at v) q.small) (within-* (within-* u h.small) g)

-- ---- V of row m looks at row m of the block, and at the rows that row m has entries for
pub record SameRows (r : Row) (m n : ℕ) (x y : List ℤ) : Type 0 where
  pub left : (j k : ℕ) → j < r.left → k < n → at x (j * n + k) ≡ at y (j * n + k)
  pub diagonal : (k : ℕ) → k < n → at x (m * n + k) ≡ at y (m * n + k)
  pub right : (j k : ℕ) → j < r.right → k < n → at x ((suc m + j) * n + k) ≡ at y ((suc m + j) * n + k)

pub columns-same : (a : List ℤ) {r : Row} {m : ℕ} (diagonal : ℤ) {n : ℕ} {x y : List ℤ} → SameRows r m n x y →
    column_sums a r m diagonal x n ≡ column_sums a r m diagonal y n
unfolding column_sums entries_sum
columns-same a {r} {m} diagonal {n} h =
    fill-same n _ _ (replicate most_order (pos 0))
    (λ k l.
    ap₂ ◌+ℤ◌
    (ap₂ ◌+ℤ◌ (sum-cong r.left _ _ (λ j b. rw (h.left j k b l))) (sum-cong r.right _ _ (λ j b. rw (h.right j k b l))))
    (rw (h.diagonal k l)))

-- ---- the number of row m in column j became z
-- no other number did
pub column-other : (x : List ℤ) (m n j : ℕ) (z : ℤ) → j < n → (k t : ℕ) → k < n → (k ≡ j → t ≢ m) →
    in_column (set x (m * n + j) z) n k t ≡ in_column x n k t
column-other x m n j z l k t b q =
    set_other x (m * n + j) (t * n + k) z
    (λ e. q (sym (col-of 0 n t k b) ∙ ap (λ (u : ℕ). u % n) e ∙ col-of 0 n m j l)
    (sym (row-of 0 n t k b) ∙ ap (λ (u : ℕ). u / n) e ∙ row-of 0 n m j l))

-- and the entries off the diagonal do not look at it
pub rest-same : {a : List ℤ} {r : Row} (x : List ℤ) {m : ℕ} (n j : ℕ) (z : ℤ) → RowIn a most_order r m → j < n → (k : ℕ) → k < n →
    entries_sum a r m (in_column (set x (m * n + j) z) n k) ≡ entries_sum a r m (in_column x n k)
unfolding entries_sum
rest-same {r} x {m} n j z h l k b =
    ap₂ ◌+ℤ◌
    (sum-cong r.left _ _ (λ t c. let d = h.left in rw (column-other x m n j z l k t b (λ e f. omega arith))))
    (sum-cong r.right _ _ (λ t c. rw (column-other x m n j z l k (suc m + t) b (λ e f. omega arith))))

pub rest-sums-small : {a : List ℤ} {r : Row} {m : ℕ} {x : List ℤ} (n : ℕ) → RowIn a most_order r m → Bounded most_allowance x →
    Bounded most_column (rest_sums a r m x n)
unfolding rest_sums
rest-sums-small {x} n h q =
    fill-small n _ (replicate most_order (pos 0)) (nothing most_order)
    (λ k l. within-le (omega arith) (entries-small (no-diagonal h) (in_column x n k) (λ j. q.small (j * n + k))))
