-- THE ROW SHEET'S SIGNS AND ITS ONE ROW OF ENTRIES LAID OUT by columns, once a stage: the row's own column has the entry 0, so
-- that a row of the block beside the one with entries has one sum (`laid-sum`), and its own number is no part of it.
use Rattle.std.specs.Prelude.{cond, List, ◌≢◌, ◌≡◌, refl, ltb, eqb, ℤ, pos, ◌*ℤ◌, length, replicate}
use Rattle.std.proofs.Common.{sym, ◌∙◌, arith}
use Rattle.std.proofs.Math.Path.{ap, ap₂}
use Prim.Native.Nat.{ℕ, suc, ◌+◌, ◌-◌, ◌*◌, ◌≤◌, ◌<◌}
use Rattle.std.proofs.Math.Decide.{ℕ_discrete, dec_lt}
use borrow.Author.Tests.{eq-eqb, ne_eqb, lt-ltb, le-ltb}
use Rattle.std.proofs.Math.IntN.{◌+ℤ◌, +ℤ_idl, zero-*ℤ}
use Rattle.whole.specs.Diff.{Within}
use Rattle.whole.specs.Machine.{within-le, within-pos}
use Rattle.whole.specs.Stated.{sum}
use Rattle.whole.specs.Sum.{sum-cong, sum-split, sum_first}
use Rattle.rules.specs.declared.Kind.TheVariants.{Single}
use Rattle.rules.specs.declared.Rule.{Rule}
use Rattle.rules.specs.Numbers.{most_order, most_cells, most_entry, bound, at}
use Rattle.rules.specs.Stages.{fill}
use Rattle.rules.proofs.Laws.Lists.{fill-at}
use Rattle.factor.specs.declared.Layout.{Layout}
use Rattle.factor.specs.Layouts.{row, row_by, row_of}
use Rattle.factor.specs.LayoutInSheet.{InSheet}
use Rattle.factor.specs.SumBounds.{Bounded, RowIn}
use Rattle.joint.specs.Sums.{entries_sum}
use Rattle.joint.specs.Elements.{sign_at, applied_of}
use Rattle.joint.specs.RowsInPlace.{RowAsks, in_block}
use Rattle.singlerows.specs.SingleRows.{beside_sum, narrow_sum, applied_beside, undone_beside, Turned, Narrow, SignsGiven}
use Rattle.singlerows.specs.SingleRows.{applied_beside_lem}

-- ---- definitions
-- the entry in column j of a factor's one row, and 0 in the row's own column
unfoldable pub entry_in : List ℤ → Layout → ℕ → ℤ
entry_in s f j = cond (ltb j f.row) (at s (f.entries + j)) (cond (eqb j f.row) (pos 0) (at s (f.entries + (j - 1))))

abbrev pub entries_laid : List ℤ → Layout → List ℤ
entries_laid s f = fill f.order (entry_in s f) (replicate most_order (pos 0))

abbrev pub signs_laid : List ℤ → Layout → List ℤ
signs_laid s f = fill f.order (sign_at s f) (replicate most_order (pos 0))

-- both, where rows have n numbers
pub record Laid (s : List ℤ) (f : Layout) (n : ℕ) (g w : List ℤ) : Type 0 where
  pub order : n ≡ f.order
  pub signs : g ≡ signs_laid s f
  pub entries : w ≡ entries_laid s f

-- ---- an entry
module _ (s : List ℤ) (f : Layout) (j : ℕ) where
  pub entry-left : j < f.row → entry_in s f j ≡ at s (f.entries + j)
  unfolding entry_in
  entry-left l = rw (lt-ltb j f.row l)

  pub entry-own : j ≡ f.row → entry_in s f j ≡ pos 0
  unfolding entry_in
  entry-own e = rw (le-ltb j f.row (omega arith), eq-eqb j f.row e)

  pub entry-right : f.row < j → entry_in s f j ≡ at s (f.entries + (j - 1))
  unfolding entry_in
  entry-right l = rw (le-ltb j f.row (omega arith), ne_eqb j f.row (λ e. omega arith))

-- where the one row stands
own_row : (f : Layout) → f.kind ≡ Single → row_of f f.row ≡ row f.entries f.row (f.order - suc f.row)
unfolding row_by
own_row f e = rw (e, eq-eqb f.row f.row refl)

module _ {s : List ℤ} {f : Layout} (h : InSheet s f) (single : f.kind ≡ Single) (low : f.row < f.order) where
  own_in : RowIn s f.order (row f.entries f.row (f.order - suc f.row)) f.row
  own_in = rw (own_row f single) at (h.row f.row low)

  pub entry-there : (m : ℕ) → suc m < f.order → f.entries + m < length s
  entry-there m l = let r = own_in.room in omega arith

  pub entry-small : (j : ℕ) → j < f.order → Within most_entry (entry_in s f j)
  entry-small j l = go (dec_lt j f.row) (ℕ_discrete j f.row)
    where
      go : Dec (j < f.row) → Dec (j ≡ f.row) → Within most_entry (entry_in s f j)
      go (yes a) b = rw (entry-left s f j a) (own_in.entries j (omega arith))
      go (no a) (yes b) = rw (entry-own s f j b) (within-le (omega arith) (within-pos 0))
      go (no a) (no b) = rw (entry-right s f j (omega arith)) (own_in.entries (j - 1) (omega arith))

-- ---- what is read from the two arrays
module _ {s : List ℤ} {f : Layout} {n : ℕ} {g w : List ℤ} (laid : Laid s f n g w) (h : InSheet s f) where
  pub laid-sign : (j : ℕ) → j < n → at g j ≡ sign_at s f j
  laid-sign j l =
      rw laid.signs (fill-at f.order _ (replicate most_order (pos 0)) j (let e = laid.order in omega arith) h.order)

  laid-entry : (j : ℕ) → j < n → at w j ≡ entry_in s f j
  laid-entry j l =
      rw laid.entries (fill-at f.order _ (replicate most_order (pos 0)) j (let e = laid.order in omega arith) h.order)

  -- one sum over all columns is the two runs of the row's entries
  pub laid-sum : f.kind ≡ Single → f.row < f.order → (k : ℕ) (x : List ℤ) →
      narrow_sum w x k n ≡ beside_sum s f f.row k x
  unfolding beside_sum entries_sum
  laid-sum single low k x =
      sum-cong n _ _ (λ j l. rw (laid-entry j l))
      ∙ ap (λ (m : ℕ). sum m term) (let e = laid.order in omega arith)
      ∙ sum-split q (suc r) term
      ∙ ap₂ ◌+ℤ◌ left (sum_first r (λ j. term (q + j)) ∙ ap₂ ◌+ℤ◌ own right ∙ +ℤ_idl after)
      ∙ rw (own_row f single)
    where
      q : ℕ
      q = f.row

      r : ℕ
      r = f.order - suc f.row

      term : ℕ → ℤ
      term j = entry_in s f j *ℤ at x (k + j)

      after : ℤ
      after = sum r (λ j. at s (f.entries + q + j) *ℤ at x (k + (suc q + j)))

      left : sum q term ≡ sum q (λ j. at s (f.entries + j) *ℤ at x (k + j))
      left = sum-cong q _ _ (λ j l. rw (entry-left s f j l))

      own : term (q + 0) ≡ pos 0
      own = rw (entry-own s f (q + 0) (omega arith)) (zero-*ℤ (at x (k + (q + 0))))

      right : sum r (λ j. term (q + suc j)) ≡ after
      right = sum-cong r _ _ (λ j l.
          let a : f.entries + (q + suc j - 1) ≡ f.entries + q + j = omega arith in
          let b : k + (q + suc j) ≡ k + (suc q + j) = omega arith in
          rw (entry-right s f (q + suc j) (omega arith), a, b))

-- ---- a row of the block
module _ {c : List ℤ} {fa : Layout} {s : List ℤ} {fb : Layout} {i : ℕ} {x : List ℤ} (a : RowAsks c fa s fb i x)
    {n : ℕ} {g w : List ℤ} (laid : Laid s fb n g w) where
  pub laid-room : i * n + n ≤ most_cells
  laid-room =
      let l = a.low in
      let h = in_block (fb.order - 1) a.column.order a.row.order a.below (omega arith) in
      rw laid.order (omega arith)

  pub laid-column : fb.row < n
  laid-column = rw laid.order a.low

  -- what its sum and its signs ask, the block as it stands
  pub laid-given : {y : List ℤ} → Bounded bound y → SignsGiven g n (sign_at c fa i) (i * n) y
  laid-given b = record {
    few = rw laid.order a.row.order;
    places = laid-room;
    sign = a.column.sign i a.below;
    signs = λ j l. rw (laid-sign laid a.row j l) (a.row.sign j (let e = laid.order in omega arith));
    numbers = b;
  }

  pub laid-narrow : fb.kind ≡ Single → {y : List ℤ} → Bounded bound y → Narrow w y (i * n) n
  laid-narrow single b = record {
    few = rw laid.order a.row.order;
    places = laid-room;
    entries = λ j l. rw (laid-entry laid a.row j l)
        (entry-small a.row single a.low j (let e = laid.order in omega arith));
    numbers = b;
  }

  pub laid-turned : {d : ℤ} {y z : List ℤ} → Turned (at g) d (i * n) n y z →
      Turned (sign_at s fb) d (i * fb.order) fb.order y z
  laid-turned t =
      rw (← laid.order) (record {
        each = λ j l. t.each j l ∙ rw (laid-sign laid a.row j l);
        other = t.other;
        long = t.long;
      })

  -- the element in column q, where no other row has entries
  module _ (rule : Rule) (single : fb.kind ≡ Single) where
    pub applied-laid : i ≢ fa.row →
        applied_beside rule (sign_at c fa i) (at g fb.row) (narrow_sum w x (i * n) n) (at x (i * n + fb.row))
        ≡ applied_of rule c fa s fb x (i * fb.order + fb.row)
    applied-laid beside =
        rw (laid-sign laid a.row fb.row laid-column, laid-sum laid a.row single a.low, laid.order)
        (sym (applied_beside_lem c fa i (a.alike ∙ single) beside a.row x fb.row a.low rule))

    pub undone-laid : (y z : List ℤ) →
        undone_beside rule (sign_at c fa i) (at g fb.row) (narrow_sum w z (i * n) n) (at y (i * n + fb.row))
        ≡ undone_beside rule (sign_at c fa i) (sign_at s fb fb.row) (beside_sum s fb fb.row (i * fb.order) z)
        (at y (i * fb.order + fb.row))
    undone-laid y z =
        rw (laid-sign laid a.row fb.row laid-column, laid-sum laid a.row single a.low, laid.order)
