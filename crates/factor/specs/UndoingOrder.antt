-- THE ORDER IN WHICH THE CODE UNDOES A FACTOR: from the top, from the bottom, or round from the row after r, so that r is last.
-- Each element comes once, and none looks at a later one.
use Rattle.std.specs.Prelude.{false, cond, ◌≢◌, ◌≡◌, refl, ℕ, suc, ◌+◌, ◌-◌, ◌≤◌, ◌<◌, ltb, pos}
use Rattle.std.proofs.Common.{sym, ap, ◌∙◌, arith, ne_eqb, lt-ltb, le-ltb}
use Rattle.std.proofs.Math.Decide.{dec_lt}
use Rattle.rules.specs.declared.Kind.{Kind}
use Rattle.rules.specs.declared.Kind.TheVariants.{Permutation, Lower, Upper, Single}
use Rattle.rules.specs.Factors.{Factor, has_entry, matrix}
use Rattle.rules.specs.GoodStages.{Permutes}
use Rattle.rules.proofs.Laws.SoundFactors.{same-permutes}
use Rattle.factor.specs.declared.Row.{Row}
use Rattle.factor.specs.declared.Layout.{Layout}
use Rattle.factor.specs.Layouts.{row_by, row_of}

-- the element that is recovered in turn t
unfoldable pub nth_undone : Kind → ℕ → ℕ → ℕ → ℕ
nth_undone Permutation n r t = t
nth_undone Lower n r t = t
nth_undone Upper n r t = n - suc t
nth_undone Single n r t = cond (ltb t (n - suc r)) (suc r + t) (t - (n - suc r))

-- ---- each element once
-- round from the row after r: places below n - 1 - r are those after r, the others those up to r
module _ (n r : ℕ) (b : r < n) where
  abbrev turn_of : ℕ → ℕ
  turn_of e = cond (ltb r e) (e - suc r) (e + (n - suc r))

  abbrev nth : ℕ → ℕ
  nth t = cond (ltb t (n - suc r)) (suc r + t) (t - (n - suc r))

  nth-early : (t : ℕ) → t < n - suc r → nth t ≡ suc r + t
  nth-early t l = rw (lt-ltb t (n - suc r) l)

  nth-late : (t : ℕ) → n - suc r ≤ t → nth t ≡ t - (n - suc r)
  nth-late t l = rw (le-ltb t (n - suc r) l)

  turn-after : (e : ℕ) → r < e → turn_of e ≡ e - suc r
  turn-after e l = rw (lt-ltb r e l)

  turn-before : (e : ℕ) → e ≤ r → turn_of e ≡ e + (n - suc r)
  turn-before e l = rw (le-ltb r e l)

  round : Permutes n nth
  round = record {
    from = turn_of;
    below = λ t l. nth-below t l (dec_lt t (n - suc r));
    from-below = λ e l. turn_below e l (dec_lt r e);
    to-from = λ e l. to e l (dec_lt r e);
    from-to = λ t l. back t l (dec_lt t (n - suc r));
  }
    where
      nth-below : (t : ℕ) → t < n → Dec (t < n - suc r) → nth t < n
      nth-below t l (yes q) = omega (arith, nth-early t q)
      nth-below t l (no q) = omega (arith, nth-late t (omega arith))

      turn_below : (e : ℕ) → e < n → Dec (r < e) → turn_of e < n
      turn_below e l (yes q) = omega (arith, turn-after e q)
      turn_below e l (no q) = omega (arith, turn-before e (omega arith))

      to : (e : ℕ) → e < n → Dec (r < e) → nth (turn_of e) ≡ e
      to e l (yes q) = let w = turn-after e q in ap nth w ∙ nth-early (e - suc r) (omega arith) ∙ (omega arith)
      to e l (no q) = let w = turn-before e (omega arith) in ap nth w ∙ nth-late (e + (n - suc r)) (omega arith) ∙ (omega arith)

      back : (t : ℕ) → t < n → Dec (t < n - suc r) → turn_of (nth t) ≡ t
      back t l (yes q) = let w = nth-early t q in ap turn_of w ∙ turn-after (suc r + t) (omega arith) ∙ (omega arith)
      back t l (no q) =
          let w = nth-late t (omega arith) in ap turn_of w ∙ turn-before (t - (n - suc r)) (omega arith) ∙ (omega arith)

  -- only the last element is r
  not_yet : (t : ℕ) → suc t < n → nth t ≢ r
  not_yet t l = go (dec_lt t (n - suc r))
    where
      go : Dec (t < n - suc r) → nth t ≢ r
      go (yes q) e = omega (arith, nth-early t q)
      go (no q) e = omega (arith, nth-late t (omega arith))

pub undoing-permutes : (kind : Kind) (n r : ℕ) → r < n → Permutes n (nth_undone kind n r)
unfolding nth_undone
undoing-permutes Permutation n r b = same-permutes n
undoing-permutes Lower n r b = same-permutes n
undoing-permutes Upper n r b = record {
  from = λ e. n - suc e;
  below = λ e l. omega arith;
  from-below = λ e l. omega arith;
  to-from = λ e l. omega arith;
  from-to = λ e l. omega arith;
}
undoing-permutes Single n r b = round n r b

-- the other way round: the element that is recovered last comes first
pub undoing-reversed : (kind : Kind) (n r : ℕ) → r < n → Permutes n (λ t. nth_undone kind n r (n - suc t))
undoing-reversed kind n r b =
    let p = undoing-permutes kind n r b in
    record {
      from = λ e. n - suc (p.from e);
      below = λ t l. p.below (n - suc t) (omega arith);
      from-below = λ e l. omega arith;
      to-from = λ e l. let f = p.from-below e l in let z : n - suc (n - suc (p.from e)) ≡ p.from e = omega arith in
          rw z (p.to-from e l);
      from-to = λ t l. rw (p.from-to (n - suc t) (omega arith)) (omega arith);
    }

-- the entries of row m leave out column l, and so does the diagonal
pub record Unseen (r : Row) (m l : ℕ) : Type 0 where
  pub left : (j : ℕ) → j < r.left → j ≢ l
  pub diagonal : m ≢ l
  pub right : (j : ℕ) → j < r.right → suc m + j ≢ l

undoing-apart : (kind : Kind) (n r t u : ℕ) → r < n → t < u → u < n → nth_undone kind n r t ≢ nth_undone kind n r u
undoing-apart kind n r t u b l k z =
    let p = undoing-permutes kind n r b in omega (arith, sym (p.from-to t (omega arith)) ∙ ap p.from z ∙ p.from-to u k)

-- a row looks at no element that is recovered after it
pub row-blind : (f : Layout) (t u : ℕ) → f.row < f.order → t < u → u < f.order →
    Unseen (row_of f (nth_undone f.kind f.order f.row t)) (nth_undone f.kind f.order f.row t)
    (nth_undone f.kind f.order f.row u)
unfolding row_by nth_undone
row-blind f t u b l k = go f.kind (undoing-apart f.kind n r t u b l k)
  where
    n : ℕ
    n = f.order

    r : ℕ
    r = f.row

    go : (kind : Kind) → nth_undone kind n r t ≢ nth_undone kind n r u →
        Unseen (row_by kind n r f.entries (nth_undone kind n r t)) (nth_undone kind n r t) (nth_undone kind n r u)
    go Permutation q = record { left = λ j a. absurd (omega arith); diagonal = q; right = λ j a. absurd (omega arith) }
    go Lower q = record { left = λ j a e. omega arith; diagonal = q; right = λ j a. absurd (omega arith) }
    go Upper q = record { left = λ j a. absurd (omega arith); diagonal = q; right = λ j a e. omega arith }
    go Single q =
        rw (ne_eqb _ r (not_yet n r b t (omega arith))) (record
        { left = λ j a. absurd (omega arith); diagonal = q; right = λ j a. absurd (omega arith) })

entry-blind : (kind : Kind) (n r t u : ℕ) → r < n → t < u → u < n →
    has_entry kind r (nth_undone kind n r t) (nth_undone kind n r u) ≡ false
unfolding has_entry nth_undone
entry-blind Permutation n r t u b l k = refl
entry-blind Lower n r t u b l k = le-ltb u t (omega arith)
entry-blind Upper n r t u b l k = le-ltb (n - suc t) (n - suc u) (omega arith)
entry-blind Single n r t u b l k = ne_eqb _ r (not_yet n r b t (omega arith))

-- only kind 4 asks for its row
entry_row : (kind : Kind) (a b m k : ℕ) → (kind ≡ Single → a ≡ b) → has_entry kind a m k ≡ has_entry kind b m k
unfolding has_entry
entry_row Permutation a b m k q = refl
entry_row Lower a b m k q = refl
entry_row Upper a b m k q = refl
entry_row Single a b m k q = rw (q refl)

-- no weight looks at a later element
pub later-blind :
    (f : Factor) (kind : Kind) (n r t u : ℕ) → f.kind ≡ kind → r < n → (kind ≡ Single → f.row ≡ r) → t < u → u < n →
    matrix f (nth_undone kind n r t) (nth_undone kind n r u) ≡ pos 0
unfolding matrix
later-blind f kind n r t u e b q l k =
    rw (
      ne_eqb _ _ (undoing-apart kind n r t u b l k),
      e,
      entry_row kind f.row r (nth_undone kind n r t) (nth_undone kind n r u)
          q,
      entry-blind kind n r t u b l k,
    )
