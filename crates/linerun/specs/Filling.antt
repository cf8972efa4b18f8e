-- A BLOCK MADE TURN BY TURN: in turn t its element p t becomes z t. A number beyond the bound stays, so it refuses the stage.
use Rattle.std.specs.Prelude.{Bool, true, false, List, Result, is_ok, IsErrAnd, ◌≡◌, ℕ, ◌+◌, ◌<◌, leb, ℤ, nat_abs, length, set}
use Rattle.std.proofs.lemmas.Result.{err_from_is_err_and}
use Rattle.std.proofs.Common.{sym, ap, ◌∙◌, add-one, arith}
use Rattle.whole.specs.Diff.{Within}
use Rattle.rules.specs.declared.Rule.{Rule}
use Rattle.rules.specs.Numbers.{most_order, bound, at}
use Rattle.rules.specs.Stages.{fill, inside}
use Rattle.rules.proofs.Laws.Lists.{fill-at}
use Rattle.factor.specs.declared.Layout.{Layout}
use Rattle.factor.specs.SumBounds.{Bounded, bounded-set, beyond-there, Kept, kept-no, kept-yes}
use Rattle.factor.specs.LayoutInSheet.{InSheet}
use Rattle.factor.specs.InPlace.{in_place, in-place-stays}
use Rattle.factor.specs.UndoingOrder.{nth_undone, undoing-permutes}
use Rattle.factor.specs.Steps.{Step, step-stops, step-goes}
use Rattle.linerun.specs.Steps.{applied_at, undone_at, undone_in_place}

-- the code gives up: a number of the new block is beyond the bound
pub refuses :
    {T E : Type 0} {most n : ℕ} {new block : List ℤ} (r : Result T E) (Q : E → Type 0) → IsErrAnd r Q →
    inside most n new ≡ false → Step most n new (is_ok r) block
refuses r Q q o = let p = err_from_is_err_and r q in rw p.1 (step-stops o)

pub record Filling (n : ℕ) (g : ℕ → List ℤ) (p : ℕ → ℕ) (z : ℕ → ℤ) : Type 0 where
  pub next : (t : ℕ) → t < n → g (t + 1) ≡ set (g t) (p t) (z t)
  pub kept : (t : ℕ) → t < n → at (g n) (p t) ≡ z t
  pub below : (t : ℕ) → t < n → p t < n

-- the block after t turns, in bound
pub record Filled (g : ℕ → List ℤ) (t : ℕ) (y : List ℤ) : Type 0 where
  pub is : y ≡ g t
  pub small : Bounded bound y

module _ {n : ℕ} {g : ℕ → List ℤ} {p : ℕ → ℕ} {z : ℕ → ℤ} (f : Filling n g p z) where
  pub filled_more : {t : ℕ} {y : List ℤ} → t < n → Filled g t y → Within bound (z t) → Filled g (t + 1) (set y (p t) (z t))
  filled_more {t} {y} l h b = record {
    is = ap (λ (v : List ℤ). set v (p t) (z t)) h.is ∙ sym (f.next t l);
    small = bounded-set y (p t) h.small b;
  }

  pub filled-stops : (t : ℕ) → t < n → leb (nat_abs (z t)) bound ≡ false → inside bound n (g n) ≡ false
  filled-stops t l h = beyond-there bound n (g n) (p t) (z t) (f.below t l) (f.kept t l) h

  -- the code has put z t into its place, or found it beyond the bound; v is that number as the code holds it
  module _ {t : ℕ} {y new : List ℤ} {v : ℤ} {ok : Bool} (l : t < n) (e : v ≡ z t) (k : Kept bound v (p t) y ok new) where
    pub filled_next : Filled g t y → ok ≡ true → Filled g (t + 1) new
    filled_next h o = rw (k.put o, e) (filled_more l h (rw e at (kept-yes k o)))

    pub filled-refused : ok ≡ false → inside bound n (g n) ≡ false
    filled-refused o = filled-stops t l (rw e at (kept-no k o))

  pub filled-done : {t : ℕ} {y : List ℤ} → t ≡ n → Filled g t y → Step bound n (g n) true y
  filled-done e h = step-goes (h.is ∙ ap g e) h.small

module _ (rule : Rule) {s : List ℤ} {f : Layout} (h : InSheet s f) (x : List ℤ) (wide : length x ≡ most_order) where
  -- applied: each element of the old block
  pub applied-fills :
      Filling f.order (λ t. fill t (applied_at rule s f x) x) (λ t. t) (applied_at rule s f x)
  unfolding fill
  applied-fills = record {
    next = λ t l. rw add-one;
    kept = λ t l. fill-at f.order (applied_at rule s f x) x t l (let o = h.order in omega arith);
    below = λ t l. l;
  }

  -- undone in place, in an order q that is the kind's
  pub undone-fills :
      f.row < f.order → (q : ℕ → ℕ) → ((t : ℕ) → t < f.order → q t ≡ nth_undone f.kind f.order f.row t) →
      Filling f.order (λ t. undone_in_place rule s f t x) q (λ t. undone_at rule s f (undone_in_place rule s f t x) (q t))
  unfolding in_place
  undone-fills r q e =
      let p = undoing-permutes f.kind f.order f.row r in
      record {
        next = λ t l. rw (add-one, e t l);
        kept = λ t l. rw (e t l) (in-place-stays p (undone_at rule s f) x (let o = h.order in omega arith) t f.order l
            (omega arith));
        below = λ t l. rw (e t l) (p.below t l);
      }
