-- THE SEARCH ALONG AN ORDER: numbers are made, one after another, until one is beyond the bound. Those that are recovered are put
-- in place; none of them is recovered twice. So the one that is found is the first beyond the bound in the list that the whole
-- stage leaves.
use Rattle.std.specs.Prelude.{Bool, Option, Some, None, not, position, unwrap_or, pos, cond, ◌≡◌, ℕ, zero, suc, ◌+◌, ◌≤◌, ◌<◌, eqb, leb, nat_abs, ◌+ℤ◌, ◌-ℤ◌, ◌*ℤ◌, length, set}
use Rattle.std.proofs.Math.Bool.{true, false}
use mathlib.Core.List.{List, [], ◌∷◌, ◌++◌, append_assoc, append-nil}
use Rattle.std.proofs.Math.Path.{refl}
use Rattle.std.proofs.Common.{sym, ap, ◌∙◌, add-one, arith, le-leb, leb-true, leb-false}
use Rattle.std.proofs.lemmas.List.Quantifiers.{position-Some}
use Rattle.std.proofs.lemmas.List.Sums.{fails_before_first}
use Rattle.std.proofs.lemmas.Grind.{common_steps}
use borrow.Author.Tests.{not-true, not-false}
use Rattle.std.specs.List.{position_or_len}
use Rattle.std.proofs.Math.Decide.{ℕ_discrete}
use Rattle.std.proofs.Math.IntN.{ℤ}
use Rattle.std.proofs.Math.ListN.{length-set}
use Rattle.whole.specs.Diff.{Within}
use Rattle.rules.specs.declared.Rule.{Rule}
use Rattle.rules.specs.Numbers.{bound, at}
use Rattle.rules.specs.Stages.{R, those, up_to, offender, off, weighed, fill, recover, first_read}
use Rattle.rules.specs.Shapes.{by_turn}
use Rattle.rules.specs.GoodStages.{has, InOrder, end, next}
use Rattle.rules.proofs.Laws.Membership.{has_first, has_more}
use Rattle.rules.proofs.Laws.Lists.{fill-at, set_at}
use Rattle.rules.proofs.Laws.Inverses.{recover-other}
use Rattle.rules.proofs.Laws.Offenders.{read_below, none-beyond, first_read_lem}
use Rattle.laws.specs.Tests.{apart}
use Rattle.factor.specs.SumBounds.{Bounded, bounded-set, Kept, kept-no, kept-yes}

-- ---- in reading order: none of the first e numbers is beyond the bound
abbrev pub Clear : List ℤ → ℕ → Type 0
Clear v e = (k : ℕ) → k < e → Within bound (at v k)

module _ (N : ℕ) (v : List ℤ) where
  pub read_first : (e : ℕ) → e < N → Clear v e → leb (nat_abs (at v e)) bound ≡ false → first_read N v ≡ e
  read_first e l h b = first_read_lem bound v N e l (leb-false (nat_abs (at v e)) bound b) h

  pub read_none : Clear v N → first_read N v ≡ 0
  read_none h = none-beyond bound v (up_to N) (λ k m. h k (read_below N k m))

-- whether a number is beyond the bound; the first that is, or 0, is the one that is named
abbrev pub beyond : ℤ → Bool
beyond z = not (leb (nat_abs z) bound)

fine : (v : List ℤ) (k : ℕ) → beyond (at v k) ≡ false → Within bound (at v k)
fine v k e = record { within = leb-true (nat_abs (at v k)) bound (not-false _ e) }

none-there : (v : List ℤ) → None ≡ position beyond v → length v ≤ position_or_len beyond v
none-there v e = grind (arith, common_steps)

pub position-read : (v : List ℤ) (o : Option ℕ) → o ≡ position beyond v → unwrap_or o 0 ≡ first_read (length v) v
position-read v None e =
    let n = none-there v e in
    sym (read_none (length v) v (λ k l. fine v k (fails_before_first beyond v k (pos 0) (omega arith))))
position-read v (Some i) e =
    let h = position-Some beyond v i (pos 0) (sym e) in
    sym (read_first (length v) v i h.0 (λ k l. fine v k (h.2 k l)) (not-true _ h.1))

-- ---- the numbers that are made
module _ (rule : Rule) (N S : ℕ) (d : ℕ → ℤ) (w : ℕ → ℕ → ℤ) where
  -- what element e becomes; back, what it was
  abbrev pub made : Bool → List ℤ → ℕ → ℤ
  made back v e =
      cond back (d e *ℤ (at v e -ℤ R rule S (weighed N (off w e) v))) ((d e *ℤ at v e) +ℤ R rule S (weighed N (off w e) v))

  unfoldable pub searched : Bool → List ℕ → List ℤ → ℕ
  searched back [] v = 0
  searched back (e ∷ es) v =
      cond (leb (nat_abs (made back v e)) bound) (searched back es (cond back (set v e (made back v e)) v)) e

  pub applied-is : (es : List ℕ) (v : List ℤ) → ((k : ℕ) → has k es ≡ true → k < N) → N ≤ length v →
      searched false es v ≡ offender bound es (fill N (made false v) v)
  unfolding searched offender
  applied-is [] v l room = refl
  applied-is (e ∷ es) v l room =
      rw (fill-at N (made false v) v e (l e (has_first e es)) room, applied-is es v (λ k m. l k (has_more k e es m)) room)

  pub undone-is : {es : List ℕ} → InOrder w es → (v : List ℤ) → ((k : ℕ) → has k es ≡ true → k < length v) →
      searched true es v ≡ offender bound es (recover rule N S d w es v)
  unfolding searched recover offender
  undone-is end v l = refl
  undone-is (next {e} {es} h t) v l =
      rw (kept, undone-is t (set v e a) (λ k m. rw (length-set v e a) (l k (has_more k e es m))))
    where
      a : ℤ
      a = made true v e

      alone : (b : Bool) → has e es ≡ b → has e es ≡ false
      alone true m = absurd ((h e m).0 refl)
      alone false m = m

      kept : at (recover rule N S d w es (set v e a)) e ≡ a
      kept = recover-other rule N S d w es (set v e a) e (alone (has e es) refl) ∙ set_at v e a (l e (has_first e es))

-- ---- a search by its parts: what it does after the elements es, whatever comes then
module _ (find : List ℕ → List ℤ → ℕ) where
  -- it stops at e
  pub record Found (es : List ℕ) (v : List ℤ) (e : ℕ) : Type 0 where
    pub is : (ks : List ℕ) → find (es ++ ks) v ≡ e

  -- it goes on from x
  pub record Passed (es : List ℕ) (v x : List ℤ) : Type 0 where
    pub is : (ks : List ℕ) → find (es ++ ks) v ≡ find ks x
    pub small : Bounded bound x
    pub long : length x ≡ length v

  -- as the code tells it: of one element
  pub record Went (es : List ℕ) (on : Bool) (e : ℕ) (v x : List ℤ) : Type 0 where
    pub stops : on ≡ false → Found es v e
    pub goes : on ≡ true → Passed es v x

  -- of many
  abbrev pub Looked : List ℕ → Option ℕ → List ℤ → List ℤ → Type 0
  Looked es None v x = Passed es v x
  Looked es (Some e) v x = Found es v e

module _ {find : List ℕ → List ℤ → ℕ} where
  pub passed_none : {v : List ℤ} → Bounded bound v → Passed find [] v v
  passed_none h = record { is = λ ks. refl; small = h; long = refl }

  pub passed-more : {es ks : List ℕ} {v x y : List ℤ} → Passed find es v x → Passed find ks x y → Passed find (es ++ ks) v y
  passed-more {es} {ks} {v} p q = record {
    is = λ js. ap (λ (l : List ℕ). find l v) (append_assoc es ks js) ∙ p.is (ks ++ js) ∙ q.is js;
    small = q.small;
    long = q.long ∙ p.long;
  }

  pub found-later : {es ks : List ℕ} {v x : List ℤ} {e : ℕ} → Passed find es v x → Found find ks x e → Found find (es ++ ks) v e
  found-later {es} {ks} {v} p q = record {
    is = λ js. ap (λ (l : List ℕ). find l v) (append_assoc es ks js) ∙ p.is (ks ++ js) ∙ q.is js;
  }

  pub found-sooner : {es : List ℕ} {v : List ℤ} {e : ℕ} (ks : List ℕ) → Found find es v e → Found find (es ++ ks) v e
  found-sooner {es} {v} ks q = record {
    is = λ js. ap (λ (l : List ℕ). find l v) (append_assoc es ks js) ∙ q.is (ks ++ js);
  }

  -- nothing comes after
  pub found-whole : {es : List ℕ} {v : List ℤ} {e : ℕ} → Found find es v e → find es v ≡ e
  found-whole {es} {v} q = sym (ap (λ (l : List ℕ). find l v) (append-nil es)) ∙ q.is []

  pub passed-whole : {es : List ℕ} {v x : List ℤ} → Passed find es v x → find es v ≡ find [] x
  passed-whole {es} {v} p = sym (ap (λ (l : List ℕ). find l v) (append-nil es)) ∙ p.is []

  pub went_on : {es : List ℕ} {e : ℕ} {v x : List ℤ} → Passed find es v x → Went find es true e v x
  went_on p = record { stops = λ b. apart b; goes = λ b. p }

-- ---- an order that is made step by step: after g n come the elements h n
pub record Grows (g h : ℕ → List ℕ) : Type 0 where
  pub more : (n : ℕ) → g (suc n) ≡ g n ++ h n

pub those-grow : (test : ℕ → Bool) → Grows (those test) (λ n. cond (test n) (n ∷ []) [])
unfolding those
those-grow test = record { more = λ n. refl }

pub turns-grow : (N : ℕ) (turn : ℕ → ℕ) → Grows (λ t. by_turn N t turn) (λ t. those (λ e. eqb (turn e) t) N)
unfolding by_turn
turns-grow N turn = record { more = λ n. refl }

module _ {find : List ℕ → List ℤ → ℕ} {g h : ℕ → List ℕ} (grows : Grows g h) where
  pub step-on : (n : ℕ) {v x y : List ℤ} → Passed find (g n) v x → Passed find (h n) x y → Passed find (g (n + 1)) v y
  step-on n p q = rw (add-one, grows.more n) (passed-more p q)

  from-there : (n N : ℕ) {v : List ℤ} {e : ℕ} → n < N → Found find (g (suc n)) v e → Found find (g N) v e
  from-there n zero l q = absurd (omega arith)
  from-there n (suc N) {v} {e} l q = go (λ m. from-there n N m q) (ℕ_discrete n N)
    where
      go : (n < N → Found find (g N) v e) → Dec (n ≡ N) → Found find (g (suc N)) v e
      go ih (yes i) = rw i at q
      go ih (no i) = rw (grows.more N) (found-sooner (h N) (ih (omega arith)))

  pub step-stops : (n N : ℕ) {v x : List ℤ} {e : ℕ} → n < N → Passed find (g n) v x → Found find (h n) x e → Found find (g N) v e
  step-stops n N l p q = from-there n N l (rw (grows.more n) (found-later p q))

-- one element, applied and undone
module _ (rule : Rule) (N S : ℕ) (d : ℕ → ℤ) (w : ℕ → ℕ → ℤ) where
  pub went-applied : {e : ℕ} {v : List ℤ} {ok : Bool} → Bounded bound v →
      ok ≡ leb (nat_abs (made rule N S d w false v e)) bound → Went (searched rule N S d w false) (e ∷ []) ok e v v
  unfolding searched
  went-applied {e} {v} {ok} h k = record {
    stops = λ b. record { is = λ ks. rw (sym k ∙ b) };
    goes = λ b. record { is = λ ks. rw (sym k ∙ b); small = h; long = refl };
  }

  pub went-undone : {e : ℕ} {v : List ℤ} {ok : Bool} {x : List ℤ} → Bounded bound v →
      Kept bound (made rule N S d w true v e) e v ok x → Went (searched rule N S d w true) (e ∷ []) ok e v x
  unfolding searched
  went-undone {e} {v} {ok} {x} h k = record {
    stops = λ b. record { is = λ ks. rw (kept-no k b) };
    goes = λ b. let s = kept-yes k b in
        rw (k.put b) (record {
          is = λ ks. rw (le-leb (nat_abs (made rule N S d w true v e)) bound s.within);
          small = bounded-set v e h s;
          long = length-set v e (made rule N S d w true v e);
        });
  }
