-- NUMBERS MOVED IN PLACE, one after another: the lines of a block by a permutation, applied or back.
use Rattle.std.specs.Prelude.{Bool, true, false, cond, List, ◌≢◌, ◌≡◌, refl, ℕ, zero, suc, ◌+◌, ◌*◌, ◌≤◌, ◌<◌, ℤ, pos, length, set, replicate}
use Rattle.std.proofs.Common.{sym, ◌∙◌, arith, length-set}
use Rattle.std.proofs.Math.Decide.{ℕ_discrete}
use Rattle.rules.specs.Numbers.{most_order, at}
use Rattle.rules.specs.Stages.{fill, put_back}
use Rattle.rules.specs.GoodStages.{Permutes}
use Rattle.rules.proofs.Laws.SoundFactors.{same-permutes}
use Rattle.rules.proofs.Laws.Lists.{fill-at, set_at, set_other}
use Rattle.factor.specs.SumBounds.{Bounded, bounded-fill, bounded-put}

-- place q m is set to g m, for each m below n
unfoldable pub scattered : ℕ → (ℕ → ℕ) → (ℕ → ℤ) → List ℤ → List ℤ
scattered zero q g x = x
scattered (suc m) q g x = set (scattered m q g x) (q m) (g m)

-- turn m of a permutation: where a number goes, and where it comes from. Applied, place m takes the number of place p m; back,
-- the number of m goes to p m
abbrev pub to_of : Bool → (ℕ → ℕ) → ℕ → ℕ
to_of back p m = cond back (p m) m

abbrev pub from_of : Bool → (ℕ → ℕ) → ℕ → ℕ
from_of back p m = cond back m (p m)

-- n numbers by a permutation, as the document has them
unfoldable pub moved_by : Bool → ℕ → (ℕ → ℕ) → List ℤ → List ℤ
moved_by false n p x = fill n (λ e. at x (p e)) x
moved_by true n p x = put_back n p x

-- a line is the n numbers from place k on, s apart: it lies inside a block, and its numbers are moved
abbrev pub LineIn : ℕ → ℕ → ℕ → List ℤ → Type 0
LineIn n k s x = (m : ℕ) → m < n → k + m * s < length x

-- from a copy v of it, or from itself
unfoldable pub moved_from : Bool → ℕ → (ℕ → ℕ) → List ℤ → ℕ → ℕ → List ℤ → List ℤ
moved_from back n p v k s x = scattered n (λ m. k + to_of back p m * s) (λ m. at v (from_of back p m)) x

unfoldable pub moved_line : Bool → ℕ → (ℕ → ℕ) → ℕ → ℕ → List ℤ → List ℤ
moved_line back n p k s x = scattered n (λ m. k + to_of back p m * s) (λ m. at x (k + from_of back p m * s)) x

-- ---- laws
pub length-scattered : (n : ℕ) (q : ℕ → ℕ) (g : ℕ → ℤ) (x : List ℤ) → length (scattered n q g x) ≡ length x
unfolding scattered
length-scattered zero q g x = refl
length-scattered (suc n) q g x = length-set (scattered n q g x) (q n) (g n) ∙ length-scattered n q g x

pub scattered-other : (n : ℕ) (q : ℕ → ℕ) (g : ℕ → ℤ) (x : List ℤ) (k : ℕ) → ((m : ℕ) → m < n → k ≢ q m) →
    at (scattered n q g x) k ≡ at x k
unfolding scattered
scattered-other zero q g x k h = refl
scattered-other (suc n) q g x k h =
    set_other (scattered n q g x) (q n) k (g n) (h n (omega arith)) ∙ scattered-other n q g x k (λ m l. h m (omega arith))

pub scattered-at : (n : ℕ) (q : ℕ → ℕ) (g : ℕ → ℤ) (x : List ℤ) → ((m : ℕ) → m < n → q m < length x) →
    ((i j : ℕ) → i < n → j < n → i ≢ j → q i ≢ q j) → (m : ℕ) → m < n → at (scattered n q g x) (q m) ≡ g m
unfolding scattered
scattered-at zero q g x room once m l = absurd (omega arith)
scattered-at (suc n) q g x room once m l =
    go (scattered-at n q g x (λ i b. room i (omega arith)) (λ i j a b. once i j (omega arith) (omega arith)) m) (ℕ_discrete m n)
  where
    go : (m < n → at (scattered n q g x) (q m) ≡ g m) → Dec (m ≡ n) → at (set (scattered n q g x) (q n) (g n)) (q m) ≡ g m
    go ih (yes e) = rw e (set_at (scattered n q g x) (q n) (g n) (omega (arith, length-scattered n q g x, room n (omega arith))))
    go ih (no e) = set_other (scattered n q g x) (q n) (q m) (g n) (once m n l (omega arith) e) ∙ ih (omega arith)

pub scattered-same : (n : ℕ) (q r : ℕ → ℕ) (g h : ℕ → ℤ) (x : List ℤ) → ((m : ℕ) → m < n → q m ≡ r m) →
    ((m : ℕ) → m < n → g m ≡ h m) →
    scattered n q g x ≡ scattered n r h x
unfolding scattered
scattered-same zero q r g h x a b = refl
scattered-same (suc n) q r g h x a b =
    rw (scattered-same n q r g h x (λ m l. a m (omega arith)) (λ m l. b m (omega arith)), a n (omega arith), b n (omega arith))

-- the document's moves, as turns
pub moved-scattered : (back : Bool) (n : ℕ) (p : ℕ → ℕ) (x : List ℤ) →
    moved_by back n p x ≡ scattered n (to_of back p) (λ m. at x (from_of back p m)) x
unfolding moved_by fill put_back scattered
moved-scattered false zero p x = refl
moved-scattered false (suc n) p x = rw (moved-scattered false n p x)
moved-scattered true zero p x = refl
moved-scattered true (suc n) p x = rw (moved-scattered true n p x)

-- moved numbers stay in bound
pub moved-bounded : {B : ℕ} (back : Bool) (n : ℕ) (p : ℕ → ℕ) {x : List ℤ} → Bounded B x → Bounded B (moved_by back n p x)
unfolding moved_by
moved-bounded false n p h = bounded-fill n _ h (λ e. h.small (p e))
moved-bounded true n p h = bounded-put n p h

-- a line that is the whole front of a block
pub front-moved : (back : Bool) (n : ℕ) (p : ℕ → ℕ) (x : List ℤ) → moved_from back n p x 0 1 x ≡ moved_by back n p x
unfolding moved_from
front-moved back n p x =
    scattered-same n _ _ _ _ x (λ m l. front (to_of back p m)) (λ m l. refl) ∙ sym (moved-scattered back n p x)
  where
    front : (m : ℕ) → 0 + m * 1 ≡ m
    front m = omega arith

-- both ways of a permutation are permutations
pub to-permutes : (back : Bool) {n : ℕ} {p : ℕ → ℕ} → Permutes n p → Permutes n (to_of back p)
to-permutes true h = h
to-permutes false {n} h = same-permutes n

pub from-permutes : (back : Bool) {n : ℕ} {p : ℕ → ℕ} → Permutes n p → Permutes n (from_of back p)
from-permutes true {n} h = same-permutes n
from-permutes false h = h

-- a line moved through a copy of it
pub moved-aside : (back : Bool) {n : ℕ} {p : ℕ → ℕ} (k s : ℕ) (x : List ℤ) {v : List ℤ} → n ≤ most_order → Permutes n p →
    v ≡ fill n (λ m. at x (k + m * s)) (replicate most_order (pos 0)) →
    moved_from back n p v k s x ≡ moved_line back n p k s x
unfolding moved_from moved_line
moved-aside back {n} k s x few h e =
    scattered-same n _ _ _ _ x (λ m l. refl)
    (λ m l. rw e (fill-at n _ (replicate most_order (pos 0)) _ ((from-permutes back h).below m l) few))
