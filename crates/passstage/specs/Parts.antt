-- SUMS OF WHOLE PARTS AND RESTS. A number is 4096 times its whole part, and a rest from 0 to 4095. A row's sums of each are kept
-- apart, in 32 bits: those of whole parts stand at 0 to 15, those of rests at 16 to 31. What a sum is rounded to is the one and
-- the other rounded.
use Rattle.std.proofs.Common.{le-leb, leb-true, ap, ◌∙◌, arith, length-set}
use Rattle.std.proofs.lemmas.Bool.{lt-leb}
use Rattle.std.specs.Prelude.{Bool, true, false, cond, List, ◌≡◌, refl, ℕ, ◌+◌, ◌-◌, ◌*◌, ◌/◌, ◌≤◌, ◌<◌, leb, ℤ, pos, ◌+ℤ◌, ◌-ℤ◌, ◌*ℤ◌, length, set, replicate}
use Rattle.std.proofs.Math.Path.{sym}
use Rattle.std.proofs.Math.Decide.{ℕ_discrete, dec_lt}
use Rattle.std.proofs.Math.Numerals.{add-one}
use Rattle.std.proofs.Math.IntN.{+ℤ_idl, +ℤ_idr, +ℤ_assoc}
use Rattle.std.specs.Int.Signed.{shr_z}
use Rattle.whole.specs.Diff.{lia, given₁, given₂, given₃, Within}
use Rattle.whole.specs.Floor.{shr-lo, shr-hi, shr-unique}
use Rattle.whole.specs.Laws.{distrib}
use Rattle.whole.specs.Machine.{within-le, within-+, within-*}
use Rattle.whole.specs.Stated.{sum}
use Rattle.whole.specs.Sum.{sum-cong, sum-add, sum-scale, sum-within}
use Rattle.rules.specs.Numbers.{most_order, most_cells, most_entry, unit, bound, at}
use Rattle.rules.specs.Stages.{R}
use Rattle.rules.proofs.Laws.Lists.{set_at, set_other}
use Rattle.factor.specs.Rounding.{rule_by, lift_by, rounds-as}
use Rattle.factor.specs.SumBounds.{Bounded}
use Rattle.joint.specs.Sums.{nothing, zero-at}

-- ---- a number in two parts
abbrev pub whole : ℤ → ℤ
whole z = shr_z z unit

abbrev pub rest : ℤ → ℤ
rest z = z -ℤ (pos unit *ℤ shr_z z unit)

pub whole-small : (z : ℤ) → Within bound z → Within 4096 (whole z)
whole-small z h = record {
  within = given₃ (shr-lo z unit (omega arith)) (shr-hi z unit (omega arith)) h (simp lia (omega arith));
}

pub rest-small : (z : ℤ) → Within 4096 (rest z)
rest-small z = given₂ (shr-lo z unit (omega arith)) (shr-hi z unit (omega arith)) (simp lia (omega arith))

-- the largest product of an entry and a part
abbrev pub most_part : ℕ
most_part = most_entry * 4096

-- ---- two rows of sums
-- of the first w of either, g and h more; the others as they were
pub record Raised (w : ℕ) (g h : ℕ → ℤ) (u v : List ℤ) : Type 0 where
  pub wholes : (c : ℕ) → c < w → at v c ≡ at u c +ℤ g c
  pub rests : (c : ℕ) → c < w → at v (most_order + c) ≡ at u (most_order + c) +ℤ h c
  pub others : (c : ℕ) → w ≤ c → c < most_order → at v c ≡ at u c
  pub beyond : (c : ℕ) → w ≤ c → at v (most_order + c) ≡ at u (most_order + c)
  pub long : length v ≡ 2 * most_order

pub raised-none : {g h : ℕ → ℤ} {v : List ℤ} → length v ≡ 2 * most_order → Raised 0 g h v v
raised-none long = record {
  wholes = λ c b. absurd (omega arith);
  rests = λ c b. absurd (omega arith);
  others = λ c b d. refl;
  beyond = λ c b. refl;
  long = long;
}

-- both sums of one line more
pub raised-next : {g h : ℕ → ℤ} {u v : List ℤ} (w : ℕ) {z y : ℤ} → w < most_order → Raised w g h u v → z ≡ at u w +ℤ g w →
    y ≡ at u (most_order + w) +ℤ h w → Raised (w + 1) g h u (set (set v w z) (most_order + w) y)
raised-next {g} {h} {u} {v} w {z} {y} l r e f = record {
  wholes = λ c b. go c b (ℕ_discrete c w);
  rests = λ c b. far c b (ℕ_discrete c w);
  others = λ c b d. below c (omega arith) ∙ set_other v w c z (λ q. omega arith) ∙ r.others c (omega arith) d;
  beyond = λ c b.
      set_other (set v w z) (most_order + w) (most_order + c) y (λ q. omega arith)
      ∙ set_other v w (most_order + c) z (λ q. omega arith)
      ∙ r.beyond c (omega arith);
  long = length-set (set v w z) (most_order + w) y ∙ length-set v w z ∙ r.long;
}
  where
    room : length (set v w z) ≡ 2 * most_order
    room = length-set v w z ∙ r.long

    below : (c : ℕ) → c < most_order → at (set (set v w z) (most_order + w) y) c ≡ at (set v w z) c
    below c b = set_other (set v w z) (most_order + w) c y (λ q. omega arith)

    go : (c : ℕ) → c < w + 1 → Dec (c ≡ w) → at (set (set v w z) (most_order + w) y) c ≡ at u c +ℤ g c
    go c b (yes q) = below c (omega arith) ∙ rw q (set_at v w z (omega (arith, r.long)) ∙ e)
    go c b (no q) = below c (omega arith) ∙ set_other v w c z q ∙ r.wholes c (omega arith)

    far : (c : ℕ) → c < w + 1 → Dec (c ≡ w) → at (set (set v w z) (most_order + w) y) (most_order + c) ≡ at u (most_order + c) +ℤ h c
    far c b (yes q) = rw q (set_at (set v w z) (most_order + w) y (omega (arith, room)) ∙ f)
    far c b (no q) =
        set_other (set v w z) (most_order + w) (most_order + c) y (λ p. q (omega arith))
        ∙ set_other v w (most_order + c) z (λ p. omega arith)
        ∙ r.rests c (omega arith)

-- the same sums
pub raised-same : {w : ℕ} {g h g' h' : ℕ → ℤ} {u v : List ℤ} → ((c : ℕ) → c < w → g c ≡ g' c) →
    ((c : ℕ) → c < w → h c ≡ h' c) → Raised w g h u v → Raised w g' h' u v
raised-same {u} e f r = record {
  wholes = λ c b. r.wholes c b ∙ ap (λ (z : ℤ). at u c +ℤ z) (e c b);
  rests = λ c b. r.rests c b ∙ ap (λ (z : ℤ). at u (most_order + c) +ℤ z) (f c b);
  others = r.others;
  beyond = r.beyond;
  long = r.long;
}

-- one after the other
pub raised-twice : {w : ℕ} {g h g' h' : ℕ → ℤ} {u v t : List ℤ} → Raised w g h u v → Raised w g' h' v t →
    Raised w (λ c. g c +ℤ g' c) (λ c. h c +ℤ h' c) u t
raised-twice {g} {h} {g'} {h'} {u} r s = record {
  wholes = λ c b.
      s.wholes c b ∙ ap (λ (z : ℤ). z +ℤ g' c) (r.wholes c b) ∙ +ℤ_assoc (at u c) (g c) (g' c);
  rests = λ c b.
      s.rests c b ∙ ap (λ (z : ℤ). z +ℤ h' c) (r.rests c b) ∙ +ℤ_assoc (at u (most_order + c)) (h c) (h' c);
  others = λ c b d. s.others c b d ∙ r.others c b d;
  beyond = λ c b. s.beyond c b ∙ r.beyond c b;
  long = s.long;
}

-- what is added was put together from nothing
pub from_nothing : {o z y : ℤ} → y ≡ o +ℤ z → o ≡ pos 0 → y ≡ z
from_nothing {z} p e = p ∙ rw e (+ℤ_idl z)

abbrev pub zeros : List ℤ
zeros = replicate (2 * most_order) (pos 0)

pub raised_by : {w : ℕ} {g h : ℕ → ℤ} {t u v : List ℤ} → Raised w g h zeros t →
    Raised w (at t) (λ c. at t (most_order + c)) u v → Raised w g h u v
raised_by r s =
    raised-same (λ c b. from_nothing (r.wholes c b) (zero-at (2 * most_order) c))
    (λ c b. from_nothing (r.rests c b) (zero-at (2 * most_order) (most_order + c))) s

-- how large they become
pub raised-small : {w A B : ℕ} {g h : ℕ → ℤ} {u v : List ℤ} → Bounded A u → ((c : ℕ) → Within B (g c)) →
    ((c : ℕ) → Within B (h c)) → Raised w g h u v → Bounded (A + B) v
raised-small {w} {A} {B} {g} {h} {u} {v} k a b r = record { small = λ e. go e (dec_lt e most_order) }
  where
    low : (c : ℕ) → c < most_order → Dec (c < w) → Within (A + B) (at v c)
    low c l (yes d) = rw (r.wholes c d) (within-+ (k.small c) (a c))
    low c l (no d) = rw (r.others c (omega arith) l) (within-le (omega arith) (k.small c))

    high : (c : ℕ) → Dec (c < w) → Within (A + B) (at v (most_order + c))
    high c (yes d) = rw (r.rests c d) (within-+ (k.small (most_order + c)) (b c))
    high c (no d) = rw (r.beyond c (omega arith)) (within-le (omega arith) (k.small (most_order + c)))

    go : (e : ℕ) → Dec (e < most_order) → Within (A + B) (at v e)
    go e (yes l) = low e l (dec_lt e w)
    go e (no l) =
        let q : most_order + (e - most_order) ≡ e = omega arith in
        rw q at (high (e - most_order) (dec_lt (e - most_order) w))

-- ---- a row's entries
-- m entries of a from place p on, each times a part of the number of its column; the first column stands from place k on
unfoldable pub parts_sum : (ℤ → ℤ) → List ℤ → ℕ → ℕ → List ℤ → ℕ → ℕ → ℤ
parts_sum part a p m x k c = sum m (λ j. at a (p + j) *ℤ part (at x (k + j * most_order + c)))

-- what the code asks: entries, whole rows of the block, and sums of some products
pub record Parting (a : List ℤ) (p m : ℕ) (x : List ℤ) (k : ℕ) (v : List ℤ) : Type 0 where
  pub some : ℕ
  pub few : some + m ≤ most_order
  pub room : p + m ≤ length a
  pub places : (j : ℕ) → j < m → k + j * most_order + most_order ≤ most_cells
  pub entries : (j : ℕ) → j < m → Within most_entry (at a (p + j))
  pub numbers : Bounded bound x
  pub small : Bounded (some * most_part) v
  pub long : length v ≡ 2 * most_order

-- the products of an entry
pub product_small : {a : ℤ} (part : ℤ → ℤ) {x : List ℤ} → Within most_entry a → Bounded bound x →
    ((z : ℤ) → Within bound z → Within 4096 (part z)) → (c : ℕ) → Within most_part (a *ℤ part (at x c))
product_small part {x} e h f c = within-* e (f (at x c) (h.small c))

pub products-small : {a : ℤ} {x t : List ℤ} {w : ℕ} (k : ℕ) → Within most_entry a → Bounded bound x →
    Raised w (λ c. a *ℤ whole (at x (k + c))) (λ c. a *ℤ rest (at x (k + c))) zeros t → Bounded most_part t
products-small k e h r =
    raised-small (nothing {B = 0} (2 * most_order)) (λ c. product_small whole e h whole-small (k + c))
    (λ c. product_small rest e h (λ z _. rest-small z) (k + c)) r

module _ {a x v : List ℤ} {p m k : ℕ} (t : Parting a p m x k v) where
  pub parts-small : (part : ℤ → ℤ) → ((z : ℤ) → Within bound z → Within 4096 (part z)) → (j : ℕ) → j ≤ m → (c : ℕ) →
      Within (j * most_part) (parts_sum part a p j x k c)
  unfolding parts_sum
  parts-small part f j l c =
      sum-within j _ (λ i b. product_small part (t.entries i (omega arith)) t.numbers f (k + i * most_order + c))

  -- the sums with j entries are small
  pub parting-small : {w j : ℕ} {u : List ℤ} → j ≤ m → Raised w (parts_sum whole a p j x k) (parts_sum rest a p j x k) v u →
      Bounded (t.some * most_part + j * most_part) u
  parting-small {j} l r =
      raised-small t.small (λ c. parts-small whole whole-small j l c) (λ c. parts-small rest (λ z _. rest-small z) j l c) r

  pub parting-none : {w : ℕ} → w ≤ most_order → Raised w (parts_sum whole a p 0 x k) (parts_sum rest a p 0 x k) v v
  unfolding parts_sum sum
  parting-none l = record {
    wholes = λ c b. sym (+ℤ_idr (at v c));
    rests = λ c b. sym (+ℤ_idr (at v (most_order + c)));
    others = λ c b d. refl;
    beyond = λ c b. refl;
    long = t.long;
  }

  pub parting-next : {w : ℕ} {u y : List ℤ} (j : ℕ) → Raised w (parts_sum whole a p j x k) (parts_sum rest a p j x k) v u →
      Raised w (λ c. at a (p + j) *ℤ whole (at x (k + j * most_order + c)))
      (λ c. at a (p + j) *ℤ rest (at x (k + j * most_order + c))) u y →
      Raised w (parts_sum whole a p (j + 1) x k) (parts_sum rest a p (j + 1) x k) v y
  unfolding parts_sum sum
  parting-next j r s = rw add-one (raised-twice r s)

-- ---- how many lines are taken together, where w are asked for
unfoldable pub together : ℕ → ℕ
together w = cond (leb w 4) 4 (cond (leb w 8) 8 most_order)

pub together-4 : (w : ℕ) → w ≤ 4 → 4 ≡ together w
unfolding together
together-4 w l = rw (le-leb w 4 l)

pub together-8 : (w : ℕ) → 4 < w → w ≤ 8 → 8 ≡ together w
unfolding together
together-8 w a l = rw (lt-leb w 4 a, le-leb w 8 l)

pub together-16 : (w : ℕ) → 4 < w → 8 < w → most_order ≡ together w
unfolding together
together-16 w a b = rw (lt-leb w 4 a, lt-leb w 8 b)

-- as many at least, and no more than there is room for
pub together-wide : (w : ℕ) → w ≤ most_order → (w ≤ together w) × (together w ≤ most_order)
unfolding together
together-wide w l = go (leb w 4) (leb w 8) (λ t. leb-true w 4 t) (λ t. leb-true w 8 t)
  where
    go : (a b : Bool) → (a ≡ true → w ≤ 4) → (b ≡ true → w ≤ 8) →
        (w ≤ cond a 4 (cond b 8 most_order)) × (cond a 4 (cond b 8 most_order) ≤ most_order)
    go true b f g = (f refl, omega arith)
    go false true f g = (g refl, omega arith)
    go false false f g = (l, omega arith)

-- ---- the whole sum
abbrev pub joined : List ℤ → ℕ → ℤ
joined v l = (pos unit *ℤ at v l) +ℤ at v (most_order + l)

-- an entry times a number, by its parts
by_parts : (a z : ℤ) → (pos unit *ℤ (a *ℤ whole z)) +ℤ (a *ℤ rest z) ≡ a *ℤ z
by_parts a z = simp distrib (simp lia (omega arith))

pub parts-sum : (a : List ℤ) (p m : ℕ) (x : List ℤ) (k c : ℕ) →
    (pos unit *ℤ parts_sum whole a p m x k c) +ℤ parts_sum rest a p m x k c
    ≡ sum m (λ j. at a (p + j) *ℤ at x (k + j * most_order + c))
unfolding parts_sum
parts-sum a p m x k c =
    ap (λ (z : ℤ). z +ℤ sum m (λ j. at a (p + j) *ℤ rest (at x (k + j * most_order + c)))) (sym (sum-scale m (pos unit) _))
    ∙ sym (sum-add m _ _)
    ∙ sum-cong m _ _ (λ j b. by_parts (at a (p + j)) (at x (k + j * most_order + c)))

-- ---- rounded
-- the largest sum of parts; what its whole units come to; what a whole sum is rounded to
abbrev pub most_parts : ℕ
most_parts = most_order * most_part

abbrev pub most_carry : ℕ
most_carry = most_order * most_entry + 1

abbrev pub most_new : ℕ
most_new = most_parts + most_carry

pub carry-small : {l : ℤ} → Within (most_parts + unit / 2) l → Within most_carry (shr_z l unit)
carry-small {l} w = record {
  within = given₃ (shr-lo l unit (omega arith)) (shr-hi l unit (omega arith)) w (simp lia (omega arith));
}

floor-past : (h l : ℤ) → shr_z ((pos unit *ℤ h) +ℤ l) unit ≡ h +ℤ shr_z l unit
floor-past h l =
    shr-unique ((pos unit *ℤ h) +ℤ l) unit (h +ℤ shr_z l unit) (given₁ (shr-lo l unit (omega arith)) (simp lia (omega arith)))
    (given₁ (shr-hi l unit (omega arith)) (simp lia (omega arith)))

-- whole units pass through the floor
pub rounds-parts : (down even : Bool) (h l : ℤ) →
    h +ℤ shr_z (l +ℤ pos (lift_by down even (unit / 2) (h +ℤ shr_z l unit))) unit
    ≡ R (rule_by down even) unit ((pos unit *ℤ h) +ℤ l)
rounds-parts down even h l =
    sym (floor-past h (l +ℤ a))
    ∙ ap (λ (z : ℤ). shr_z z unit) (sym (+ℤ_assoc (pos unit *ℤ h) l a))
    ∙ ap (λ (q : ℤ). shr_z (((pos unit *ℤ h) +ℤ l) +ℤ pos (lift_by down even (unit / 2) q)) unit) (sym (floor-past h l))
    ∙ rounds-as unit ((pos unit *ℤ h) +ℤ l) (omega arith) (omega arith) down even
  where
    a : ℤ
    a = pos (lift_by down even (unit / 2) (h +ℤ shr_z l unit))
