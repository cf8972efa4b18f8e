-- TURNS: what they ask, how large their numbers are, and one after another.
use Rattle.std.specs.Prelude.{true, List, [], ◌∷◌, ◌≢◌, ◌≡◌, refl, ℕ, zero, suc, ◌+◌, ◌-◌, ◌*◌, ◌≤◌, ◌<◌, T, ltb, leb, ℤ, length}
use Rattle.std.proofs.Common.{ap, ◌∙◌, arith, eq-eqb, ne_eqb, lit<, lit≤}
use Rattle.std.proofs.Math.Decide.{ℕ_discrete}
use Rattle.whole.specs.Diff.{Within}
use Rattle.whole.specs.Stated.{Sign}
use Rattle.whole.specs.Machine.{within-le, within-+, within-*, within-pos}
use Rattle.rules.specs.declared.Kind.{Kind}
use Rattle.rules.specs.declared.Kind.TheVariants.{Permutation}
use Rattle.rules.specs.declared.Rule.{Rule}
use Rattle.rules.specs.Numbers.{unit, bound, most_entry, at, count}
use Rattle.rules.specs.Sheets.{kind_of}
use Rattle.rules.specs.Factors.{signs_at}
use Rattle.laws.specs.Accepted.{FactorRead, Weights, entries_of, sign-is, entry-is}
use Rattle.factor.specs.SumBounds.{Bounded, Terms}
use Rattle.factor.specs.Rounding.{rounded-within}
use Rattle.four.specs.declared.Four.{Four}
use Rattle.four.specs.Turns.{entry_at, EntryIn, ElementIn, row_sum, rounded_sum, Turned, Became}

-- ---- a factor whose signs start at place p, with so many entries
pub record FactorIn (s : List ℤ) (p many : ℕ) : Type 0 where
  pub room : p + 4 ≤ length s
  pub signs : (m : ℕ) → m < 4 → Sign (at s (p + m))
  pub entries : (c : ℕ) → c ≤ many → EntryIn s (p + 4) c

weights-in : {s : List ℤ} {many p : ℕ} → Weights s 4 many p → FactorIn s p many
unfolding entry_at
weights-in {s} {many} {p} w = record {
  room = let h = (w.signs.each 3 (omega arith)).there in omega arith;
  signs = λ m l. sign-is (w.signs.each m l);
  entries = λ c l. go c l (ℕ_discrete c 0);
}
  where
    go : (c : ℕ) → c ≤ many → Dec (c ≡ 0) → EntryIn s (p + 4) c
    go c l (yes z) = record { there = λ q. absurd (q z); small = rw (eq-eqb c 0 z) (within-le (omega arith) (within-pos 0)) }
    go c l (no q) =
        let h = w.entries.each (c - 1) (omega arith) in
        record { there = λ _. h.there; small = rw (ne_eqb c 0 q) (entry-is h) }

module _ {s : List ℤ} {i : ℕ} (h : FactorRead s 4 i) where
  pub factor-in : (kind : Kind) → kind ≢ Permutation → kind_of (count s i) ≡ kind →
      FactorIn s (signs_at kind i) (entries_of 4 kind)
  factor-in kind q k = weights-in (rw k at (h.body.weights (λ e. q (cc))))

-- the places and numbers of a turn are literals, so their tests compute
pub element-in :
    {s : List ℤ} {p many m a b c d : ℕ} → FactorIn s p many → T (ltb m 4) → T (leb a many) → T (leb b many) → T (leb c many) →
    T (leb d many) → ElementIn s p m a b c d
element-in {m} h t₀ t₁ t₂ t₃ t₄ = record {
  place = lit< t₀;
  room = h.room;
  sign = h.signs m (lit< t₀);
  first = h.entries _ (lit≤ t₁);
  second = h.entries _ (lit≤ t₂);
  third = h.entries _ (lit≤ t₃);
  fourth = h.entries _ (lit≤ t₄);
}

-- ---- how large the numbers are
pub terms-of-four :
    {s x : List ℤ} {p m a b c d : ℕ} → ElementIn s p m a b c d → length x ≡ 4 → Bounded bound x →
    let w = entry_at s (p + 4) in Terms (w a ∷ w b ∷ w c ∷ w d ∷ []) x 4
terms-of-four {s} {p = p} {a = a} {b = b} {c = c} {d = d} h l k = record {
  room = omega arith;
  across = omega arith;
  few = omega arith;
  entries = each;
  numbers = λ j _. within-le (omega arith) (k.small j);
}
  where
    each : (j : ℕ) → j < 4 →
        let w = entry_at s (p + 4) in Within most_entry (at (w a ∷ w b ∷ w c ∷ w d ∷ []) j)
    each zero l = h.first.small
    each (suc zero) l = h.second.small
    each (suc (suc zero)) l = h.third.small
    each (suc (suc (suc zero))) l = h.fourth.small
    each (suc (suc (suc (suc j)))) l = absurd (omega arith)

abbrev pub most_sum : ℕ
most_sum = 4 * (most_entry * bound)

module _ {s : List ℤ} {p m a b c d : ℕ} (h : ElementIn s p m a b c d) {x : List ℤ} (k : Bounded bound x) (rule : Rule) where
  pub row-sum-small : Within most_sum (row_sum rule s p a b c d x)
  unfolding row_sum
  row-sum-small =
      within-+
      (within-+
      (within-+ (within-+ (within-pos 0) (within-* h.first.small (k.small 0))) (within-* h.second.small (k.small 1)))
      (within-* h.third.small (k.small 2)))
      (within-* h.fourth.small (k.small 3))

  pub rounded-sum-small : Within (most_sum + 2048) (rounded_sum rule s p a b c d x)
  rounded-sum-small = rounded-within rule unit (omega arith) (omega arith) row-sum-small

-- ---- turns one after another
pub turned_as : {r v : Four} {g h : List ℤ → List ℤ} → g v.block ≡ h v.block → Turned r v g → Turned r v h
turned_as e t = record { small = t.small; took = λ o. let q = t.took o in (q.0, q.1 ∙ e) }

starts : {x : List ℤ} → Bounded bound x → Became (record { ok = true; block = x }) x
starts h = record { small = h; became = λ _. refl }

pub then-turn : {v r : Four} {g : List ℤ → List ℤ} {u : List ℤ} → Became v u → Turned r v g → Became r (g u)
then-turn {g = g} h t = record { small = t.small; became = λ o. let q = t.took o in q.1 ∙ ap g (h.became q.0) }

pub four-turns :
    {x : List ℤ} {a b c d : Four} {f g h k : List ℤ → List ℤ} → Bounded bound x → Turned a (record { ok = true; block = x }) f →
    Turned b a g → Turned c b h → Turned d c k → Became d (k (h (g (f x))))
four-turns s t u v w = then-turn (then-turn (then-turn (then-turn (starts s) t) u) v) w

pub became-by : {x u : List ℤ} → x ≡ u → Bounded bound u → Became (record { ok = true; block = x }) u
became-by e h = record { small = rw e h; became = λ _. e }

pub became-is : {r : Four} {u w : List ℤ} → u ≡ w → Became r u → Became r w
became-is e h = rw e at h
