-- Every number of an accepted sheet lies between -16384 and 16384, so that the writer may write it.
-- Assumes nothing.
use Rattle.std.specs.Prelude.{List, ◌≡◌, refl, ℕ, zero, suc, ◌+◌, ◌-◌, ◌≤◌, ◌<◌, ℤ, pos, length}
use Rattle.std.proofs.Common.{⊎_elim, subst, arith}
use Rattle.std.proofs.Math.Decide.{dec_lt}
use Rattle.std.proofs.Math.ListN.{get_or-eq_default}
use Rattle.whole.specs.Diff.{Within}
use Rattle.rules.specs.declared.Item.{Item}
use Rattle.rules.specs.declared.Item.TheVariants.{Order, Count, KindNumber, Row, Place, Sign, Entry}
use Rattle.rules.specs.declared.Kind.{Kind}
use Rattle.rules.specs.declared.Kind.TheVariants.{Permutation, Lower, Upper, Single}
use Rattle.rules.specs.Numbers.{most_order, most_entry, at, count}
use Rattle.rules.specs.Sheets.{kind_of}
use Rattle.rules.specs.Factors.{numbers, signs_at}
use Rattle.rules.specs.Answers.{further}
use Rattle.laws.specs.Readers.{Seen}
use Rattle.laws.specs.Accepted.{order-ranged, count-ranged, kind-ranged, sign-is, entry-is, row_is, place_is, Stretch}
use Rattle.laws.specs.Accepted.{Weights, entries_of, never, BodyRead, FactorRead, Each, Accepted, accepted-order}

-- the numbers from place i to place j
pub record Low (s : List ℤ) (i j : ℕ) : Type 0 where
  pub low : (k : ℕ) → i ≤ k → k < j → Within most_entry (at s k)

join : {s : List ℤ} {i j l : ℕ} → Low s i j → Low s j l → Low s i l
join {s} {i} {j} {l} a b = record { low = λ k p q. split k p q (dec_lt k j) }
  where
    split : (k : ℕ) → i ≤ k → k < l → Dec (k < j) → Within most_entry (at s k)
    split k p q (yes h) = a.low k p h
    split k p q (no h) = b.low k (omega arith) q

to : {s : List ℤ} {i j : ℕ} (l : ℕ) → j ≡ l → Low s i j → Low s i l
to {s} {i} l e h = subst (λ (j : ℕ). Low s i j) e h

-- the order that a row or a place has to stay below is small
abbrev Fine : Item → Type 0
Fine Order = Unit {0}
Fine Count = Unit {0}
Fine KindNumber = Unit {0}
Fine (Row n) = n ≤ most_order
Fine (Place n p) = n ≤ most_order
Fine Sign = Unit {0}
Fine Entry = Unit {0}

seen_low : {s : List ℤ} {i : ℕ} (what : Item) → Fine what → Seen s what i → Within most_entry (at s i)
seen_low Order f h = let a = (order-ranged h).most in record { within = omega arith }
seen_low Count f h = let a = (count-ranged h).most in record { within = omega arith }
seen_low KindNumber f h = let a = (kind-ranged h).most in record { within = omega arith }
seen_low (Row n) f h = let a = (row_is h).1 in record { within = omega arith }
seen_low (Place n p) f h = let a = (place_is h).1 in record { within = omega arith }
seen_low Sign f h =
    ⊎_elim (λ e. rw e (record { within = omega arith })) (λ e. rw e (record { within = omega arith })) (sign-is h)
seen_low Entry f h = entry-is h

run-low : {s : List ℤ} {m i : ℕ} (what : Item) → Fine what → Stretch s what m i → Low s i (i + m)
run-low {s} {m} {i} what f h = record {
  low = λ k p q.
      let e : i + (k - i) ≡ k = omega arith in
      subst (λ (j : ℕ). Within most_entry (at s j)) e (seen_low what f (h.each (k - i) (omega arith)));
}

one-low : {s : List ℤ} {i : ℕ} (what : Item) → Fine what → Seen s what i → Low s i (i + 1)
one-low {s} {i} what f h = record {
  low = λ k p q.
      let e : i ≡ k = omega arith in
      subst (λ (j : ℕ). Within most_entry (at s j)) e (seen_low what f h);
}

weights-low : {s : List ℤ} {n m i : ℕ} → Weights s n m i → Low s i (i + (n + m))
weights-low h = to _ (omega arith) (join (run-low Sign tt h.signs) (run-low Entry tt h.entries))

body-low :
    {s : List ℤ} {n i : ℕ} (kind : Kind) → n ≤ most_order → BodyRead s n kind i → Low s (i + 1) (i + numbers n kind)
unfolding numbers signs_at entries_of
body-low {s} {n} {i} Permutation b h = to _ (omega arith) (run-low (Place n (i + 1)) b (h.places refl))
body-low Lower b h = to _ (omega arith) (weights-low (h.weights (λ e. never (cc))))
body-low Upper b h = to _ (omega arith) (weights-low (h.weights (λ e. never (cc))))
body-low {s} {n} {i} Single b h =
    to _ (omega arith)
    (join (to (i + 2) (omega arith) (one-low (Row n) b (h.row refl))) (weights-low (h.weights (λ e. never (cc)))))

factor-low : {s : List ℤ} {n i : ℕ} → n ≤ most_order → FactorRead s n i → Low s i (i + numbers n (kind_of (count s i)))
factor-low {s} {n} {i} b h = join (one-low KindNumber tt h.kind) (body-low (kind_of (count s i)) b h.body)

factors-low : (s : List ℤ) (n m i : ℕ) → n ≤ most_order → Each s n m i → Low s i (further s n i m)
unfolding further
factors-low s n zero i b h = record { low = λ k p q. absurd (omega arith) }
factors-low s n (suc m) i b h =
    join (factors-low s n m i b (λ f l. h f (omega arith))) (factor-low b (h m (omega arith)))

pub accepted-low : {s : List ℤ} → Accepted s → (k : ℕ) → Within most_entry (at s k)
accepted-low {s} h k = split (dec_lt k (length s))
  where
    all : Low s 0 (length s)
    all =
        let f = factors-low s (count s 0) (count s 1) 2 (accepted-order h).most h.each in
        to _ h.end (join (one-low Order tt h.head.order) (join (one-low Count tt h.head.count) f))

    split : Dec (k < length s) → Within most_entry (at s k)
    split (yes l) = all.low k (omega arith) l
    split (no l) = rw (get_or-eq_default s (pos 0) {n = k} (omega arith)) (record { within = omega arith })
