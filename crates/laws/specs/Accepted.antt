-- What is known of a sheet that was read without fault, part by part; and that no place leaves the sheet.
-- `accepted-read` is the law that callers of the check cite.
-- Assumes nothing.
use Rattle.std.specs.Prelude.{Bool, true, false, cond, List, ◌⊎◌, ◌≢◌, ◌≡◌, refl, ℕ, zero, suc, ◌+◌, ◌-◌, ◌≤◌, ◌<◌, T, ltb, ℤ, pos, negsuc, length}
use Rattle.std.proofs.Common.{inl, inr, sym, ap, ◌∙◌, subst, add-zero, add-suc, add-one, add-one-le, arith, eq-eqb, ne_eqb, lt-ltb, le-ltb}
use Rattle.std.proofs.Math.Decide.{dec_lt, ℕ_discrete}
use Rattle.std.specs.Int.Signed.{non_neg}
use Rattle.whole.specs.Diff.{Within}
use Rattle.rules.specs.declared.Answer.{Answer}
use Rattle.rules.specs.declared.Item.{Item}
use Rattle.rules.specs.declared.Item.TheVariants.{Order, Count, KindNumber, Row, Place, Sign, Entry}
use Rattle.rules.specs.declared.Kind.{Kind}
use Rattle.rules.specs.declared.Kind.TheVariants.{Permutation, Lower, Upper, Single}
use Rattle.rules.specs.Marks.{Mark}
use Rattle.rules.specs.Numbers.{most_order, most_count, most_kind, most_entry, at, count}
use Rattle.rules.specs.Sheets.{on, ◌then◌, times, same, among, below, unless, fault_of, one, kind_of, triangle, weights, body}
use Rattle.rules.specs.Sheets.{factor, closed, head, reading}
use Rattle.rules.specs.Factors.{numbers, signs_at}
use Rattle.rules.specs.Answers.{accepted, ◌or_else◌, read_answer, checked, further, start, matching, pair_checked}
use Rattle.laws.specs.Tests.{same-eq, below-is, unless-true, Ranged, ranged, entry-within, among-other}
use Rattle.laws.specs.Readers.{then-both, then_next, then-goes, Seen, one_seen, Stays, then-inside, times-inside}
use Rattle.laws.specs.Readers.{cond-inside, one_inside}

-- ---- what one number without fault is
pub order-ranged : {s : List ℤ} {i : ℕ} → Seen s Order i → Ranged 1 most_order (at s i)
unfolding fault_of
order-ranged {s} {i} h = ranged 1 most_order 1 (at s i) h.fine

pub count-ranged : {s : List ℤ} {i : ℕ} → Seen s Count i → Ranged 1 most_count (at s i)
unfolding fault_of
count-ranged {s} {i} h = ranged 1 most_count 2 (at s i) h.fine

pub kind-ranged : {s : List ℤ} {i : ℕ} → Seen s KindNumber i → Ranged 1 most_kind (at s i)
unfolding fault_of
kind-ranged {s} {i} h = ranged 1 most_kind 3 (at s i) h.fine

-- a sign is 1 or -1
pub sign-is : {s : List ℤ} {i : ℕ} → Seen s Sign i → (at s i ≡ pos 1) ⊎ (at s i ≡ negsuc 0)
unfolding fault_of
sign-is {s} {i} h = split (same (at s i) (pos 1)) refl h.fine
  where
    split :
        (b : Bool) → same (at s i) (pos 1) ≡ b → cond b 0 (unless (same (at s i) (negsuc 0)) 7) ≡ 0 →
        (at s i ≡ pos 1) ⊎ (at s i ≡ negsuc 0)
    split true e h = inl (same-eq (at s i) (pos 1) e)
    split false e h = inr (same-eq (at s i) (negsuc 0) (unless-true (same (at s i) (negsuc 0)) 6 h))

-- an entry is not beyond the limit
pub entry-is : {s : List ℤ} {i : ℕ} → Seen s Entry i → Within most_entry (at s i)
unfolding fault_of
entry-is {s} {i} h = entry-within (at s i) h.fine

-- a row is one of 0 to n - 1
pub row_is : {s : List ℤ} {n i : ℕ} → Seen s (Row n) i → T (non_neg (at s i)) × (count s i < n)
unfolding fault_of
row_is {s} {n} {i} h = below-is n (at s i) (unless-true (below n (at s i)) 4 h.fine)

place-tests : (a b : Bool) → ◌≡◌ {A = ℕ} (cond a (cond b 6 0) 5) 0 → (a ≡ true) × (b ≡ false)
place-tests true true h = absurd (omega arith)
place-tests true false h = (refl, refl)
place-tests false b h = absurd (omega arith)

-- a place is one of 0 to n - 1, and none of the places before it in its permutation
pub place_is : {s : List ℤ} {n p i : ℕ} → Seen s (Place n p) i → T (non_neg (at s i)) × (count s i < n)
unfolding fault_of
place_is {s} {n} {p} {i} h =
    below-is n (at s i) (place-tests (below n (at s i)) (among s (at s i) p (i - p)) h.fine).0

pub place-new :
    {s : List ℤ} {n p : ℕ} (j k : ℕ) → Seen s (Place n p) (p + k) → j < k → at s (p + j) ≡ at s (p + k) → ⊥
unfolding fault_of
place-new {s} {n} {p} j k h l e =
    among-other s (at s (p + k)) p (p + k - p) j
    (place-tests (below n (at s (p + k))) (among s (at s (p + k)) p (p + k - p)) h.fine).1
    (omega arith) e

-- ---- m numbers of one meaning, from place i on
pub record Stretch (s : List ℤ) (what : Item) (m i : ℕ) : Type 0 where
  pub each : (k : ℕ) → k < m → Seen s what (i + k)
  pub next : times m (one s what) i ≡ on (i + m)
  pub room : i ≤ length s → i + m ≤ length s

-- made of what each of them is
pub stretch-of : (s : List ℤ) (what : Item) (m i : ℕ) → ((k : ℕ) → k < m → Seen s what (i + k)) → Stretch s what m i
unfolding times
stretch-of s what zero i h = record { each = h; next = rw add-zero; room = λ l. omega arith }
stretch-of s what (suc m) i h =
    let o : Seen s what i = rw add-zero at (h 0 (omega arith)) in
    let shift : (k : ℕ) → k < m → Seen s what (i + 1 + k) =
    λ k l. let e : i + suc k ≡ i + 1 + k = omega arith in subst (λ (j : ℕ). Seen s what j) e (h (suc k) (omega arith)) in
    let r = stretch-of s what m (i + 1) shift in
    let e : i + 1 + m ≡ i + suc m = omega arith in
    record {
      each = h;
      next = then-goes (times m (one s what)) o.next (r.next ∙ ap on e);
      room = λ l. let x = r.room (add-one-le o.there) in omega arith;
    }

many-each :
    (s : List ℤ) (what : Item) (m i : ℕ) → (times m (one s what) i).number ≡ 0 → (k : ℕ) → k < m → Seen s what (i + k)
unfolding times
many-each s what zero i h k l = absurd (omega arith)
many-each s what (suc m) i h k l =
    let b = then-both (one s what i) (times m (one s what)) h in
    let o = one_seen s what i b.0 in
    split o (many-each s what m (i + 1) (then_next (i + 1) (times m (one s what)) o.next b.1)) k l
  where
    split :
        Seen s what i → ((k : ℕ) → k < m → Seen s what (i + 1 + k)) → (k : ℕ) → k < suc m → Seen s what (i + k)
    split o r zero l = rw add-zero o
    split o r (suc k) l =
        let e : i + 1 + k ≡ i + suc k = omega arith in
        subst (λ (j : ℕ). Seen s what j) e (r k (omega arith))

pub many_read : (s : List ℤ) (what : Item) (m i : ℕ) → (times m (one s what) i).number ≡ 0 → Stretch s what m i
many_read s what m i h = stretch-of s what m i (many-each s what m i h)

-- ---- n signs and m entries, from place i on
pub record Weights (s : List ℤ) (n m i : ℕ) : Type 0 where
  pub signs : Stretch s Sign n i
  pub entries : Stretch s Entry m (i + n)

pub weights-next : {s : List ℤ} {n m i : ℕ} → Weights s n m i → weights s n m i ≡ on (i + (n + m))
unfolding weights
weights-next {s} {n} {m} {i} w =
    let e : i + n + m ≡ i + (n + m) = omega arith in
    then-goes (times m (one s Entry)) w.signs.next (w.entries.next ∙ ap on e)

pub weights-room : {s : List ℤ} {n m i : ℕ} → Weights s n m i → i ≤ length s → i + (n + m) ≤ length s
weights-room w l = let x = w.entries.room (w.signs.room l) in omega arith

pub weights-read : (s : List ℤ) (n m i : ℕ) → (weights s n m i).number ≡ 0 → Weights s n m i
unfolding weights
weights-read s n m i h =
    let b = then-both (times n (one s Sign) i) (times m (one s Entry)) h in
    let d = many_read s Sign n i b.0 in
    record {
      signs = d;
      entries = many_read s Entry m (i + n) (then_next (i + n) (times m (one s Entry)) d.next b.1);
    }

-- ---- a factor of order n whose kind number stands at place i
-- how many entries it has
unfoldable pub entries_of : ℕ → Kind → ℕ
entries_of n Permutation = 0
entries_of n Lower = triangle n
entries_of n Upper = triangle n
entries_of n Single = n - 1

-- no kind is another
pub never : {X : Type 0} → ◌≡◌ {A = ℕ} 0 1 → X
never h = let y : ⊥ = omega arith in absurd y

-- what follows the kind number
pub record BodyRead (s : List ℤ) (n : ℕ) (kind : Kind) (i : ℕ) : Type 0 where
  pub places : kind ≡ Permutation → Stretch s (Place n (i + 1)) n (i + 1)
  pub row : kind ≡ Single → Seen s (Row n) (i + 1)
  pub weights : kind ≢ Permutation → Weights s n (entries_of n kind) (signs_at kind i)

pub body-next :
    {s : List ℤ} {n i : ℕ} (kind : Kind) → BodyRead s n kind i → body s n kind (i + 1) ≡ on (i + numbers n kind)
unfolding body numbers entries_of signs_at
body-next {s} {n} {i} Permutation b =
    let e : i + 1 + n ≡ i + (1 + n) = omega arith in (b.places refl).next ∙ ap on e
body-next {s} {n} {i} Lower b =
    let e : i + 1 + (n + triangle n) ≡ i + (1 + (n + triangle n)) = omega arith in
    weights-next (b.weights (λ e. never (cc))) ∙ ap on e
body-next {s} {n} {i} Upper b =
    let e : i + 1 + (n + triangle n) ≡ i + (1 + (n + triangle n)) = omega arith in
    weights-next (b.weights (λ e. never (cc))) ∙ ap on e
body-next {s} {n} {i} Single b =
    let e : i + 2 + (n + (n - 1)) ≡ i + (1 + (1 + (n + (n - 1)))) = omega arith in
    let p : i + 2 ≡ i + 1 + 1 = omega arith in
    then-goes (weights s n (n - 1)) (b.row refl).next
    (subst (λ (j : ℕ). weights s n (n - 1) j ≡ on (i + (1 + (1 + (n + (n - 1)))))) p
    (weights-next (b.weights (λ e. never (cc))) ∙ ap on e))

pub body-room :
    {s : List ℤ} {n i : ℕ} (kind : Kind) → BodyRead s n kind i → i + 1 ≤ length s → i + numbers n kind ≤ length s
unfolding numbers entries_of signs_at
body-room Permutation b l = let x = (b.places refl).room l in omega arith
body-room Lower b l = let x = weights-room (b.weights (λ e. never (cc))) l in omega arith
body-room Upper b l = let x = weights-room (b.weights (λ e. never (cc))) l in omega arith
body-room {s} {n} {i} Single b l =
    let t = (b.row refl).there in
    let x = weights-room (b.weights (λ e. never (cc))) (omega arith) in omega arith

pub body-read : (s : List ℤ) (n : ℕ) (kind : Kind) (i : ℕ) → (body s n kind (i + 1)).number ≡ 0 → BodyRead s n kind i
unfolding body entries_of signs_at
body-read s n Permutation i h = record {
  places = λ e. many_read s (Place n (i + 1)) n (i + 1) h;
  row = λ e. never (cc);
  weights = λ e. absurd (e refl);
}
body-read s n Lower i h = record {
  places = λ e. never (cc);
  row = λ e. never (cc);
  weights = λ e. weights-read s n (triangle n) (i + 1) h;
}
body-read s n Upper i h = record {
  places = λ e. never (cc);
  row = λ e. never (cc);
  weights = λ e. weights-read s n (triangle n) (i + 1) h;
}
body-read s n Single i h =
    let b = then-both (one s (Row n) (i + 1)) (weights s n (n - 1)) h in
    let o = one_seen s (Row n) (i + 1) b.0 in
    let p : i + 1 + 1 ≡ i + 2 = omega arith in
    let w = weights-read s n (n - 1) (i + 1 + 1) (then_next (i + 1 + 1) (weights s n (n - 1)) o.next b.1) in
    record {
      places = λ e. never (cc);
      row = λ e. o;
      weights = λ e. subst (λ (j : ℕ). Weights s n (n - 1) j) p w;
    }

pub record FactorRead (s : List ℤ) (n i : ℕ) : Type 0 where
  pub kind : Seen s KindNumber i
  pub body : BodyRead s n (kind_of (count s i)) i

pub factor-next : {s : List ℤ} {n i : ℕ} → FactorRead s n i → factor s n i ≡ on (i + numbers n (kind_of (count s i)))
unfolding factor
factor-next {s} {n} {i} f =
    then-goes (body s n (kind_of (count s i))) f.kind.next (body-next (kind_of (count s i)) f.body)

pub factor-room : {s : List ℤ} {n i : ℕ} → FactorRead s n i → i + numbers n (kind_of (count s i)) ≤ length s
factor-room {s} {n} {i} f = body-room (kind_of (count s i)) f.body (add-one-le f.kind.there)

pub factor-read : (s : List ℤ) (n i : ℕ) → (factor s n i).number ≡ 0 → FactorRead s n i
unfolding factor
factor-read s n i h =
    let b = then-both (one s KindNumber i) (body s n (kind_of (count s i))) h in
    let o = one_seen s KindNumber i b.0 in
    record {
      kind = o;
      body = body-read s n (kind_of (count s i)) i (then_next (i + 1) (body s n (kind_of (count s i))) o.next b.1);
    }

-- ---- m factors of order n, from place i on
pub further-first :
    (s : List ℤ) (n i f : ℕ) → further s n i (suc f) ≡ further s n (i + numbers n (kind_of (count s i))) f
unfolding further
further-first s n i zero = refl
further-first s n i (suc f) = ap (λ (j : ℕ). j + numbers n (kind_of (count s j))) (further-first s n i f)

pub further-next :
    (s : List ℤ) (n i f : ℕ) → further s n i (f + 1) ≡ further s n i f + numbers n (kind_of (count s (further s n i f)))
unfolding further
further-next s n i f = rw add-one

pub further-add : (s : List ℤ) (n i f g : ℕ) → further s n i (f + g) ≡ further s n (further s n i f) g
unfolding further
further-add s n i f zero = rw add-zero
further-add s n i f (suc g) = rw add-suc (ap (λ (j : ℕ). j + numbers n (kind_of (count s j))) (further-add s n i f g))

pub further-least : (s : List ℤ) (n i m : ℕ) → i ≤ further s n i m
unfolding further
further-least s n i zero = omega arith
further-least s n i (suc m) = omega (arith, further-least s n i m)

-- factor f from there
abbrev pub Each : List ℤ → ℕ → ℕ → ℕ → Type 0
Each s n m i = (f : ℕ) → f < m → FactorRead s n (further s n i f)

-- without the first factor
pub each-rest : (s : List ℤ) (n m i : ℕ) → Each s n (suc m) i → Each s n m (i + numbers n (kind_of (count s i)))
each-rest s n m i h f l =
    subst (λ (j : ℕ). FactorRead s n j) (further-first s n i f) (h (suc f) (omega arith))

-- a factor, and those after it
pub each_more :
    (s : List ℤ) (n m i : ℕ) → FactorRead s n i → Each s n m (i + numbers n (kind_of (count s i))) → Each s n (suc m) i
unfolding further
each_more s n m i o r zero l = o
each_more s n m i o r (suc f) l =
    subst (λ (j : ℕ). FactorRead s n j) (sym (further-first s n i f)) (r f (omega arith))

pub factors-next : (s : List ℤ) (n m i : ℕ) → Each s n m i → times m (factor s n) i ≡ on (further s n i m)
unfolding times further
factors-next s n zero i h = refl
factors-next s n (suc m) i h =
    then-goes (times m (factor s n)) (factor-next (h 0 (omega arith)))
    (factors-next s n m (i + numbers n (kind_of (count s i))) (each-rest s n m i h) ∙ ap on (sym (further-first s n i m)))

pub factors-read : (s : List ℤ) (n m i : ℕ) → (times m (factor s n) i).number ≡ 0 → Each s n m i
unfolding times
factors-read s n zero i h = λ f l. absurd (omega arith)
factors-read s n (suc m) i h =
    let b = then-both (factor s n i) (times m (factor s n)) h in
    let o = factor-read s n i b.0 in
    let p = i + numbers n (kind_of (count s i)) in
    each_more s n m i o (factors-read s n m p (then_next p (times m (factor s n)) (factor-next o) b.1))

-- ---- the head
pub record Headed (s : List ℤ) : Type 0 where
  pub order : Seen s Order 0
  pub count : Seen s Count 1

pub head-next : {s : List ℤ} → Headed s → head s ≡ on 2
unfolding head
head-next {s} h = then-goes (one s Count) h.order.next h.count.next

pub headed : (s : List ℤ) → (head s).number ≡ 0 → Headed s
unfolding head
headed s h =
    let b = then-both (one s Order 0) (one s Count) h in
    let o = one_seen s Order 0 b.0 in
    record { order = o; count = one_seen s Count 1 (then_next 1 (one s Count) o.next b.1) }

-- ---- the end
closed-end : (s : List ℤ) (i : ℕ) → i ≤ length s → (closed s i).number ≡ 0 → i ≡ length s
unfolding closed
closed-end s i l h = split (dec_lt i (length s))
  where
    split : Dec (i < length s) → i ≡ length s
    split (yes k) = let y : ◌≡◌ {A = ℕ} 9 0 = rw (lt-ltb i (length s) k) at h in absurd (omega arith)
    split (no k) = omega arith

closed_on : (s : List ℤ) → closed s (length s) ≡ on (length s)
unfolding closed
closed_on s = rw (le-ltb (length s) (length s) (omega arith))

-- ---- places stay inside the sheet
weights-inside : (s : List ℤ) (n m : ℕ) → Stays (length s) (weights s n m)
unfolding weights
weights-inside s n m i h = then-inside (times-inside n (one_inside s Sign) i h) (times-inside m (one_inside s Entry))

body-inside : (s : List ℤ) (n : ℕ) (kind : Kind) → Stays (length s) (body s n kind)
unfolding body
body-inside s n Permutation i h = times-inside n (one_inside s (Place n i)) i h
body-inside s n Lower i h = weights-inside s n (triangle n) i h
body-inside s n Upper i h = weights-inside s n (triangle n) i h
body-inside s n Single i h = then-inside (one_inside s (Row n) i h) (weights-inside s n (n - 1))

factor-inside : (s : List ℤ) (n : ℕ) → Stays (length s) (factor s n)
unfolding factor
factor-inside s n i h = then-inside (one_inside s KindNumber i h) (body-inside s n (kind_of (count s i)))

closed-inside : (s : List ℤ) → Stays (length s) (closed s)
unfolding closed
closed-inside s i h = cond-inside (ltb i (length s)) (record { inside = h }) (record { inside = h })

-- the place of a fault, or of the end, is never past the end
pub reading-inside : (s : List ℤ) → (reading s).place ≤ length s
unfolding reading head
reading-inside s =
    (then-inside
    (then-inside
    (then-inside (one_inside s Order 0 (omega arith)) (one_inside s Count))
    (times-inside (count s 1) (factor-inside s (count s 0))))
    (closed-inside s)).inside

-- ---- a sheet that was read without fault
pub record Accepted (s : List ℤ) : Type 0 where
  pub head : Headed s
  pub each : Each s (count s 0) (count s 1) 2
  pub end : start s (count s 1) ≡ length s

pub accepted-order : {s : List ℤ} → Accepted s → Ranged 1 most_order (at s 0)
accepted-order h = order-ranged h.head.order

pub accepted-count : {s : List ℤ} → Accepted s → Ranged 1 most_count (at s 1)
accepted-count h = count-ranged h.head.count

-- numbers that may be read as counts
abbrev pub Counts : List ℤ → ℕ → Type 0
Counts s i = (i < length s) × T (non_neg (at s i))

pub kind-counts : {s : List ℤ} {i : ℕ} → Seen s KindNumber i → Counts s i
kind-counts h = (h.there, (kind-ranged h).natural)

pub row_counts : {s : List ℤ} {n i : ℕ} → Seen s (Row n) i → Counts s i
row_counts h = (h.there, (row_is h).0)

pub place-counts : {s : List ℤ} {n p i : ℕ} → Seen s (Place n p) i → Counts s i
place-counts h = (h.there, (place_is h).0)

pub order-counts : {s : List ℤ} → Accepted s → Counts s 0
order-counts h = (h.head.order.there, (accepted-order h).natural)

pub count-counts : {s : List ℤ} → Accepted s → Counts s 1
count-counts h = (h.head.count.there, (accepted-count h).natural)

-- the head and the factors of a sheet
abbrev pub up_to_end : List ℤ → Mark
up_to_end s = head s then times (count s 1) (factor s (count s 0))

pub up-to-end : {s : List ℤ} → Headed s → Each s (count s 0) (count s 1) 2 → up_to_end s ≡ on (start s (count s 1))
up-to-end {s} d r =
    then-goes (times (count s 1) (factor s (count s 0))) (head-next d) (factors-next s (count s 0) (count s 1) 2 r)

pub accepted-reading : (s : List ℤ) → (reading s).number ≡ 0 → Accepted s
unfolding reading
accepted-reading s h =
    let b = then-both (up_to_end s) (closed s) h in
    let a = then-both (head s) (times (count s 1) (factor s (count s 0))) b.0 in
    let d = headed s a.0 in
    let q = then_next 2 (times (count s 1) (factor s (count s 0))) (head-next d) a.1 in
    let r = factors-read s (count s 0) (count s 1) 2 q in
    let i = times-inside (count s 1) (factor-inside s (count s 0)) 2 (add-one-le d.count.there) in
    record {
      head = d;
      each = r;
      end = closed-end s (start s (count s 1)) (rw (factors-next s (count s 0) (count s 1) 2 r) at i).inside
          (then_next (start s (count s 1)) (closed s) (up-to-end d r) b.1);
    }

-- and the reader goes to its end
pub reading-accepted : {s : List ℤ} → Accepted s → reading s ≡ on (length s)
unfolding reading
reading-accepted {s} a =
    then-goes (closed s) (up-to-end a.head a.each)
    (subst (λ (j : ℕ). closed s j ≡ on (length s)) (sym a.end) (closed_on s))

-- ---- what the calls that check sheets answer
read-fine : (side : ℕ) (m : Mark) → (read_answer side m).number ≡ 0 → m.number ≡ 0
read-fine side m h = split (ℕ_discrete m.number 0)
  where
    split : Dec (m.number ≡ 0) → m.number ≡ 0
    split (yes e) = e
    split (no n) = rw (ne_eqb m.number 0 n) at h

-- a sheet that the check accepts
pub accepted-read : (s : List ℤ) → (checked s).number ≡ 0 → Accepted s
accepted-read s h = accepted-reading s (read-fine 0 (reading s) h)

-- an accepted sheet is answered 0
pub checked-accepted : {s : List ℤ} → Accepted s → checked s ≡ accepted
checked-accepted {s} a = rw (reading-accepted a)

-- two answers in turn, both without refusal
pub both-fine : (a b : Answer) → (a or_else b).number ≡ 0 → (a.number ≡ 0) × (b.number ≡ 0)
unfolding ◌or_else◌
both-fine a b h = split (ℕ_discrete a.number 0)
  where
    split : Dec (a.number ≡ 0) → (a.number ≡ 0) × (b.number ≡ 0)
    split (yes e) = (e, rw (eq-eqb a.number 0 e) at h)
    split (no n) = absurd (n (rw (ne_eqb a.number 0 n) at h))

-- two sheets that the check of a pair accepts
pub pair_read :
    (c r : List ℤ) → (pair_checked c r).number ≡ 0 → Accepted c × Accepted r × ((matching c r).number ≡ 0)
unfolding pair_checked
pair_read c r h =
    let a = both-fine (read_answer 0 (reading c)) (read_answer 1 (reading r) or_else matching c r) h in
    let b = both-fine (read_answer 1 (reading r)) (matching c r) a.1 in
    (accepted-reading c (read-fine 0 (reading c) a.0), accepted-reading r (read-fine 1 (reading r) b.0), b.1)

-- the same without 12, as a two-pass run asks
pub two-read : (c r : List ℤ) → (read_answer 0 (reading c) or_else read_answer 1 (reading r)).number ≡ 0 → Accepted c × Accepted r
two-read c r h =
    let a = both-fine (read_answer 0 (reading c)) (read_answer 1 (reading r)) h in
    (accepted-reading c (read-fine 0 (reading c) a.0), accepted-reading r (read-fine 1 (reading r) a.1))

pub two-accepted : {c r : List ℤ} → Accepted c → Accepted r → read_answer 0 (reading c) or_else read_answer 1 (reading r) ≡ accepted
unfolding ◌or_else◌
two-accepted a b = rw (reading-accepted a, reading-accepted b)

pub pair-accepted :
    {c r : List ℤ} → Accepted c → Accepted r → matching c r ≡ accepted → pair_checked c r ≡ accepted
unfolding pair_checked ◌or_else◌
pair-accepted a b h = rw (reading-accepted a, reading-accepted b) h

-- as a function that asks in turn answers: r is what a reading found, a what is answered
pub answer-stops :
    (side : ℕ) {r m : Mark} {a : Answer} (b : Answer) → r ≡ m → (r.number ≡ 0 → ⊥) → a ≡ read_answer side r →
    a ≡ read_answer side m or_else b
unfolding ◌or_else◌
answer-stops side {r} {m} {a} b e h f =
    subst (λ (x : Mark). a ≡ read_answer side x or_else b) e
    (rw (ne_eqb r.number 0 h, ne_eqb r.number 0 h) (rw (ne_eqb r.number 0 h) at f))

pub answer-goes :
    (side : ℕ) {r m : Mark} {a : Answer} (b : Answer) → r ≡ m → r.number ≡ 0 → a ≡ b →
    a ≡ read_answer side m or_else b
unfolding ◌or_else◌
answer-goes side {r} {m} {a} b e h f =
    subst (λ (x : Mark). a ≡ read_answer side x or_else b) e (rw (eq-eqb r.number 0 h) f)
