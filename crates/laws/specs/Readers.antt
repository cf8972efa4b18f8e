-- Laws of the readers: one after another, many in a row, and a number that was read without fault.
-- Assumes nothing.
use Rattle.std.specs.Prelude.{Bool, true, false, cond, List, ◌≡◌, refl, ℕ, zero, suc, ◌+◌, ◌-◌, ◌≤◌, ◌<◌, ltb, eqb, ℤ, length}
use Rattle.std.proofs.Common.{sym, ap, ◌∙◌, subst, le_refl, arith, eq-eqb, ne_eqb, lt-ltb, le-ltb}
use Rattle.std.proofs.Math.Decide.{dec_lt, ℕ_discrete}
use Rattle.rules.specs.declared.Item.{Item}
use Rattle.rules.specs.Marks.{Mark}
use Rattle.rules.specs.Sheets.{on, stop, go, ◌then◌, times, fault_of, judged, one}

-- ---- then
pub then-on : (m : Mark) (r : ℕ → Mark) → m.number ≡ 0 → m then r ≡ r m.place
unfolding go
then-on m r h = rw (eq-eqb m.number 0 h)

pub then-stop : (m : Mark) (r : ℕ → Mark) → (m.number ≡ 0 → ⊥) → m then r ≡ m
unfolding go
then-stop m r h = rw (ne_eqb m.number 0 h)

-- as a function that reads in turn answers: r is what the first reader found, q what the next one did
pub stops : {r m : Mark} (k : ℕ → Mark) → r ≡ m → (r.number ≡ 0 → ⊥) → r ≡ m then k
stops {r} {m} k e h = subst (λ (x : Mark). r ≡ x then k) e (sym (then-stop r k h))

pub goes : {r m q : Mark} (k : ℕ → Mark) → r ≡ m → r.number ≡ 0 → q ≡ k r.place → q ≡ m then k
goes {r} {m} {q} k e h f = f ∙ subst (λ (x : Mark). k r.place ≡ x then k) e (sym (then-on r k h))

-- two readers in turn, both without fault
pub then-both : (m : Mark) (k : ℕ → Mark) → (m then k).number ≡ 0 → (m.number ≡ 0) × ((k m.place).number ≡ 0)
then-both m k h = split (ℕ_discrete m.number 0)
  where
    split : Dec (m.number ≡ 0) → (m.number ≡ 0) × ((k m.place).number ≡ 0)
    split (yes e) = (e, ap (λ (x : Mark). x.number) (sym (then-on m k e)) ∙ h)
    split (no n) = absurd (n (ap (λ (x : Mark). x.number) (sym (then-stop m k n)) ∙ h))

-- the second of two readers was without fault, where the first one went on to place p
pub then_next : {m : Mark} (p : ℕ) (k : ℕ → Mark) → m ≡ on p → (k m.place).number ≡ 0 → (k p).number ≡ 0
then_next p k e h = subst (λ (x : Mark). (k x.place).number ≡ 0) e h

-- two readers in turn that go on to p, and from there to q
pub then-goes : {m : Mark} {p q : ℕ} (k : ℕ → Mark) → m ≡ on p → k p ≡ on q → m then k ≡ on q
then-goes {m} {p} {q} k e f = subst (λ (x : Mark). x then k ≡ on q) (sym e) (then-on (on p) k refl ∙ f)

-- two pairs of readers agree where the first two do, and the second two do at the place p that they leave
pub then_same :
    {m o : Mark} (k j : ℕ → Mark) (p : ℕ) → m ≡ o → (o.number ≡ 0 → o ≡ on p) → k p ≡ j p → m then k ≡ o then j
then_same {m} {o} k j p e n f = ap (λ (x : Mark). x then k) e ∙ split (ℕ_discrete o.number 0)
  where
    split : Dec (o.number ≡ 0) → o then k ≡ o then j
    split (yes z) =
        then-on o k z ∙ subst (λ (x : Mark). k x.place ≡ j x.place) (sym (n z)) f ∙ sym (then-on o j z)
    split (no z) = then-stop o k z ∙ sym (then-stop o j z)

-- ---- a loop of k turns out of m
pub times_none : (m k : ℕ) (r : ℕ → Mark) (i : ℕ) → m ≤ k → times (m - k) r i ≡ on i
unfolding times
times_none m k r i h = let d : m - k ≡ 0 = omega arith in rw d

pub times-on :
    (m k : ℕ) (r : ℕ → Mark) (i : ℕ) → k < m → (r i).number ≡ 0 →
    times (m - k) r i ≡ times (m - (k + 1)) r (r i).place
unfolding times
times-on m k r i h t =
    let d : m - k ≡ suc (m - (k + 1)) = omega arith in
    rw d (then-on (r i) (times (m - (k + 1)) r) t)

pub times-stop : (m k : ℕ) (r : ℕ → Mark) (i : ℕ) → k < m → ((r i).number ≡ 0 → ⊥) → times (m - k) r i ≡ r i
unfolding times
times-stop m k r i h t =
    let d : m - k ≡ suc (m - (k + 1)) = omega arith in
    rw d (then-stop (r i) (times (m - (k + 1)) r) t)

-- the same, where q is what the reader found in this turn
pub on-turn :
    (m k : ℕ) (r : ℕ → Mark) (i : ℕ) {q : Mark} → k < m → q ≡ r i → q.number ≡ 0 →
    times (m - k) r i ≡ times (m - (k + 1)) r q.place
on-turn m k r i {q} h e t =
    times-on m k r i h (ap (λ (x : Mark). x.number) (sym e) ∙ t)
    ∙ ap (λ (x : Mark). times (m - (k + 1)) r x.place) (sym e)

pub stop-turn :
    (m k : ℕ) (r : ℕ → Mark) (i : ℕ) {q : Mark} → k < m → q ≡ r i → (q.number ≡ 0 → ⊥) → times (m - k) r i ≡ q
stop-turn m k r i {q} h e t =
    times-stop m k r i h (λ z. t (ap (λ (x : Mark). x.number) e ∙ z)) ∙ sym e

-- ---- one number
-- what is known of a number that was read with no fault
pub record Seen (s : List ℤ) (what : Item) (i : ℕ) : Type 0 where
  pub there : i < length s
  pub fine : fault_of s what i ≡ 0
  pub next : one s what i ≡ on (i + 1)

pub one-fine : (s : List ℤ) (what : Item) (i : ℕ) → i < length s → fault_of s what i ≡ 0 → Seen s what i
unfolding one
one-fine s what i l f = record { there = l; fine = f; next = rw (lt-ltb i (length s) l, f) }

pub one_seen : (s : List ℤ) (what : Item) (i : ℕ) → (one s what i).number ≡ 0 → Seen s what i
unfolding one
one_seen s what i h = there (dec_lt i (length s)) h
  where
    fine : (f : ℕ) → (judged f i).number ≡ 0 → f ≡ 0
    fine zero h = refl
    fine (suc f) h =
        let b : suc f ≡ 0 = rw (ne_eqb (suc f) 0 (λ e. omega arith)) at h in
        let y : ⊥ = omega arith in absurd y

    there :
        Dec (i < length s) →
        (cond (ltb i (length s)) (judged (fault_of s what i) i) (stop 1 (length s))).number ≡ 0 → Seen s what i
    there (yes l) h = one-fine s what i l (fine (fault_of s what i) (rw (lt-ltb i (length s) l) at h))
    there (no l) h =
        let b : ◌≡◌ {A = ℕ} 1 0 = rw (le-ltb i (length s) (omega arith)) at h in
        let y : ⊥ = omega arith in absurd y

-- the same, where r is what the reader found
pub seen : {s : List ℤ} {what : Item} {i : ℕ} {r : Mark} → r ≡ one s what i → r.number ≡ 0 → Seen s what i
seen {s} {what} {i} {r} e h = one_seen s what i (ap (λ (x : Mark). x.number) (sym e) ∙ h)

-- ---- places stay inside
-- a mark, and a reader that starts inside, do not leave the first l places
pub record Inside (l : ℕ) (m : Mark) : Type 0 where
  pub inside : m.place ≤ l

abbrev pub Stays : ℕ → (ℕ → Mark) → Type 0
Stays l r = (j : ℕ) → j ≤ l → Inside l (r j)

pub then-inside : {l : ℕ} {m : Mark} {k : ℕ → Mark} → Inside l m → Stays l k → Inside l (m then k)
then-inside {l} {m} {k} h f = split (ℕ_discrete m.number 0)
  where
    split : Dec (m.number ≡ 0) → Inside l (m then k)
    split (yes e) = rw (then-on m k e) (f m.place h.inside)
    split (no n) = rw (then-stop m k n) h

pub times-inside : {l : ℕ} (m : ℕ) {r : ℕ → Mark} → Stays l r → Stays l (times m r)
unfolding times
times-inside zero f i h = record { inside = h }
times-inside (suc m) f i h = then-inside (f i h) (times-inside m f)

pub cond-inside : {l : ℕ} (b : Bool) {x y : Mark} → Inside l x → Inside l y → Inside l (cond b x y)
cond-inside true h k = h
cond-inside false h k = k

pub one_inside : (s : List ℤ) (what : Item) → Stays (length s) (one s what)
unfolding one
one_inside s what i h = split (dec_lt i (length s))
  where
    split : Dec (i < length s) → Inside (length s) (one s what i)
    split (yes l) =
        rw (lt-ltb i (length s) l)
        (cond-inside (eqb (fault_of s what i) 0) (record { inside = omega arith }) (record { inside = h }))
    split (no n) = rw (le-ltb i (length s) (omega arith)) (record { inside = le_refl (length s) })
