-- The factors of an accepted sheet are sound, as the laws over a list of stages ask; those of two accepted sheets that
-- match are sound and kind for kind the same.
-- Assumes nothing.
use Rattle.std.specs.Prelude.{Bool, true, false, cond, List, ◌∷◌, ◌++◌, ◌≢◌, ◌≡◌, refl, ℕ, zero, suc, ◌+◌, ◌-◌, ◌≤◌, ◌<◌, min, ltb, ℤ, length, get_or}
use Rattle.std.proofs.Common.{sym, ap, ◌∙◌, subst, arith, eqb-true, eq-eqb, ne_eqb, ltb-true, ltb-false}
use Rattle.std.proofs.Math.Decide.{ℕ_discrete}
use Rattle.std.proofs.lemmas.Bool.{not-false}
use Rattle.rules.specs.declared.Item.TheVariants.{Place, Sign, Entry}
use Rattle.rules.specs.declared.Kind.{Kind}
use Rattle.rules.specs.declared.Kind.TheVariants.{Permutation, Lower, Upper, Single}
use Rattle.rules.specs.Numbers.{at, count}
use Rattle.rules.specs.Sheets.{kind_of, triangle}
use Rattle.rules.specs.Factors.{Factor, numbers, signs_at, above, entries_before, factor_at, factors_from, factors, has_entry}
use Rattle.rules.specs.Answers.{accepted, further, start, differ, clash, matching}
use Rattle.rules.specs.GoodStages.{Permutes}
use Rattle.rules.proofs.Laws.SoundFactors.{Sound, AllSound, AllMatch}
use Rattle.laws.specs.Tests.{apart, natural-eq, triangle-more}
use Rattle.laws.specs.Readers.{Seen}
use Rattle.laws.specs.First.{first-before, first-none}
use Rattle.laws.specs.Accepted.{never, Stretch, sign-is, entry-is, place_is, place-new, entries_of, FactorRead}
use Rattle.laws.specs.Accepted.{further-first, Each, each-rest, Accepted}
use Rattle.rules.proofs.Laws.Pigeon.{apart-permutes}

-- ---- each entry that a kind has stands among its entries
-- the rows of an upper factor above row m, and those from row m on
above-rest : (n m : ℕ) → m ≤ n → above n m + triangle (n - m) ≡ triangle n
unfolding above triangle
above-rest n zero h = let e : n - 0 ≡ n = omega arith in rw e (omega arith)
above-rest n (suc m) h =
    let e : n - m ≡ suc (n - suc m) = omega arith in
    let a = rw e at (above-rest n m (omega arith)) in omega arith

lower-inside : (n m k : ℕ) → m < n → k < m → triangle m + k < triangle n
unfolding triangle
lower-inside n m k p l =
    let e : suc m + (n - suc m) ≡ n = omega arith in
    let a = rw e at (triangle-more (suc m) (n - suc m)) in omega arith

upper-inside : (n m k : ℕ) → m < k → k < n → above n m + (k - suc m) < triangle n
unfolding above
upper-inside n m k l q = omega (arith, above-rest n (suc m) (omega arith))

single-inside : (n r k : ℕ) (b : Bool) → ltb k r ≡ b → r < n → k < n → r ≢ k → cond b k (k - 1) < n - 1
single-inside n r k true e p q d = omega (arith, ltb-true k r e)
single-inside n r k false e p q d = split (ℕ_discrete r k)
  where
    split : Dec (r ≡ k) → k - 1 < n - 1
    split (yes x) = absurd (d x)
    split (no x) = omega (arith, ltb-false k r e)

pub entry-inside :
    (kind : Kind) (n r m k : ℕ) → m < n → k < n → m ≢ k → has_entry kind r m k ≡ true →
    entries_before kind n r m k < entries_of n kind
unfolding has_entry entries_before entries_of
entry-inside Permutation n r m k p q d h = apart (sym h)
entry-inside Lower n r m k p q d h = lower-inside n m k p (ltb-true k m h)
entry-inside Upper n r m k p q d h = upper-inside n m k (ltb-true m k h) q
entry-inside Single n r m k p q d h =
    let e = eqb-true m r h in
    single-inside n r k (ltb k r) refl (omega arith) q (λ x. d (e ∙ x))

-- ---- one factor
-- a kind that has an entry has signs and entries
pub entry-kind : (kind : Kind) (r m k : ℕ) → has_entry kind r m k ≡ true → kind ≢ Permutation
unfolding has_entry
entry-kind Permutation r m k h e = apart (sym h)
entry-kind Lower r m k h e = never (cc)
entry-kind Upper r m k h e = never (cc)
entry-kind Single r m k h e = never (cc)

pub places-permute : {s : List ℤ} {n i : ℕ} → Stretch s (Place n i) n i → Permutes n (λ m. count s (i + m))
places-permute {s} {n} {i} h =
    apart-permutes n (λ m. count s (i + m)) (λ m l. (place_is (h.each m l)).1)
    (λ a b l k e.
    let x = h.each b k in
    place-new a b x l
    (natural-eq (at s (i + a)) (at s (i + b)) (place_is (h.each a (omega arith))).0 (place_is x).0 e))

-- where its places, signs and entries stand, and that they are there
module _ {s : List ℤ} {n i : ℕ} (f : FactorRead s n i) where
  abbrev kind : Kind
  kind = kind_of (count s i)

  pub sign-seen : kind ≢ Permutation → (m : ℕ) → m < n → Seen s Sign (signs_at kind i + m)
  sign-seen e m l = (f.body.weights e).signs.each m l

  pub entry_seen :
      (m k : ℕ) → m < n → k < n → m ≢ k → has_entry kind (count s (i + 1)) m k ≡ true →
      Seen s Entry (signs_at kind i + n + entries_before kind n (count s (i + 1)) m k)
  entry_seen m k p q d h =
      let r = count s (i + 1) in
      (f.body.weights (entry-kind kind r m k h)).entries.each _ (entry-inside kind n r m k p q d h)

  pub factor-sound : Sound n (factor_at s n i)
  unfolding factor_at
  factor-sound = record {
    places = λ e. places-permute (f.body.places e);
    signs = λ e m l. sign-is (sign-seen e m l);
    entries = λ m k p q d h. entry-is (entry_seen m k p q d h);
  }

-- ---- the factors of a sheet
pub factors-sound : (s : List ℤ) (n m i : ℕ) → Each s n m i → AllSound n (factors_from s n m i)
unfolding factors_from further
factors-sound s n zero i h = AllSound.none
factors-sound s n (suc m) i h =
    AllSound.more (factor-sound (h 0 (omega arith)))
    (factors-sound s n m (i + numbers n (kind_of (count s i))) (each-rest s n m i h))

pub sheet-sound : {s : List ℤ} → Accepted s → AllSound (count s 0) (factors s)
unfolding factors
sheet-sound {s} a = factors-sound s (count s 0) (count s 1) 2 a.each

-- they are listed where `further` says that they stand
pub factors-length : (s : List ℤ) (n m i : ℕ) → length (factors_from s n m i) ≡ m
unfolding factors_from
factors-length s n zero i = refl
factors-length s n (suc m) i = ap suc (factors-length s n m (i + numbers n (kind_of (count s i))))

pub factors-at :
    (s : List ℤ) (n m i f : ℕ) (other : Factor) → f < m →
    get_or (factors_from s n m i) f other ≡ factor_at s n (further s n i f)
unfolding factors_from further
factors-at s n zero i f other l = absurd (omega arith)
factors-at s n (suc m) i zero other l = refl
factors-at s n (suc m) i (suc f) other l =
    factors-at s n m (i + numbers n (kind_of (count s i))) f other (omega arith)
    ∙ ap (factor_at s n) (sym (further-first s n i f))

pub factors-split :
    (s : List ℤ) (n a b i : ℕ) →
    factors_from s n (a + b) i ≡ factors_from s n a i ++ factors_from s n b (further s n i a)
unfolding factors_from further
factors-split s n zero b i = let e : 0 + b ≡ b = omega arith in rw e
factors-split s n (suc a) b i =
    let e : suc a + b ≡ suc (a + b) = omega arith in
    rw e
    (ap (λ (l : List Factor). factor_at s n i ∷ l)
    (factors-split s n a b (i + numbers n (kind_of (count s i)))
    ∙ ap (λ (j : ℕ). factors_from s n a (i + numbers n (kind_of (count s i))) ++ factors_from s n b j)
    (sym (further-first s n i a))))

-- ---- two sheets
all-match :
    (c r : List ℤ) (n p m i j : ℕ) → Each c n m i → Each r p m j →
    ((f : ℕ) → f < m → count c (further c n i f) ≡ count r (further r p j f)) →
    AllMatch n p (factors_from c n m i) (factors_from r p m j)
unfolding factors_from further factor_at
all-match c r n p zero i j g h e = AllMatch.none
all-match c r n p (suc m) i j g h e =
    AllMatch.more (factor-sound (g 0 (omega arith))) (factor-sound (h 0 (omega arith))) (ap kind_of (e 0 (omega arith)))
    (all-match c r n p m (i + numbers n (kind_of (count c i))) (j + numbers p (kind_of (count r j)))
    (each-rest c n m i g) (each-rest r p m j h)
    (λ f l.
    ap (count c) (sym (further-first c n i f)) ∙ e (suc f) (omega arith) ∙ ap (count r) (further-first r p j f)))

-- sheets that match have one count, and no kinds that differ
matching-is :
    (c r : List ℤ) → (matching c r).number ≡ 0 → (clash c r ≡ count c 1) × (clash c r ≡ count r 1)
unfolding matching
matching-is c r h = split (ℕ_discrete (clash c r) (count c 1)) (ℕ_discrete (clash c r) (count r 1))
  where
    split :
        Dec (clash c r ≡ count c 1) → Dec (clash c r ≡ count r 1) → (clash c r ≡ count c 1) × (clash c r ≡ count r 1)
    split (yes a) (yes b) = (a, b)
    split (yes a) (no b) =
        let y : ◌≡◌ {A = ℕ} 12 0 = rw (eq-eqb (clash c r) (count c 1) a, ne_eqb (clash c r) (count r 1) b) at h in
        absurd (omega arith)
    split (no a) b = let y : ◌≡◌ {A = ℕ} 12 0 = rw (ne_eqb (clash c r) (count c 1) a) at h in absurd (omega arith)

pub counts-agree : (c r : List ℤ) → (matching c r).number ≡ 0 → count r 1 ≡ count c 1
counts-agree c r h = let m = matching-is c r h in sym m.1 ∙ m.0

pub kinds-agree :
    (c r : List ℤ) → (matching c r).number ≡ 0 → (f : ℕ) → f < count c 1 → count c (start c f) ≡ count r (start r f)
kinds-agree c r h f l =
    let m = matching-is c r h in
    eqb-true (count c (start c f)) (count r (start r f))
    (not-false _ (first-before (differ c r) (min (count c 1) (count r 1)) f (omega arith)))

pub matching-of :
    (c r : List ℤ) → count r 1 ≡ count c 1 →
    ((f : ℕ) → f < count c 1 → count c (start c f) ≡ count r (start r f)) → matching c r ≡ accepted
unfolding matching
matching-of c r e h =
    let k = first-none (differ c r) (min (count c 1) (count r 1)) (λ f l. rw (eq-eqb _ _ (h f (omega arith)))) in
    rw (eq-eqb (clash c r) (count c 1) (omega arith), eq-eqb (clash c r) (count r 1) (omega arith))

pub sheets-match :
    {c r : List ℤ} → Accepted c → Accepted r → (matching c r).number ≡ 0 →
    AllMatch (count c 0) (count r 0) (factors c) (factors r)
unfolding factors
sheets-match {c} {r} a b h =
    let e = counts-agree c r h in
    let g = subst (λ (x : ℕ). Each r (count r 0) x 2) e b.each in
    subst
    (λ (x : ℕ). AllMatch (count c 0) (count r 0) (factors_from c (count c 0) (count c 1) 2) (factors_from r (count r 0) x 2))
    (sym e)
    (all-match c r (count c 0) (count r 0) (count c 1) 2 2 a.each g (kinds-agree c r h))
