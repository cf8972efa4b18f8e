-- Factors of an accepted sheet that stand in a row make an accepted sheet of their own; so a sheet is cut in two. Past its
-- numbers a factor's functions read what follows, so the cut factors are the same only where a factor is looked at
-- (`SameFactor`). Assumes nothing.
use Rattle.std.specs.Prelude.{true, ◌≢◌, ◌≡◌, ℤ, pos, length, take, drop}
use mathlib.Core.List.{List, [], ◌∷◌, ◌++◌}
use Rattle.std.proofs.Math.Path.{refl, ap, subst}
use Rattle.std.proofs.Common.{sym, ◌∙◌, le-leb, length-drop, get_or-take, get_or-drop, length-take-le}
use Prim.Native.Nat.{ℕ, zero, suc, ◌+◌, ◌-◌, ◌≤◌, ◌<◌}
use native.Mathlib.Omega.{arith}
use Rattle.std.proofs.Math.IntN.{nat_abs}
use Rattle.rules.specs.declared.Item.{Item}
use Rattle.rules.specs.declared.Item.TheVariants.{Order, Count, KindNumber, Row, Sign, Entry}
use Rattle.rules.specs.declared.Kind.{Kind}
use Rattle.rules.specs.declared.Kind.TheVariants.{Permutation, Lower, Upper, Single}
use Rattle.rules.specs.Numbers.{most_count, at, count}
use Rattle.rules.specs.Sheets.{between, unless, fault_of, kind_of}
use Rattle.rules.specs.Factors.{Factor, numbers, signs_at, entries_before, factor_at, factors_from, factors, has_entry}
use Rattle.rules.specs.Answers.{accepted, further, start, matching}
use Rattle.laws.specs.Stated.Cuts.{cut, cut_front, cut_back}
use Rattle.laws.specs.Readers.{Seen, one-fine}
use Rattle.laws.specs.Accepted.{Stretch, stretch-of, Weights, entries_of, BodyRead, FactorRead, further-first, further-add}
use Rattle.laws.specs.Accepted.{further-least, Each, each-rest, each_more, Headed, Accepted, accepted-order, accepted-count}
use Rattle.laws.specs.Prefix.{Moved, plain, place, Alike, fault-alike}
use Rattle.laws.specs.Sound.{entry-inside, entry-kind, factors-length, factors-split, counts-agree, kinds-agree}
use Rattle.laws.specs.Sound.{matching-of}

-- ---- factors that are the same wherever a factor of order n is looked at
pub record SameFactor (n : ℕ) (f g : Factor) : Type 0 where
  pub kind : f.kind ≡ g.kind
  pub row : f.row ≡ g.row
  pub places : f.kind ≡ Permutation → (m : ℕ) → m < n → f.place m ≡ g.place m
  pub signs : f.kind ≢ Permutation → (m : ℕ) → m < n → f.sign m ≡ g.sign m
  pub entries :
      (m k : ℕ) → m < n → k < n → m ≢ k → has_entry f.kind f.row m k ≡ true → f.entry m k ≡ g.entry m k

pub data AllSame (n : ℕ) : List Factor → List Factor → Type 0 where
  none : AllSame n [] []
  more :
      {f g : Factor} {fs gs : List Factor} → SameFactor n f g → AllSame n fs gs → AllSame n (f ∷ fs) (g ∷ gs)

pub same-append :
    {n : ℕ} {fs gs hs ks : List Factor} → AllSame n fs gs → AllSame n hs ks → AllSame n (fs ++ hs) (gs ++ ks)
same-append none b = b
same-append (more x a) b = more x (same-append a b)

-- ---- where the numbers of a factor stand
signs-place : (kind : Kind) (i : ℕ) → signs_at kind i ≡ i + signs_at kind 0
unfolding signs_at
signs-place Permutation i = refl
signs-place Lower i = refl
signs-place Upper i = refl
signs-place Single i = refl

signs-room :
    (kind : Kind) (n i : ℕ) → kind ≢ Permutation → signs_at kind i + (n + entries_of n kind) ≡ i + numbers n kind
unfolding signs_at entries_of numbers
signs-room Permutation n i h = absurd (h refl)
signs-room Lower n i h = omega arith
signs-room Upper n i h = omega arith
signs-room Single n i h = omega arith

numbers-least : (kind : Kind) (n : ℕ) → 1 ≤ n → 2 ≤ numbers n kind
unfolding numbers
numbers-least Permutation n h = omega arith
numbers-least Lower n h = omega arith
numbers-least Upper n h = omega arith
numbers-least Single n h = omega arith

-- ---- what is known of the numbers of s is known of those of t that are alike
module _ {t s : List ℤ} {a b e : ℕ} (alike : Alike t s a b e) (room : (j i : ℕ) → i < e → j + b ≡ i + a → j < length t) where
  seen_alike :
      {w v : Item} → Moved a b w v → (j i : ℕ) → b ≤ i → i < e → j + b ≡ i + a → Seen s v i → Seen t w j
  seen_alike {w} {v} c j i l h k o = one-fine t w j (room j i h k) (fault-alike alike c j i l h k ∙ o.fine)

  run-alike :
      {w v : Item} → Moved a b w v → (m j i : ℕ) → b ≤ i → i + m ≤ e → j + b ≡ i + a → Stretch s v m i → Stretch t w m j
  run-alike {w} {v} c m j i l h k o =
      stretch-of t w m j (λ x y. seen_alike c (j + x) (i + x) (omega arith) (omega arith) (omega arith) (o.each x y))

  weights-alike :
      (n m j i : ℕ) → b ≤ i → i + (n + m) ≤ e → j + b ≡ i + a → Weights s n m i → Weights t n m j
  weights-alike n m j i l h k o = record {
    signs = run-alike (plain {what = Sign} tt) n j i l (omega arith) k o.signs;
    entries = run-alike (plain {what = Entry} tt) m (j + n) (i + n) (omega arith) (omega arith) (omega arith) o.entries;
  }

  body_alike :
      (kind : Kind) (n j i : ℕ) → 1 ≤ n → b ≤ i → i + numbers n kind ≤ e → j + b ≡ i + a →
      BodyRead s n kind i → BodyRead t n kind j
  unfolding numbers
  body_alike kind n j i p l h k o = record {
    places = λ q.
        let h' = subst (λ (x : Kind). i + numbers n x ≤ e) q h in
        run-alike (place (omega arith) (omega arith)) n (j + 1) (i + 1)
        (omega arith) (omega arith) (omega arith) (o.places q);
    row = λ q.
        let x = numbers-least kind n p in
        seen_alike (plain {what = Row n} tt) (j + 1) (i + 1) (omega arith) (omega arith) (omega arith) (o.row q);
    weights = λ q.
        let x = signs-place kind i in
        let y = signs-place kind j in
        weights-alike n (entries_of n kind) (signs_at kind j) (signs_at kind i) (omega arith)
        (omega (arith, signs-room kind n i q)) (omega arith) (o.weights q);
  }

  factor-alike :
      (n j i : ℕ) → 1 ≤ n → b ≤ i → i + numbers n (kind_of (count s i)) ≤ e → j + b ≡ i + a →
      FactorRead s n i → FactorRead t n j
  factor-alike n j i p l h k o =
      let x = numbers-least (kind_of (count s i)) n p in
      let q : at t j ≡ at s i = alike.same j i l (omega arith) k in
      record {
        kind = seen_alike (plain {what = KindNumber} tt) j i l (omega arith) k o.kind;
        body = rw q (body_alike (kind_of (count s i)) n j i p l h k o.body);
      }

  same_sign :
      (kind : Kind) (n j i m : ℕ) → kind ≢ Permutation → b ≤ i → i + numbers n kind ≤ e → j + b ≡ i + a → m < n →
      at s (signs_at kind i + m) ≡ at t (signs_at kind j + m)
  same_sign kind n j i m q l h k r =
      let x = signs-place kind i in
      let y = signs-place kind j in
      let z = signs-room kind n i q in
      sym (alike.same (signs_at kind j + m) (signs_at kind i + m) (omega arith) (omega arith) (omega arith))

  same-entry :
      (kind : Kind) (n j i r m c : ℕ) → b ≤ i → i + numbers n kind ≤ e → j + b ≡ i + a →
      m < n → c < n → m ≢ c → has_entry kind r m c ≡ true →
      at s (signs_at kind i + n + entries_before kind n r m c) ≡ at t (signs_at kind j + n + entries_before kind n r m c)
  same-entry kind n j i r m c l h k u v d g =
      let x = signs-place kind i in
      let y = signs-place kind j in
      let z = signs-room kind n i (entry-kind kind r m c g) in
      let w = entry-inside kind n r m c u v d g in
      sym (alike.same _ _ (omega arith) (omega arith) (omega arith))

  same-factor :
      (n j i : ℕ) → 1 ≤ n → b ≤ i → i + numbers n (kind_of (count s i)) ≤ e → j + b ≡ i + a →
      SameFactor n (factor_at s n i) (factor_at t n j)
  unfolding factor_at numbers
  same-factor n j i p l h k =
      let x = numbers-least (kind_of (count s i)) n p in
      let q : at t j ≡ at s i = alike.same j i l (omega arith) k in
      let r : at t (j + 1) ≡ at s (i + 1) = alike.same (j + 1) (i + 1) (omega arith) (omega arith) (omega arith) in
      record {
        kind = rw q;
        row = rw r;
        places = λ y m u.
            let h' = subst (λ (z : Kind). i + numbers n z ≤ e) y h in
            rw (alike.same (j + 1 + m) (i + 1 + m) (omega arith) (omega arith) (omega arith));
        signs = λ y m u. rw q (same_sign (kind_of (count s i)) n j i m y l h k u);
        entries = λ m c u v d g.
            rw (q, r) (same-entry (kind_of (count s i)) n j i (count s (i + 1)) m c l h k u v d g);
      }

  -- m factors of s from place i on, and where they stand in t
  pub record FactorsCarried (n m j i : ℕ) : Type 0 where
    pub each : Each t n m j
    pub end : further t n j m + b ≡ further s n i m + a
    pub same : AllSame n (factors_from s n m i) (factors_from t n m j)

  carried :
      (n m j i : ℕ) → 1 ≤ n → b ≤ i → further s n i m ≤ e → j + b ≡ i + a → Each s n m i → FactorsCarried n m j i
  unfolding further factors_from
  carried n zero j i p l h k g = record { each = λ f x. absurd (omega arith); end = k; same = AllSame.none }
  carried n (suc m) j i p l h k g =
      let i' = i + numbers n (kind_of (count s i)) in
      let j' = j + numbers n (kind_of (count t j)) in
      let h' : further s n i' m ≤ e = subst (λ (x : ℕ). x ≤ e) (further-first s n i m) h in
      let x = further-least s n i' m in
      let w = numbers-least (kind_of (count s i)) n p in
      let q : at t j ≡ at s i = alike.same j i l (omega arith) k in
      let k' : j' + b ≡ i' + a = rw q (omega arith) in
      let r = carried n m j' i' p (omega arith) h' k' (each-rest s n m i g) in
      record {
        each = each_more t n m j (factor-alike n j i p l (omega arith) k (g 0 (omega arith))) r.each;
        end = rw (further-first s n i m, further-first t n j m) r.end;
        same = AllSame.more (same-factor n j i p l (omega arith) k) r.same;
      }

-- ---- the cut sheet
-- two numbers, then those of l from place p to place q
two-alike : (x y : ℤ) (l : List ℤ) (p q : ℕ) → Alike (x ∷ y ∷ take (q - p) (drop p l)) l 2 p q
two-alike x y l p q = record {
  same = λ j i a h e.
      let u : j ≡ suc (suc (j - 2)) = omega arith in
      let v : p + (j - 2) ≡ i = omega arith in
      rw u (get_or-take (q - p) (drop p l) (j - 2) (pos 0) (omega arith) ∙ get_or-drop p l (j - 2) (pos 0) ∙ ap (at l) v);
}

two-length : (x y : ℤ) (l : List ℤ) (p q : ℕ) → p ≤ q → q ≤ length l → length (x ∷ y ∷ take (q - p) (drop p l)) + p ≡ 2 + q
two-length x y l p q a b =
    let e = length-take-le (q - p) (drop p l) (rw length-drop (omega arith)) in
    omega arith

-- a count that is smaller than a good one, and not 0, is good
count-fine : (k m : ℕ) → 0 < k → k ≤ m → m ≤ most_count → unless (between (pos 1) (pos most_count) (pos k)) 3 ≡ 0
count-fine k m l h b = rw (le-leb 1 k (omega arith), le-leb k most_count (omega arith))

module _ {s : List ℤ} (whole : Accepted s) (f k : ℕ) (some : 0 < k) (inside : f + k ≤ count s 1) where
  abbrev n : ℕ
  n = count s 0

  abbrev from : ℕ
  from = start s f

  abbrev to : ℕ
  to = start s (f + k)

  to_is : to ≡ further s n from k
  to_is = further-add s n 2 f k

  from-to : (2 ≤ from) × (from ≤ to)
  from-to =
      let x = further-least s n 2 f in
      let y = further-least s n from k in
      let z = to_is in (x, omega arith)

  -- the factors that are cut out end where others follow, or where the sheet ends
  to_inside : to ≤ length s
  to_inside =
      let r = count s 1 - (f + k) in
      let e : f + k + r ≡ count s 1 = omega arith in
      let y : start s (f + k + r) ≡ length s = rw e whole.end in
      let z = further-add s n 2 (f + k) r in
      let x = further-least s n to r in omega arith

  cut-length : length (cut s f k) + from ≡ 2 + to
  unfolding cut
  cut-length = two-length (at s 0) (pos k) s from to from-to.1 to_inside

  cut-alike : Alike (cut s f k) s 2 from to
  unfolding cut
  cut-alike = two-alike (at s 0) (pos k) s from to

  cut-room : (j i : ℕ) → i < to → j + from ≡ i + 2 → j < length (cut s f k)
  cut-room j i h e = let x = cut-length in omega arith

  cut-each : Each s n k from
  cut-each g l =
      subst (λ (j : ℕ). FactorRead s n j) (further-add s n 2 f g) (whole.each (f + g) (omega arith))

  cut-carried : FactorsCarried cut-alike cut-room n k 2 from
  cut-carried =
      let x = to_is in
      carried cut-alike cut-room n k 2 from (accepted-order whole).least (omega arith) (omega arith) (omega arith) cut-each

  cut-headed : Headed (cut s f k)
  unfolding cut fault_of
  cut-headed =
      let l = cut-length in
      let d = from-to.1 in
      record {
        order = one-fine (cut s f k) Order 0 (omega arith) whole.head.order.fine;
        count = one-fine (cut s f k) Count 1 (omega arith)
            (count-fine k (count s 1) some (omega arith) (accepted-count whole).most);
      }

  pub cut-accepted : Accepted (cut s f k)
  unfolding cut
  cut-accepted =
      let x = to_is in
      let l = cut-length in
      let e = cut-carried.end in
      record { head = cut-headed; each = cut-carried.each; end = omega arith }

  pub cut-count : at (cut s f k) 1 ≡ pos k
  unfolding cut
  cut-count = refl

  pub cut-factors-count : length (factors (cut s f k)) ≡ k
  unfolding cut factors
  cut-factors-count = factors-length (cut s f k) n k 2

  pub cut-same : AllSame n (factors_from s n k from) (factors (cut s f k))
  unfolding cut factors
  cut-same = cut-carried.same

  -- factor g of the cut sheet has the kind of factor f + g
  pub cut-kind : (g : ℕ) → g < k → count (cut s f k) (start (cut s f k) g) ≡ count s (start s (f + g))
  unfolding further cut
  cut-kind g l =
      let x = to_is in
      let p = (accepted-order whole).least in
      let e : suc g + (k - suc g) ≡ k = omega arith in
      let y = further-least s n (further s n from (suc g)) (k - suc g) in
      let z = ap (further s n from) (sym e) ∙ further-add s n from (suc g) (k - suc g) in
      let w = numbers-least (kind_of (count s (further s n from g))) n p in
      let u = further-least s n from g in
      let v =
      carried cut-alike cut-room n g 2 from p (omega arith) (omega arith) (omega arith) (λ h m. cut-each h (omega arith)) in
      ap nat_abs (cut-alike.same _ _ u (omega arith) v.end) ∙ ap (count s) (sym (further-add s n 2 f g))

-- sheets that match, cut at the same factors, match
pub cut-match :
    {c r : List ℤ} → Accepted c → Accepted r → (matching c r).number ≡ 0 → (f k : ℕ) → 0 < k → f + k ≤ count c 1 →
    matching (cut c f k) (cut r f k) ≡ accepted
cut-match {c} {r} a b h f k l i =
    let e = counts-agree c r h in
    let p = ap nat_abs (cut-count a f k l i) in
    let q = ap nat_abs (cut-count b f k l (omega arith)) in
    matching-of (cut c f k) (cut r f k) (q ∙ sym p)
    (λ g m.
    cut-kind a f k l i g (omega arith) ∙ kinds-agree c r h (f + g) (omega arith)
    ∙ sym (cut-kind b f k l (omega arith) g (omega arith)))

-- ---- a sheet cut in two after f factors
module _ {s : List ℤ} (whole : Accepted s) (f : ℕ) (some : 0 < f) (not-all : f < count s 1) where
  pub front-accepted : Accepted (cut_front s f)
  front-accepted = cut-accepted whole 0 f some (omega arith)

  pub back-accepted : Accepted (cut_back s f)
  back-accepted = cut-accepted whole f (count s 1 - f) (omega arith) (omega arith)

  pub cut-factors : AllSame (count s 0) (factors s) (factors (cut_front s f) ++ factors (cut_back s f))
  unfolding factors further
  cut-factors =
      let e : f + (count s 1 - f) ≡ count s 1 = omega arith in
      subst (λ (l : List Factor). AllSame (count s 0) l (factors (cut_front s f) ++ factors (cut_back s f)))
      (sym (factors-split s (count s 0) f (count s 1 - f) 2) ∙ ap (λ (x : ℕ). factors_from s (count s 0) x 2) e)
      (same-append (cut-same whole 0 f some (omega arith)) (cut-same whole f (count s 1 - f) (omega arith) (omega arith)))
