-- How long a sheet may be: an accepted one has at most 4386 numbers, so the first 4387 numbers decide about any sheet.
-- Two sheets that are alike from some places on are read alike from there.
-- Assumes nothing.
use Rattle.std.specs.Prelude.{List, ◌≡◌, ℤ, pos, length, take}
use Rattle.std.proofs.Math.Path.{refl, sym}
use Rattle.std.proofs.Common.{ap, ◌∙◌, get_or-take, length-take-le}
use Prim.Native.Nat.{ℕ, zero, suc, ◌+◌, ◌-◌, ◌*◌, ◌≤◌, ◌<◌, min}
use Rattle.std.proofs.Math.Decide.{dec_lt, ℕ_discrete}
use native.Mathlib.Omega.{arith}
use borrow.Author.Tests.{lt-ltb}
use Rattle.std.proofs.Math.Seq.{take-length}
use Rattle.rules.specs.declared.Item.{Item}
use Rattle.rules.specs.declared.Item.TheVariants.{Order, Count, KindNumber, Row, Place, Sign, Entry}
use Rattle.rules.specs.declared.Kind.{Kind}
use Rattle.rules.specs.declared.Kind.TheVariants.{Permutation, Lower, Upper, Single}
use Rattle.rules.specs.Marks.{Mark}
use Rattle.rules.specs.Numbers.{most_order, at, count}
use Rattle.rules.specs.Sheets.{on, ◌then◌, times, among, fault_of, one, kind_of, triangle, weights, body, factor, closed, head}
use Rattle.rules.specs.Sheets.{reading}
use Rattle.rules.specs.Factors.{numbers}
use Rattle.rules.specs.Answers.{read_answer, checked, further, start}
use Rattle.laws.specs.Tests.{triangle-most}
use Rattle.laws.specs.Readers.{then-stop, then-both, then_next, then_same, one_seen}
use Rattle.laws.specs.Accepted.{order-ranged, count-ranged, many_read, factor-next, factor-read, factors-read, Headed}
use Rattle.laws.specs.Accepted.{head-next, headed, up_to_end, up-to-end, Accepted, accepted-order, accepted-count}

-- ---- the longest sheet
-- the length of the longest sheet, and of its longest factor
abbrev pub longest : ℕ
longest = 4386

abbrev pub longest_factor : ℕ
longest_factor = 137

pub numbers-most : (n : ℕ) (kind : Kind) → 1 ≤ n → n ≤ most_order → numbers n kind ≤ longest_factor
unfolding numbers
numbers-most n Permutation l h = omega arith
numbers-most n Lower l h = let t = triangle-most n h in omega arith
numbers-most n Upper l h = let t = triangle-most n h in omega arith
numbers-most n Single l h = omega arith

pub further-most :
    (s : List ℤ) (n i m : ℕ) → 1 ≤ n → n ≤ most_order → further s n i m ≤ i + m * longest_factor
unfolding further
further-most s n i zero l h = omega arith
further-most s n i (suc m) l h =
    let a = further-most s n i m l h in
    let b = numbers-most n (kind_of (count s (further s n i m))) l h in omega arith

pub accepted-length : {s : List ℤ} → Accepted s → length s ≤ longest
accepted-length {s} a =
    let o = accepted-order a in
    let k = (accepted-count a).most in
    let w = further-most s (count s 0) 2 (count s 1) o.least o.most in
    let e = a.end in omega arith

-- ---- two sheets that are alike
-- what an item of one sheet is in the other, where place b of the one is place a of the other
abbrev Plain : Item → Type 0
Plain Order = Unit {0}
Plain Count = Unit {0}
Plain KindNumber = Unit {0}
Plain (Row n) = Unit {0}
Plain (Place n p) = ⊥
Plain Sign = Unit {0}
Plain Entry = Unit {0}

pub data Moved (a b : ℕ) : Item → Item → Type 0 where
  plain : {what : Item} → Plain what → Moved a b what what
  place : {n q p : ℕ} → b ≤ p → q + b ≡ p + a → Moved a b (Place n q) (Place n p)

-- the numbers of s from place b to place e stand in t from place a on
pub record Alike (t s : List ℤ) (a b e : ℕ) : Type 0 where
  pub same : (j i : ℕ) → b ≤ i → i < e → j + b ≡ i + a → at t j ≡ at s i

module _ {t s : List ℤ} {a b e : ℕ} (alike : Alike t s a b e) where
  among-alike :
      (z : ℤ) (q p m : ℕ) → b ≤ p → m ≤ e - p → q + b ≡ p + a → among t z q m ≡ among s z p m
  unfolding among
  among-alike z q p zero l h k = refl
  among-alike z q p (suc m) l h k =
      rw (alike.same q p l (omega arith) k, among-alike z (q + 1) (p + 1) m (omega arith) (omega arith) (omega arith))

  fault-plain : (what : Item) (j i : ℕ) → Plain what → at t j ≡ at s i → fault_of t what j ≡ fault_of s what i
  unfolding fault_of
  fault-plain Order j i f h = rw h
  fault-plain Count j i f h = rw h
  fault-plain KindNumber j i f h = rw h
  fault-plain (Row n) j i f h = rw h
  fault-plain (Place n p) j i f h = absurd f
  fault-plain Sign j i f h = rw h
  fault-plain Entry j i f h = rw h

  pub fault-alike :
      {w v : Item} → Moved a b w v → (j i : ℕ) → b ≤ i → i < e → j + b ≡ i + a → fault_of t w j ≡ fault_of s v i
  unfolding fault_of
  fault-alike {w} (plain f) j i l h k = fault-plain w j i f (alike.same j i l h k)
  fault-alike (place {n} {q} {p} m x) j i l h k =
      let d : j - q ≡ i - p = omega arith in
      rw (alike.same j i l h k, d, among-alike (at s i) q p (i - p) m (omega arith) x)

-- ---- the first numbers of a sheet
-- after a fault in the head nothing more is looked at
stopped : (s : List ℤ) → ((head s).number ≡ 0 → ⊥) → reading s ≡ head s
unfolding reading
stopped s z =
    ap (λ (x : Mark). x then closed s) (then-stop (head s) (times (count s 1) (factor s (count s 0))) z)
    ∙ then-stop (head s) (closed s) z

module _ (s : List ℤ) (L : ℕ) (inside : L ≤ length s) where
  abbrev t : List ℤ
  t = take L s

  at_same : (i : ℕ) → i < L → at t i ≡ at s i
  at_same i h = get_or-take L s i (pos 0) h

  long : length t ≡ L
  long = length-take-le L s inside

  front-alike : Alike t s 0 0 L
  front-alike = record { same = λ j i l h k. let e : j ≡ i = omega arith in rw e (at_same i h) }

  one_same : {what : Item} → Moved 0 0 what what → (i : ℕ) → i < L → one t what i ≡ one s what i
  unfolding one
  one_same v i h =
      rw (long, lt-ltb i L h, lt-ltb i (length s) (omega arith))
      (rw (fault-alike front-alike v i i (omega arith) h (omega arith)))

  many-same :
      {what : Item} → Moved 0 0 what what → (m i : ℕ) → i + m ≤ L → times m (one t what) i ≡ times m (one s what) i
  unfolding times
  many-same v zero i h = refl
  many-same {what} v (suc m) i h =
      then_same _ _ (i + 1) (one_same v i (omega arith)) (λ z. (one_seen s what i z).next)
      (many-same v m (i + 1) (omega arith))

  weights-same : (n m i : ℕ) → i + (n + m) ≤ L → weights t n m i ≡ weights s n m i
  unfolding weights
  weights-same n m i h =
      then_same _ _ (i + n) (many-same (plain {what = Sign} tt) n i (omega arith)) (λ z. (many_read s Sign n i z).next)
      (many-same (plain {what = Entry} tt) m (i + n) (omega arith))

  body_same :
      (n : ℕ) (kind : Kind) (i : ℕ) → i + numbers n kind ≤ L → body t n kind (i + 1) ≡ body s n kind (i + 1)
  unfolding body numbers
  body_same n Permutation i h = many-same (place (omega arith) (omega arith)) n (i + 1) (omega arith)
  body_same n Lower i h = weights-same n (triangle n) (i + 1) (omega arith)
  body_same n Upper i h = weights-same n (triangle n) (i + 1) (omega arith)
  body_same n Single i h =
      then_same _ _ (i + 1 + 1) (one_same (plain {what = Row n} tt) (i + 1) (omega arith))
      (λ z. (one_seen s (Row n) (i + 1) z).next)
      (weights-same n (n - 1) (i + 1 + 1) (omega arith))

  factor-same : (n i : ℕ) → i + numbers n (kind_of (count s i)) ≤ L → i < L → factor t n i ≡ factor s n i
  unfolding factor
  factor-same n i h a =
      then_same _ _ (i + 1) (one_same (plain {what = KindNumber} tt) i a) (λ z. (one_seen s KindNumber i z).next)
      (rw (at_same i a) (body_same n (kind_of (count s i)) i h))

  factors-same :
      (n m i : ℕ) → 1 ≤ n → n ≤ most_order → i + m * longest_factor ≤ L → times m (factor t n) i ≡ times m (factor s n) i
  unfolding times
  factors-same n zero i l k h = refl
  factors-same n (suc m) i l k h =
      let f = numbers-most n (kind_of (count s i)) l k in
      then_same _ _ (i + numbers n (kind_of (count s i)))
      (factor-same n i (omega arith) (omega arith)) (λ z. factor-next (factor-read s n i z))
      (factors-same n m (i + numbers n (kind_of (count s i))) l k (omega arith))

  head-same : 2 ≤ L → head t ≡ head s
  unfolding head
  head-same h =
      then_same _ _ 1 (one_same (plain {what = Order} tt) 0 (omega arith)) (λ z. (one_seen s Order 0 z).next)
      (one_same (plain {what = Count} tt) 1 (omega arith))

  closed_same : (i : ℕ) → i < L → closed t i ≡ closed s i
  unfolding closed
  closed_same i h = rw (long, lt-ltb i L h, lt-ltb i (length s) (omega arith))

  up-to-end-same : Headed s → longest < L → up_to_end t ≡ up_to_end s
  up-to-end-same d h =
      let o = order-ranged d.order in
      let k = (count-ranged d.count).most in
      then_same _ _ 2 (head-same (omega arith)) (λ x. head-next d)
      (rw (at_same 0 (omega arith), at_same 1 (omega arith))
      (factors-same (count s 0) (count s 1) 2 o.least o.most (omega arith)))

  pub reading-same : longest < L → reading t ≡ reading s
  unfolding reading
  reading-same h = split (ℕ_discrete (head s).number 0)
    where
      split : Dec ((head s).number ≡ 0) → reading t ≡ reading s
      split (no z) =
          let e = head-same (omega arith) in
          stopped t (λ y. z (ap (λ (x : Mark). x.number) (sym e) ∙ y)) ∙ e ∙ sym (stopped s z)
      split (yes z) =
          let d = headed s z in
          let o = order-ranged d.order in
          let k = (count-ranged d.count).most in
          let w = further-most s (count s 0) 2 (count s 1) o.least o.most in
          then_same _ _ (start s (count s 1)) (up-to-end-same d h) (λ x. after d x)
          (closed_same (start s (count s 1)) (omega arith))
        where
          after : Headed s → (up_to_end s).number ≡ 0 → up_to_end s ≡ on (start s (count s 1))
          after d x =
              let b = then-both (head s) (times (count s 1) (factor s (count s 0))) x in
              up-to-end d
              (factors-read s (count s 0) (count s 1) 2
              (then_next 2 (times (count s 1) (factor s (count s 0))) (head-next d) b.1))

-- the first 4387 numbers of a sheet, or all, are judged as the sheet
pub checked-front : (s : List ℤ) → checked (take (min (length s) (suc longest)) s) ≡ checked s
checked-front s = ap (read_answer 0) (split (dec_lt (length s) (suc longest)))
  where
    split : Dec (length s < suc longest) → reading (take (min (length s) (suc longest)) s) ≡ reading s
    split (yes h) =
        let e : min (length s) (suc longest) ≡ length s = omega arith in
        rw e (ap reading (take-length s))
    split (no h) =
        let e : min (length s) (suc longest) ≡ suc longest = omega arith in
        rw e (reading-same s (suc longest) (omega arith) (omega arith))
