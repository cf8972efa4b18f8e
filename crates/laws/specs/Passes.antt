-- REQUEST R-4: A TWO-PASS RUN AND A PASS ALONE. Their plans are good, so every promise over a plan is theirs; and their scales.
-- Assumes nothing.
use Rattle.std.specs.Prelude.{List, ◌≡◌, ℕ, ◌+◌, ◌*◌, ◌^◌, ◌≤◌, ℤ, length}
use Rattle.std.proofs.Common.{sym, ap, ap₂, ◌∙◌, pow-add, mul-pos, arith, le-leb}
use Rattle.std.proofs.Math.Decide.{dec_le}
use Rattle.std.proofs.lemmas.Bool.{lt-leb}
use Rattle.rules.specs.declared.Rule.{Rule}
use Rattle.rules.specs.Numbers.{most_order, unit, count}
use Rattle.rules.specs.Factors.{factors}
use Rattle.rules.specs.Stages.{exact_scale}
use Rattle.rules.specs.Shapes.{Lines, columns, rows, pass_stages}
use Rattle.rules.specs.Answers.{accepted, ◌or_else◌, checked}
use Rattle.rules.specs.Calls.{two_pass, order_checked, column_pass, row_pass}
use Rattle.rules.proofs.Laws.Runs.{all_append}
use Rattle.rules.proofs.Laws.Passes.{columns-tile, rows-tile, passes-good, passes-scale, scale-append}
use Rattle.laws.specs.Stated.Calls.{D, GoodPlan, Promises}
use Rattle.laws.specs.Accepted.{Accepted, accepted-order, accepted-read, checked-accepted, both-fine, two-read}
use Rattle.laws.specs.Sound.{sheet-sound, factors-length}
use Rattle.laws.specs.Promises.{promised}

-- ---- "the other order given as a number (refused 2, place 0, after the sheet's own faults)"
pub order-read : (n : ℕ) → (order_checked n).number ≡ 0 → (1 ≤ n) × (n ≤ most_order)
order-read n h = split (dec_le 1 n) (dec_le n most_order)
  where
    split : Dec (1 ≤ n) → Dec (n ≤ most_order) → (1 ≤ n) × (n ≤ most_order)
    split (yes l) (yes m) = (l, m)
    split (yes l) (no m) =
        let z : ◌≡◌ {A = ℕ} 2 0 = rw (le-leb 1 n l, lt-leb n most_order (omega arith)) at h in absurd (omega arith)
    split (no l) m = let z : ◌≡◌ {A = ℕ} 2 0 = rw (lt-leb 1 n (omega arith)) at h in absurd (omega arith)

pub order-accepted : (n : ℕ) → 1 ≤ n → n ≤ most_order → order_checked n ≡ accepted
order-accepted n l m = rw (le-leb 1 n l, le-leb n most_order m)

-- a sheet and the other order
pub alone-read : (s : List ℤ) (n : ℕ) → (checked s or_else order_checked n).number ≡ 0 →
    Accepted s × (1 ≤ n) × (n ≤ most_order)
alone-read s n h =
    let b = both-fine (checked s) (order_checked n) h in
    let o = order-read n b.1 in
    (accepted-read s b.0, o.0, o.1)

pub alone-accepted : {s : List ℤ} → Accepted s → (n : ℕ) → 1 ≤ n → n ≤ most_order → checked s or_else order_checked n ≡ accepted
unfolding ◌or_else◌
alone-accepted a n l m = rw (checked-accepted a) (order-accepted n l m)

-- ---- plans
pub two-pass-plan : (c r : List ℤ) → GoodPlan (two_pass c r)
unfolding two_pass
two-pass-plan c r = record {
  good = λ h.
      let a = two-read c r h in
      all_append (passes-good (columns-tile (count c 0) (count r 0)) (sheet-sound a.0))
      (passes-good (rows-tile (count c 0) (count r 0)) (sheet-sound a.1));
  some = λ h. let a = two-read c r h in mul-pos (accepted-order a.0).least (accepted-order a.1).least;
}

pub column-plan : (c : List ℤ) (n2 : ℕ) → GoodPlan (column_pass c n2)
unfolding column_pass
column-plan c n2 = record {
  good = λ h. passes-good (columns-tile (count c 0) n2) (sheet-sound (alone-read c n2 h).0);
  some = λ h. let a = alone-read c n2 h in mul-pos (accepted-order a.0).least a.1;
}

pub row-plan : (r : List ℤ) (n1 : ℕ) → GoodPlan (row_pass r n1)
unfolding row_pass
row-plan r n1 = record {
  good = λ h. passes-good (rows-tile n1 (count r 0)) (sheet-sound (alone-read r n1 h).0);
  some = λ h. let a = alone-read r n1 h in mul-pos a.1 (accepted-order a.0).least;
}

-- ---- "Demands 2 and 3 hold for it over its own definition"
pub two-pass-promises : (rule : Rule) (c r : List ℤ) → Promises rule (two_pass c r)
two-pass-promises rule c r = promised rule (two-pass-plan c r)

pub column-promises : (rule : Rule) (c : List ℤ) (n2 : ℕ) → Promises rule (column_pass c n2)
column-promises rule c n2 = promised rule (column-plan c n2)

pub row-promises : (rule : Rule) (r : List ℤ) (n1 : ℕ) → Promises rule (row_pass r n1)
row-promises rule r n1 = promised rule (row-plan r n1)

-- ---- "scale 4096 for each factor of either sheet"
pub factors-count : (s : List ℤ) → length (factors s) ≡ count s 1
unfolding factors
factors-count s = factors-length s (count s 0) (count s 1) 2

one-scale : (l : Lines) (s : List ℤ) → exact_scale (pass_stages l (factors s)) ≡ unit ^ count s 1
one-scale l s = passes-scale l (factors s) ∙ ap (λ (k : ℕ). unit ^ k) (factors-count s)

pub two-pass-scale : (c r : List ℤ) → D (two_pass c r) ≡ unit ^ (count c 1 + count r 1)
unfolding two_pass
two-pass-scale c r =
    let down = columns (count c 0) (count r 0) in
    let along = rows (count c 0) (count r 0) in
    scale-append (pass_stages down (factors c)) (pass_stages along (factors r))
    ∙ ap₂ ◌*◌ (one-scale down c) (one-scale along r)
    ∙ sym (pow-add unit (count c 1) (count r 1))

pub column-scale : (c : List ℤ) (n2 : ℕ) → D (column_pass c n2) ≡ unit ^ count c 1
unfolding column_pass
column-scale c n2 = one-scale (columns (count c 0) n2) c

pub row-scale : (r : List ℤ) (n1 : ℕ) → D (row_pass r n1) ≡ unit ^ count r 1
unfolding row_pass
row-scale r n1 = one-scale (rows n1 (count r 0)) r
