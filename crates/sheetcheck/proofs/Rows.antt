-- Numbers in a row that were seen one by one. Assumes nothing.
use mathlib.Core.Bool.{Bool, true, false, cond, ◌&&◌}
use mathlib.Core.List.{List}
use mathlib.Core.Path.{◌≡◌, refl, sym}
use Prim.Native.Nat.{ℕ, ◌+◌, ◌-◌, ◌≤◌, ◌<◌}
use native.Mathlib.Decide.{ℕ_discrete}
use native.Mathlib.Omega.{arith}
use lib.IntN.{ℤ, pos, negsuc, neg_ℤ}
use lib.ListN.{length}
use Rattle.std.specs.Prelude.{Some, Result, Ok, Err}
use Rattle.std.specs.Result.{is_ok, result_ok}
use Rattle.rules.specs.declared.Fault.{Fault}
use Rattle.rules.specs.declared.Item.{Item}
use Rattle.rules.specs.declared.Item.TheVariants.{Order, Count, KindNumber, Row, Place, Sign, Entry}
use Rattle.rules.specs.Numbers.{most_order, most_count, most_kind, most_entry, at}
use Rattle.rules.specs.Results.{faulted}
use Rattle.rules.specs.Sheets.{between, below, same, among, times, fault_of, one}
use Rattle.laws.specs.Readers.{Seen, one-fine}
use Rattle.laws.specs.Accepted.{stretch-of}
use Rattle.sheetcheck.specs.Quick.{Passes}

-- the first k numbers from place p on
abbrev pub Saw : List ℤ → Item → ℕ → ℕ → Type 0
Saw s what p k = (j : ℕ) → j < k → Seen s what (p + j)

pub saw-more : {s : List ℤ} {what : Item} (p k : ℕ) → Saw s what p k → Seen s what (p + k) → Saw s what p (k + 1)
saw-more {s} {what} p k h o j l = go (ℕ_discrete j k)
  where
    go : Dec (j ≡ k) → Seen s what (p + j)
    go (yes e) = rw e o
    go (no e) = h j (omega arith)

cond-most : (t : Bool) (a b : ℕ) → a ≤ 8 → b ≤ 8 → cond t a b ≤ 8
cond-most true a b l m = l
cond-most false a b l m = m

-- a fault is a number of the table
pub fault-most : (s : List ℤ) (what : Item) (i : ℕ) → fault_of s what i ≤ 8
unfolding fault_of
fault-most s Order i = cond-most (between (pos 1) (pos most_order) (at s i)) 0 2 (omega arith) (omega arith)
fault-most s Count i = cond-most (between (pos 1) (pos most_count) (at s i)) 0 3 (omega arith) (omega arith)
fault-most s KindNumber i = cond-most (between (pos 1) (pos most_kind) (at s i)) 0 4 (omega arith) (omega arith)
fault-most s (Row n) i = cond-most (below n (at s i)) 0 5 (omega arith) (omega arith)
fault-most s (Place n start) i =
    let used = among s (at s i) start (i - start) in
    cond-most (below n (at s i)) (cond used 6 0) 5 (cond-most used 6 0 (omega arith) (omega arith)) (omega arith)
fault-most s Sign i =
    let minus = same (at s i) (negsuc 0) in
    cond-most (same (at s i) (pos 1)) 0 (cond minus 0 7) (omega arith) (cond-most minus 0 7 (omega arith) (omega arith))
fault-most s Entry i =
    cond-most (between (neg_ℤ (pos most_entry)) (pos most_entry) (at s i)) 0 8 (omega arith) (omega arith)

-- a test that gave Ok found no fault
ok-fine : {f : ℕ} (r : Result (Unit {0}) Fault) → faulted r ≡ f → is_ok r ≡ true → f ≡ 0
ok-fine (Ok x) e h = sym e
ok-fine (Err y) e h = absurd (cc)

-- the number at i, where its test gave a value
pub tested :
    (s : List ℤ) (what : Item) (i : ℕ) (r : Result (Unit {0}) Fault) {v : Unit {0}} → i < length s →
    faulted r ≡ fault_of s what i → Some v ≡ result_ok r → Seen s what i
tested s what i (Ok x) l e h = one-fine s what i l (sym e)
tested s what i (Err y) l e h = absurd (cc)

-- one more number was tested; b says whether those before it have no fault
pub fine_more :
    (s : List ℤ) (what : Item) (p k : ℕ) (b : Bool) (r : Result (Unit {0}) Fault) → p + k < length s →
    faulted r ≡ fault_of s what (p + k) → (b ≡ true → Saw s what p k) → b && is_ok r ≡ true → Saw s what p (k + 1)
fine_more s what p k true r l e h t = saw-more p k (h refl) (one-fine s what (p + k) l (ok-fine r e t))
fine_more s what p k false r l e h t = absurd (cc)

-- all m were seen
pub saw-all :
    (s : List ℤ) (what : Item) (m p : ℕ) → p + m ≤ length s → Saw s what p m → Passes s (times m (one s what) p) (p + m)
saw-all s what m p l h = record { next = (stretch-of s what m p h).next; room = l }
