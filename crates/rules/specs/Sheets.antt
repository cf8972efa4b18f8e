-- "THE SHEET" of document 01, read from the left: the first fault, 1 to 9 of "What comes back", and its place.
use Rattle.std.specs.Prelude.{Bool, true, false, cond, List, ℕ, zero, suc, ◌+◌, ◌-◌, eqb, ltb, ℤ, pos, negsuc, neg_ℤ, length}
use Rattle.std.specs.Int.Signed.{le_z}
use Rattle.rules.specs.declared.Item.{Item}
use Rattle.rules.specs.declared.Item.TheVariants.{Order, Count, KindNumber, Row, Place, Sign, Entry}
use Rattle.rules.specs.declared.Kind.{Kind}
use Rattle.rules.specs.declared.Kind.TheVariants.{Permutation, Lower, Upper, Single}
use Rattle.rules.specs.Marks.{Mark}
use Rattle.rules.specs.Numbers.{most_order, most_count, most_kind, most_entry, at, count}

-- ---- readers: from a place to the next place, or to a fault
abbrev pub on : ℕ → Mark
on i = record { number = 0; place = i }

abbrev pub stop : ℕ → ℕ → Mark
stop fault i = record { number = fault; place = i }

-- "Sheets are read left to right and the first fault answers": after a fault nothing more is read
unfoldable pub go : Bool → Mark → (ℕ → Mark) → Mark
go true m r = r m.place
go false m r = m

-- one reader, then another from where it ended
infixl 20 ◌then◌
abbrev pub ◌then◌ : Mark → (ℕ → Mark) → Mark
m then r = go (eqb m.number 0) m r

-- the same reader m times
unfoldable pub times : ℕ → (ℕ → Mark) → ℕ → Mark
times zero r i = on i
times (suc m) r i = r i then times m r

-- ---- tests of one number
abbrev pub between : ℤ → ℤ → ℤ → Bool
between lo hi z = cond (le_z lo z) (le_z z hi) false

-- 0, 1, .. or n - 1
abbrev pub below : ℕ → ℤ → Bool
below n (pos m) = ltb m n
below n (negsuc m) = false

abbrev pub same : ℤ → ℤ → Bool
same (pos a) (pos b) = eqb a b
same (pos a) (negsuc b) = false
same (negsuc a) (pos b) = false
same (negsuc a) (negsuc b) = eqb a b

-- z stands among the m numbers from place i on
unfoldable pub among : List ℤ → ℤ → ℕ → ℕ → Bool
among s z i zero = false
among s z i (suc m) = cond (same (at s i) z) true (among s z (i + 1) m)

-- no fault if the test holds, else that fault
abbrev pub unless : Bool → ℕ → ℕ
unless test fault = cond test 0 fault

-- faults 2 to 8: the fault of the number at place i, by what it stands for
unfoldable pub fault_of : List ℤ → Item → ℕ → ℕ
fault_of s Order i = unless (between (pos 1) (pos most_order) (at s i)) 2
fault_of s Count i = unless (between (pos 1) (pos most_count) (at s i)) 3
fault_of s KindNumber i = unless (between (pos 1) (pos most_kind) (at s i)) 4
fault_of s (Row n) i = unless (below n (at s i)) 5
fault_of s (Place n start) i = cond (below n (at s i)) (cond (among s (at s i) start (i - start)) 6 0) 5
fault_of s Sign i = cond (same (at s i) (pos 1)) 0 (unless (same (at s i) (negsuc 0)) 7)
fault_of s Entry i = unless (between (neg_ℤ (pos most_entry)) (pos most_entry) (at s i)) 8

-- fault 1: "sheet ends where a number is needed", at its length
abbrev pub judged : ℕ → ℕ → Mark
judged fault i = cond (eqb fault 0) (on (i + 1)) (stop fault i)

unfoldable pub one : List ℤ → Item → ℕ → Mark
one s what i = cond (ltb i (length s)) (judged (fault_of s what i) i) (stop 1 (length s))

-- ---- the table of kinds
unfoldable pub kind_of : ℕ → Kind
kind_of k = cond (eqb k 1) Permutation (cond (eqb k 2) Lower (cond (eqb k 3) Upper Single))

-- 0 + 1 + .. + (n - 1): the entries on one side of the diagonal
unfoldable pub triangle : ℕ → ℕ
triangle zero = 0
triangle (suc n) = triangle n + n

-- n signs, then m entries
unfoldable pub weights : List ℤ → ℕ → ℕ → ℕ → Mark
weights s n m i = times n (one s Sign) i then times m (one s Entry)

-- what follows the kind number
unfoldable pub body : List ℤ → ℕ → Kind → ℕ → Mark
body s n Permutation i = times n (one s (Place n i)) i
body s n Lower i = weights s n (triangle n) i
body s n Upper i = weights s n (triangle n) i
body s n Single i = one s (Row n) i then weights s n (n - 1)

unfoldable pub factor : List ℤ → ℕ → ℕ → Mark
factor s n i = one s KindNumber i then body s n (kind_of (count s i))

-- fault 9: "numbers after the last factor"
unfoldable pub closed : List ℤ → ℕ → Mark
closed s i = cond (ltb i (length s)) (stop 9 i) (on i)

-- "A sheet is a slice of i32: n, the factor count K, then K factors"
unfoldable pub head : List ℤ → Mark
head s = one s Order 0 then one s Count

unfoldable pub reading : List ℤ → Mark
reading s = head s then times (count s 1) (factor s (count s 0)) then closed s
