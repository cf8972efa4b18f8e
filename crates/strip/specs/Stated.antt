-- WHAT THE PROMISES OF THE FOUR STRIPS SAY: accepted strips of a line and of a pair of sheets, by the number k of a rule.
use Rattle.std.specs.Prelude.{List, ℕ, ◌*◌, ℤ}
use Rattle.rules.specs.Numbers.{count}
use Rattle.rules.specs.Calls.{line, joint, forward_call, inverse_call, under, ruled}
use Rattle.laws.specs.Stated.Strips.{StripGave}

-- a call, lent x, y and b, answered 0 and left m and bs
abbrev pub LineForward : (k : ℕ) (s x y : List ℤ) (b : List ℕ) (m : List ℤ) (bs : List ℕ) → Type 0
LineForward k s = StripGave (under k (line s)) (ruled k forward_call (line s))

abbrev pub LineInverse : (k : ℕ) (s x y : List ℤ) (b : List ℕ) (m : List ℤ) (bs : List ℕ) → Type 0
LineInverse k s = StripGave (under k (line s)) (ruled k inverse_call (line s))

-- and of a pair of sheets
abbrev pub JointForward : (k : ℕ) (c r x y : List ℤ) (b : List ℕ) (m : List ℤ) (bs : List ℕ) → Type 0
JointForward k c r = StripGave (under k (joint c r)) (ruled k forward_call (joint c r))

abbrev pub JointInverse : (k : ℕ) (c r x y : List ℤ) (b : List ℕ) (m : List ℤ) (bs : List ℕ) → Type 0
JointInverse k c r = StripGave (under k (joint c r)) (ruled k inverse_call (joint c r))

-- how many numbers a rectangle has
abbrev pub size : List ℤ → List ℤ → ℕ
size c r = count c 0 * count r 0
