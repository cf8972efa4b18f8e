-- THE TEXT IS SHORT: a block has 16 numbers at most, so a session prints few bytes, and a room of 4096 has any text whole.
use Rattle.std.specs.Prelude.{Bool, true, false, cond, List, [], ◌∷◌, ◌++◌, ◌≡◌, ℕ, zero, suc, ◌+◌, ◌*◌, ◌/◌, ◌%◌, ◌≤◌, max, eqb, leb, ℤ, nat_abs, length}
use Rattle.std.proofs.Math.Decide.{ℕ_discrete}
use Rattle.std.proofs.Common.{arith, eq-eqb, ne_eqb, length-append}
use Rattle.std.specs.Int.Signed.{non_neg}
use Rattle.rules.specs.declared.Answer.{Answer}
use Rattle.rules.specs.declared.Rule.TheVariants.{Nearest}
use Rattle.rules.specs.Recipes.{numbers_of}
use Rattle.rules.specs.Calls.{Reply, line, forward_call, inverse_call, allowance_call}
use Rattle.laws.specs.Accepted.{accepted-read, accepted-order}
use Rattle.laws.specs.Plans.{forward-gives, forward-accepted, forward-length, inverse-gives, inverse-accepted, inverse-length}
use Rattle.laws.specs.Plans.{allowance-gives, allowance-accepted, allowance-length}
use Rattle.printing.specs.Program.{power, digit_at, digits, decimal, spaced, line_of, say_forward, say_back, say_allow, refusal}
use Rattle.printing.specs.Program.{replied, afterwards, ran, input_answer, session, printed}

-- ---- numbers and lines
digit-long : (p n : ℕ) → length (digit_at p n) ≤ 1
unfolding digit_at
digit-long p n = pick (leb p (max n 1))
  where
    pick : (t : Bool) → length (cond t ((48 + n / p % 10) ∷ []) []) ≤ 1
    pick true = omega arith
    pick false = omega arith

digits_long : (t n : ℕ) → length (digits t n) ≤ t
unfolding digits
digits_long zero n = omega arith
digits_long (suc t) n = omega (arith, length-append (digits t n) (digit_at (power t) n), digits_long t n, digit-long (power t) n)

decimal-long : (z : ℤ) → length (decimal z) ≤ 21
unfolding decimal
decimal-long z = pick (non_neg z) (digits_long 20 (nat_abs z))
  where
    pick : (t : Bool) → length (digits 20 (nat_abs z)) ≤ 20
        → length (cond t (digits 20 (nat_abs z)) (45 ∷ digits 20 (nat_abs z))) ≤ 21
    pick true h = omega arith
    pick false h = omega arith

spaced-long : (v : List ℤ) → length (spaced v) ≤ 22 * length v
unfolding spaced
spaced-long [] = omega arith
spaced-long (z ∷ v) = omega (arith, length-append (decimal z) (spaced v), decimal-long z, spaced-long v)

line-long : (w : List ℕ) (v : List ℤ) → length (line_of w v) ≤ length w + 22 * length v + 1
unfolding line_of
line-long w v = omega (arith, length-append w (spaced v ++ (10 ∷ [])), length-append (spaced v) (10 ∷ []), spaced-long v)

refusal-long : (a : Answer) → length (refusal a) ≤ 74
unfolding refusal
refusal-long a = line-long _ _

replied-long : (w : List ℕ) (r : Reply ℤ) → length w ≤ 7 → (r.answer.number ≡ 0 → length r.memory ≤ 16)
    → length (replied w r) ≤ 360
unfolding replied
replied-long w r l h = pick (ℕ_discrete r.answer.number 0)
  where
    pick : Dec (r.answer.number ≡ 0)
        → length (cond (eqb r.answer.number 0) (line_of w r.memory) (refusal r.answer)) ≤ 360
    pick (yes e) = rw (eq-eqb r.answer.number 0 e) (omega (arith, line-long w r.memory, h e))
    pick (no n) = rw (ne_eqb r.answer.number 0 n) (omega (arith, refusal-long r.answer))

-- ---- the calls
size_small : (s : List ℤ) → (line s).sheets.number ≡ 0 → (line s).size ≤ 16
unfolding line
size_small s h = (accepted-order (accepted-read s h)).most

module _ (s x y : List ℤ) where
  forward-short : (forward_call Nearest (line s) x y).answer.number ≡ 0 → length (forward_call Nearest (line s) x y).memory ≤ 16
  forward-short h =
      let f = (forward-gives Nearest (line s) x y (forward_call Nearest (line s) x y).memory).0
      (forward-accepted Nearest (line s) x y h) in
      let n = size_small s f.1.sheets in
      omega (arith, f.0, forward-length Nearest (line s).size (line s).stages x _ f.1.gives)

  inverse-short : (inverse_call Nearest (line s) x y).answer.number ≡ 0 → length (inverse_call Nearest (line s) x y).memory ≤ 16
  inverse-short h =
      let f = (inverse-gives Nearest (line s) x y (inverse_call Nearest (line s) x y).memory).0
      (inverse-accepted Nearest (line s) x y h) in
      let n = size_small s f.1.sheets in
      omega (arith, f.0, inverse-length Nearest (line s).size (line s).stages x _ f.1.gives)

allowance-short : (s y : List ℤ) → (allowance_call Nearest (line s) y).answer.number ≡ 0
    → length (allowance_call Nearest (line s) y).memory ≤ 16
allowance-short s y h =
    let f = (allowance-gives Nearest (line s) y (allowance_call Nearest (line s) y).memory).0
    (allowance-accepted Nearest (line s) y h) in
    let n = size_small s f.sheets in
    omega (arith, allowance-length Nearest (line s).size (line s).stages _ f.gives)

-- ---- the text
afterwards-long : (s y z : List ℤ) → length (afterwards s y z) ≤ 720
unfolding afterwards
afterwards-long s y z =
    let b = inverse_call Nearest (line s) y z in
    let a = allowance_call Nearest (line s) b.memory in
    omega (
      arith,
      length-append (replied say_back b) (replied say_allow a),
      replied-long say_back b (omega arith) (inverse-short s y z),
      replied-long say_allow a (omega arith) (allowance-short s b.memory),
    )

ran-long : (s x y z : List ℤ) → length (ran s x y z) ≤ 1080
unfolding ran
ran-long s x y z =
    let t = forward_call Nearest (line s) x y in
    pick (eqb t.answer.number 0) (replied-long say_forward t (omega arith) (forward-short s x y))
    (afterwards-long s t.memory z)
  where
    pick : (e : Bool) → length (replied say_forward (forward_call Nearest (line s) x y)) ≤ 360
        → length (afterwards s (forward_call Nearest (line s) x y).memory z) ≤ 720
        → length (replied say_forward (forward_call Nearest (line s) x y)
        ++ cond e (afterwards s (forward_call Nearest (line s) x y).memory z) []) ≤ 1080
    pick true h k =
        omega (
          arith,
          length-append (replied say_forward (forward_call Nearest (line s) x y))
              (afterwards s (forward_call Nearest (line s) x y).memory z),
        )
    pick false h k = omega (arith, length-append (replied say_forward (forward_call Nearest (line s) x y)) [])

pub printed-short : (b : List ℕ) → length (printed b) ≤ 1080
unfolding printed
printed-short b = pick (eqb (input_answer b).number 0) (refusal-long (input_answer b)) (ran-long _ _ _ _)
  where
    pick : (e : Bool) → length (refusal (input_answer b)) ≤ 74 → length (session (numbers_of b)) ≤ 1080
        → length (cond e (session (numbers_of b)) (refusal (input_answer b))) ≤ 1080
    pick true h k = k
    pick false h k = omega arith
