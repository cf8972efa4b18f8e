-- A SESSION: the lines of its calls one after another, and the parts of its numbers.
use Rattle.std.specs.Prelude.{true, false, List, ◌++◌, ◌≡◌, refl, ℤ, Result, Ok, Err, is_err}
use Rattle.std.proofs.Common.{append-nil, sym, ap}
use borrow.Author.Tests.{eq-eqb, ne_eqb}
use Rattle.rules.specs.declared.Answer.{Answer}
use Rattle.rules.specs.declared.Refusal.{Refusal}
use Rattle.rules.specs.declared.Rule.{Rule}
use Rattle.rules.specs.declared.Rule.TheVariants.{Nearest}
use Rattle.rules.specs.Calls.{Reply, Gives, Plan, line, forward_call, inverse_call, allowance_call, rule_of, ruled}
use Rattle.rules.specs.Results.{answered}
use Rattle.laws.specs.Plans.{under-fine}
use Rattle.laws.specs.Results.{some-fault}
use Rattle.printing.specs.Program.{say_forward, say_back, say_allow, replied, afterwards, ran}

-- ---- the program's rule is that of document 01: its calls are by the number 0
by-nearest : {X : Type 0} (call : Rule → Plan → X) (p : Plan) → ruled 0 call p ≡ call Nearest p
unfolding rule_of
by-nearest call p = ap (call Nearest) (under-fine 0 p refl)

-- ---- whether a call was refused
pub refused-some : {T : Type 0} (r : Result T Refusal) → is_err r ≡ true → (answered r).number ≡ 0 → ⊥
refused-some (Ok x) e z = cc
refused-some (Err d) e z = some-fault d.fault z

pub refused-none : {T : Type 0} (r : Result T Refusal) → is_err r ≡ false → (answered r).number ≡ 0
refused-none (Ok x) e = refl
refused-none (Err d) e = absurd (let y : ⊥ = cc in y)

-- ---- the lines of the calls
abbrev pub gave : Answer → List ℤ → Reply ℤ
gave a m = record { answer = a; memory = m }

gave-is : {a : Answer} {m : List ℤ} {r : Reply ℤ} → Gives a m r → gave a m ≡ r
gave-is g = rw (g.0, g.1)

module _ (s y z : List ℤ) {a b : Answer} {m n : List ℤ} where
  pub afterwards-is : Gives a m (ruled 0 inverse_call (line s) y z) → Gives b n (ruled 0 allowance_call (line s) m)
      → replied say_back (gave a m) ++ replied say_allow (gave b n) ≡ afterwards s y z
  unfolding afterwards
  afterwards-is g h = rw (gave-is g, gave-is h, g.1, by-nearest inverse_call (line s), by-nearest allowance_call (line s))

module _ (s x y z : List ℤ) {a : Answer} {m : List ℤ} (g : Gives a m (ruled 0 forward_call (line s) x y)) where
  there : Gives a m (forward_call Nearest (line s) x y)
  there = rw (← (by-nearest forward_call (line s))) g

  number_is : (forward_call Nearest (line s) x y).answer.number ≡ a.number
  number_is = ap (λ (k : Answer). k.number) (sym there.0)

  pub ran-stops : (a.number ≡ 0 → ⊥) → replied say_forward (gave a m) ≡ ran s x y z
  unfolding ran
  ran-stops h = rw (gave-is there, number_is, ne_eqb a.number 0 h, append-nil)

  pub ran-goes : a.number ≡ 0 → replied say_forward (gave a m) ++ afterwards s m z ≡ ran s x y z
  unfolding ran
  ran-goes h = rw (gave-is there, there.1, number_is, eq-eqb a.number 0 h)
