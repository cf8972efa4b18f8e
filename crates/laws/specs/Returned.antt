-- THE PROMISES, OF WHAT CALLS RETURNED: a call whose contract is `Gives a m q` answered a and left m in the slice that it was
-- lent.
-- Over any plan for which the promises hold; the crates that own the calls cite these for a line and for a rectangle.
use Rattle.std.specs.Prelude.{List, ◌≡◌, ℕ, ◌*◌, ◌<◌, ℤ, pos, nat_abs, ◌-ℤ◌, ◌*ℤ◌, length, ◌≤ℤ◌}
use Rattle.std.proofs.Common.{sym, ap, ◌∙◌}
use Rattle.rules.specs.declared.Answer.{Answer}
use Rattle.rules.specs.Numbers.{unit, at}
use Rattle.rules.specs.declared.Rule.{Rule}
use Rattle.rules.specs.Answers.{accepted}
use Rattle.rules.specs.Calls.{Reply, Gives, Plan, forward_call, inverse_call, allowance_call}
use Rattle.laws.specs.Stated.Calls.{Accepts, Fills, E, D, Promises}
use Rattle.laws.specs.Plans.{forward-accepted, inverse-accepted, allowance-accepted}
use Rattle.laws.specs.Promises.{one_answer}

fine : {m : List ℤ} {q : Reply ℤ} → Accepts m q → q.answer.number ≡ 0
fine h = ap (λ (a : Answer). a.number) (sym h.gives.0) ∙ h.zero

module _ {rule : Rule} {p : Plan} (promises : Promises rule p) where
  forward-fills : (x y : List ℤ) {c : List ℤ} → Accepts c (forward_call rule p x y) → Fills (forward_call rule p x) c
  forward-fills x y h = record { lent = y; gives = rw h.gives.1 (forward-accepted rule p x y (fine h)) }

  inverse-fills : (x y : List ℤ) {c : List ℤ} → Accepts c (inverse_call rule p x y) → Fills (inverse_call rule p x) c
  inverse-fills x y h = record { lent = y; gives = rw h.gives.1 (inverse-accepted rule p x y (fine h)) }

  allowance-fills : (y : List ℤ) {b : List ℤ} → Accepts b (allowance_call rule p y) → Fills (allowance_call rule p) b
  allowance-fills y h = record { lent = y; gives = rw h.gives.1 (allowance-accepted rule p y (fine h)) }

  -- the inverse call on what a forward call left answers 0 and leaves the block, whatever it is lent
  pub returned-back :
      (x y z : List ℤ) {c m : List ℤ} {a : Answer} → length z ≡ p.size → Accepts c (forward_call rule p x y) →
      Gives a m (inverse_call rule p c z) → (a ≡ accepted) × (m ≡ x)
  returned-back x y z l h g = one_answer _ g (promises.back-again x z l (forward-fills x y h))

  -- the forward call on what an inverse call left answers 0 and leaves the coefficients
  pub returned-there :
      (y x z : List ℤ) {c m : List ℤ} {a : Answer} → length z ≡ p.size → Accepts c (inverse_call rule p y x) →
      Gives a m (forward_call rule p c z) → (a ≡ accepted) × (m ≡ y)
  returned-there y x z l h g = one_answer _ g (promises.there-again y z l (inverse-fills y x h))

  -- each coefficient is within its allowance of the exact product
  pub returned-near :
      (x y z : List ℤ) {c b : List ℤ} → Accepts b (allowance_call rule p z) → Accepts c (forward_call rule p x y) → (e : ℕ) →
      e < p.size →
      pos (unit * nat_abs ((pos (D p) *ℤ at c e) -ℤ at (E p x) e)) ≤ℤ (pos (D p) *ℤ at b e)
  returned-near x y z g h e l = promises.within-allowance x (allowance-fills z g) (forward-fills x y h) e l

  -- a difference of coefficients is within three allowances of the coefficients of the difference
  pub returned-difference :
      (x z u y₁ y₂ y₃ y₄ : List ℤ) {fx fz fu b : List ℤ} → ((e : ℕ) → e < p.size → at u e ≡ at x e -ℤ at z e) →
      Accepts b (allowance_call rule p y₁) → Accepts fx (forward_call rule p x y₂) → Accepts fz (forward_call rule p z y₃) →
      Accepts fu (forward_call rule p u y₄) →
      (e : ℕ) → e < p.size → pos (unit * nat_abs ((at fx e -ℤ at fz e) -ℤ at fu e)) ≤ℤ (pos 3 *ℤ at b e)
  returned-difference x z u y₁ y₂ y₃ y₄ less g hx hz hu e l =
      promises.difference x z u less (allowance-fills y₁ g) (forward-fills x y₂ hx) (forward-fills z y₃ hz)
      (forward-fills u y₄ hu) e l
