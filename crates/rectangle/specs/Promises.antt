-- THE PROMISES OF A RECTANGLE'S CALLS. `forward`, `inverse` and `allowance` have the contracts `Gives a m (ruled k forward_call
-- (joint c r) x y)`, and so on: k is the number of the rule (request R-5), any number at all; a is the answer, `answered` of the
-- result, and m what the lent output holds then. Each theorem is about what these calls returned, and has one k throughout.
use Rattle.std.specs.Prelude.{List, ◌≡◌, ℕ, ◌*◌, ◌^◌, ◌<◌, ℤ, pos, nat_abs, ◌-ℤ◌, ◌*ℤ◌, length, ◌≤ℤ◌}
use Rattle.rules.specs.declared.Answer.{Answer}
use Rattle.rules.specs.Numbers.{unit, unit², at, count}
use Rattle.rules.specs.Answers.{accepted, refused, pair_checked}
use Rattle.rules.specs.Calls.{Gives, joint, forward_call, inverse_call, allowance_call, rule_of, rule_checked, under, ruled}
use Rattle.laws.specs.Stated.Cuts.{cut_front, cut_back, CutLaw}
use Rattle.laws.proofs.CutLaw.{joint-cut, ruled-cut}
use Rattle.laws.specs.Stated.Calls.{E, D, Accepts, Promises}
use Rattle.laws.specs.Stated.Elements.{NoElement, Plain, Elements}
use Rattle.laws.specs.Plans.{joint-plan, under-plan}
use Rattle.laws.specs.Elements.{plan-elements, forward-plain, inverse-plain, allowance-element, joint-none, under_none}
use Rattle.laws.specs.Promises.{ruled-promises, forward-none, inverse-none, allowance-none, joint-scale, one_answer}
use Rattle.laws.specs.Returned.{returned-back, returned-there, returned-near, returned-difference}

-- ---- one answer and one memory, refusals too
pub one-forward :
    (k : ℕ) (c r x y : List ℤ) {a b : Answer} {m n : List ℤ} →
    Gives a m (ruled k forward_call (joint c r) x y) → Gives b n (ruled k forward_call (joint c r) x y) → (a ≡ b) × (m ≡ n)
one-forward k c r x y = one_answer (ruled k forward_call (joint c r) x y)

pub one-inverse :
    (k : ℕ) (c r x y : List ℤ) {a b : Answer} {m n : List ℤ} →
    Gives a m (ruled k inverse_call (joint c r) x y) → Gives b n (ruled k inverse_call (joint c r) x y) → (a ≡ b) × (m ≡ n)
one-inverse k c r x y = one_answer (ruled k inverse_call (joint c r) x y)

pub one-allowance :
    (k : ℕ) (c r y : List ℤ) {a b : Answer} {m n : List ℤ} →
    Gives a m (ruled k allowance_call (joint c r) y) → Gives b n (ruled k allowance_call (joint c r) y) → (a ≡ b) × (m ≡ n)
one-allowance k c r y = one_answer (ruled k allowance_call (joint c r) y)

-- ---- "16 for a rule not 0, 1 or 2, place 0, before all others": whatever the sheets are, and whatever is lent stays
pub no-rule :
    (k : ℕ) (c r x y : List ℤ) → 2 < k →
    Gives (refused 16 0 0) y (ruled k forward_call (joint c r) x y)
    × Gives (refused 16 0 0) y (ruled k inverse_call (joint c r) x y)
    × Gives (refused 16 0 0) y (ruled k allowance_call (joint c r) y)
no-rule k c r x y h = (forward-none k (joint c r) h x y, inverse-none k (joint c r) h x y, allowance-none k (joint c r) h y)

-- ---- request R-7: the element of 11 is the first offending one, in reading order or in the recovery order
pub elements : (k : ℕ) (c r : List ℤ) → Elements (rule_of k) (under k (joint c r))
elements k c r = plan-elements (rule_of k) (under-plan k (joint-plan c r))

-- "It is 0 in every other answer"
pub forward-other :
    (k : ℕ) (c r x y : List ℤ) {a : Answer} {m : List ℤ} → Gives a m (ruled k forward_call (joint c r) x y) → Plain a
forward-other k c r x y g =
    rw g.0 (forward-plain (rule_of k) (under k (joint c r)) (under_none k (joint c r) (joint-none c r)) x y)

pub inverse-other :
    (k : ℕ) (c r x y : List ℤ) {a : Answer} {m : List ℤ} → Gives a m (ruled k inverse_call (joint c r) x y) → Plain a
inverse-other k c r x y g =
    rw g.0 (inverse-plain (rule_of k) (under k (joint c r)) (under_none k (joint c r) (joint-none c r)) x y)

pub allowance-other :
    (k : ℕ) (c r y : List ℤ) {a : Answer} {m : List ℤ} → Gives a m (ruled k allowance_call (joint c r) y) → NoElement a
allowance-other k c r y g =
    rw g.0 (allowance-element (rule_of k) (under k (joint c r)) (under_none k (joint c r) (joint-none c r)) y)

-- ---- demand 2: "Inverse after an accepted forward run returns the block, and the other way round"
promised : (k : ℕ) (c r : List ℤ) → Promises (rule_of k) (under k (joint c r))
promised k c r = ruled-promises k (joint-plan c r)

pub back-again :
    (k : ℕ) (c r x y z : List ℤ) {u m : List ℤ} {a : Answer} → length z ≡ count c 0 * count r 0 →
    Accepts u (ruled k forward_call (joint c r) x y) →
    Gives a m (ruled k inverse_call (joint c r) u z) → (a ≡ accepted) × (m ≡ x)
unfolding joint
back-again k c r x y z = returned-back (promised k c r) x y z

pub there-again :
    (k : ℕ) (c r y x z : List ℤ) {u m : List ℤ} {a : Answer} → length z ≡ count c 0 * count r 0 →
    Accepts u (ruled k inverse_call (joint c r) y x) →
    Gives a m (ruled k forward_call (joint c r) u z) → (a ≡ accepted) × (m ≡ y)
unfolding joint
there-again k c r y x z = returned-there (promised k c r) y x z

-- ---- demand 3: "4096·|D·y - E| ≤ D·b", D = 4096^(2K) = 16777216^K by `joint-scale`
pub within-allowance :
    (k : ℕ) (c r x y z : List ℤ) {u b : List ℤ} → Accepts b (ruled k allowance_call (joint c r) z) →
    Accepts u (ruled k forward_call (joint c r) x y) →
    (e : ℕ) → e < count c 0 * count r 0 →
    pos (unit * nat_abs ((pos (D (joint c r)) *ℤ at u e) -ℤ at (E (joint c r) x) e)) ≤ℤ (pos (D (joint c r)) *ℤ at b e)
within-allowance k c r x y z g h e l = returned-near (promised k c r) x y z g h e (sized l)
  where
    sized : e < count c 0 * count r 0 → e < (joint c r).size
    sized o = unfold joint in o

pub scale : (c r : List ℤ) → (pair_checked c r).number ≡ 0 → D (joint c r) ≡ unit² ^ count c 1
scale = joint-scale

-- "4096·|F(x) - F(z) - F(x-z)| ≤ 3·b", where u is x - z element by element
pub difference :
    (k : ℕ) (c r x z u y₁ y₂ y₃ y₄ : List ℤ) {fx fz fu b : List ℤ} →
    ((e : ℕ) → e < count c 0 * count r 0 → at u e ≡ at x e -ℤ at z e) →
    Accepts b (ruled k allowance_call (joint c r) y₁) → Accepts fx (ruled k forward_call (joint c r) x y₂) →
    Accepts fz (ruled k forward_call (joint c r) z y₃) → Accepts fu (ruled k forward_call (joint c r) u y₄) →
    (e : ℕ) → e < count c 0 * count r 0 → pos (unit * nat_abs ((at fx e -ℤ at fz e) -ℤ at fu e)) ≤ℤ (pos 3 *ℤ at b e)
unfolding joint
difference k c r x z u y₁ y₂ y₃ y₄ = returned-difference (promised k c r) x z u y₁ y₂ y₃ y₄

-- the cut law: both sheets cut at one position, the parts run one after the other by the rule of the whole, give what the whole
-- gives, refusals 11 too
pub cut :
    (k : ℕ) (c r : List ℤ) (f : ℕ) → (rule_checked k).number ≡ 0 → (pair_checked c r).number ≡ 0 → 0 < f → f < count c 1 →
    CutLaw (rule_of k) (under k (joint c r)) (under k (joint (cut_front c f) (cut_front r f)))
    (under k (joint (cut_back c f) (cut_back r f))) f
cut k c r f n h some not-all = ruled-cut k n (joint-cut (rule_of k) c r f h some not-all)
