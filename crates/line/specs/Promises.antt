-- THE PROMISES OF A LINE'S CALLS. `forward`, `inverse` and `allowance` have the contracts `Gives a m (ruled k forward_call (line
-- s) x y)`, and so on: k is the number of the rule (request R-5), any number at all; a is the answer of the result (`answered`),
-- m what the lent output holds then. Each theorem is about what these calls returned, and has one k throughout.
use Rattle.std.specs.Prelude.{List, ◌≡◌, ℕ, ◌*◌, ◌^◌, ◌<◌, ℤ, pos, nat_abs, ◌-ℤ◌, ◌*ℤ◌, length, ◌≤ℤ◌}
use Rattle.rules.specs.declared.Answer.{Answer}
use Rattle.rules.specs.Numbers.{unit, at, count}
use Rattle.rules.specs.Answers.{accepted, refused, checked}
use Rattle.rules.specs.Calls.{Gives, line, forward_call, inverse_call, allowance_call, rule_of, rule_checked, under, ruled}
use Rattle.laws.specs.Stated.Cuts.{cut_front, cut_back, CutLaw}
use Rattle.laws.proofs.CutLaw.{line-cut, ruled-cut}
use Rattle.laws.specs.Stated.Calls.{E, Accepts, Promises}
use Rattle.laws.specs.Stated.Elements.{NoElement, Plain, Elements}
use Rattle.laws.specs.Plans.{line-plan, under-plan}
use Rattle.laws.specs.Elements.{plan-elements, forward-plain, inverse-plain, allowance-element, line-none, under_none}
use Rattle.laws.specs.Promises.{ruled-promises, forward-none, inverse-none, allowance-none, line-scale, one_answer}
use Rattle.laws.specs.Returned.{returned-back, returned-there, returned-near, returned-difference}

-- ---- one answer and one memory, refusals too
pub one-forward :
    (k : ℕ) (s x y : List ℤ) {a b : Answer} {m n : List ℤ} →
    Gives a m (ruled k forward_call (line s) x y) → Gives b n (ruled k forward_call (line s) x y) → (a ≡ b) × (m ≡ n)
one-forward k s x y = one_answer (ruled k forward_call (line s) x y)

pub one-inverse :
    (k : ℕ) (s x y : List ℤ) {a b : Answer} {m n : List ℤ} →
    Gives a m (ruled k inverse_call (line s) x y) → Gives b n (ruled k inverse_call (line s) x y) → (a ≡ b) × (m ≡ n)
one-inverse k s x y = one_answer (ruled k inverse_call (line s) x y)

pub one-allowance :
    (k : ℕ) (s y : List ℤ) {a b : Answer} {m n : List ℤ} →
    Gives a m (ruled k allowance_call (line s) y) → Gives b n (ruled k allowance_call (line s) y) → (a ≡ b) × (m ≡ n)
one-allowance k s y = one_answer (ruled k allowance_call (line s) y)

-- ---- "16 for a rule not 0, 1 or 2, place 0, before all others": whatever the sheet is, and whatever is lent stays
pub no-rule :
    (k : ℕ) (s x y : List ℤ) → 2 < k →
    Gives (refused 16 0 0) y (ruled k forward_call (line s) x y) × Gives (refused 16 0 0) y (ruled k inverse_call (line s) x y)
    × Gives (refused 16 0 0) y (ruled k allowance_call (line s) y)
no-rule k s x y h = (forward-none k (line s) h x y, inverse-none k (line s) h x y, allowance-none k (line s) h y)

-- ---- request R-7: the element of 11 is the first offending one, in reading order or in the recovery order
pub elements : (k : ℕ) (s : List ℤ) → Elements (rule_of k) (under k (line s))
elements k s = plan-elements (rule_of k) (under-plan k (line-plan s))

-- "It is 0 in every other answer"
pub forward-other :
    (k : ℕ) (s x y : List ℤ) {a : Answer} {m : List ℤ} → Gives a m (ruled k forward_call (line s) x y) → Plain a
forward-other k s x y g =
    rw g.0 (forward-plain (rule_of k) (under k (line s)) (under_none k (line s) (line-none s)) x y)

pub inverse-other :
    (k : ℕ) (s x y : List ℤ) {a : Answer} {m : List ℤ} → Gives a m (ruled k inverse_call (line s) x y) → Plain a
inverse-other k s x y g =
    rw g.0 (inverse-plain (rule_of k) (under k (line s)) (under_none k (line s) (line-none s)) x y)

pub allowance-other :
    (k : ℕ) (s y : List ℤ) {a : Answer} {m : List ℤ} → Gives a m (ruled k allowance_call (line s) y) → NoElement a
allowance-other k s y g =
    rw g.0 (allowance-element (rule_of k) (under k (line s)) (under_none k (line s) (line-none s)) y)

-- ---- demand 2: "Inverse after an accepted forward run returns the block, and the other way round"
promised : (k : ℕ) (s : List ℤ) → Promises (rule_of k) (under k (line s))
promised k s = ruled-promises k (line-plan s)

pub back-again :
    (k : ℕ) (s x y z : List ℤ) {c m : List ℤ} {a : Answer} → length z ≡ count s 0 →
    Accepts c (ruled k forward_call (line s) x y) → Gives a m (ruled k inverse_call (line s) c z) → (a ≡ accepted) × (m ≡ x)
unfolding line
back-again k s x y z = returned-back (promised k s) x y z

pub there-again :
    (k : ℕ) (s y x z : List ℤ) {c m : List ℤ} {a : Answer} → length z ≡ count s 0 →
    Accepts c (ruled k inverse_call (line s) y x) → Gives a m (ruled k forward_call (line s) c z) → (a ≡ accepted) × (m ≡ y)
unfolding line
there-again k s y x z = returned-there (promised k s) y x z

-- ---- demand 3: "4096·|D·y - E| ≤ D·b", D = 4096^K
pub within-allowance :
    (k : ℕ) (s x y z : List ℤ) {c b : List ℤ} → Accepts b (ruled k allowance_call (line s) z) →
    Accepts c (ruled k forward_call (line s) x y) →
    (e : ℕ) → e < count s 0 →
    pos (unit * nat_abs ((pos (unit ^ count s 1) *ℤ at c e) -ℤ at (E (line s) x) e)) ≤ℤ (pos (unit ^ count s 1) *ℤ at b e)
within-allowance k s x y z g h e l = rw (← (line-scale s)) (returned-near (promised k s) x y z g h e (sized l))
  where
    sized : e < count s 0 → e < (line s).size
    sized o = unfold line in o

-- "4096·|F(x) - F(z) - F(x-z)| ≤ 3·b", where u is x - z element by element
pub difference :
    (k : ℕ) (s x z u y₁ y₂ y₃ y₄ : List ℤ) {fx fz fu b : List ℤ} → ((e : ℕ) → e < count s 0 → at u e ≡ at x e -ℤ at z e) →
    Accepts b (ruled k allowance_call (line s) y₁) → Accepts fx (ruled k forward_call (line s) x y₂) →
    Accepts fz (ruled k forward_call (line s) z y₃) → Accepts fu (ruled k forward_call (line s) u y₄) →
    (e : ℕ) → e < count s 0 → pos (unit * nat_abs ((at fx e -ℤ at fz e) -ℤ at fu e)) ≤ℤ (pos 3 *ℤ at b e)
unfolding line
difference k s x z u y₁ y₂ y₃ y₄ = returned-difference (promised k s) x z u y₁ y₂ y₃ y₄

-- the cut law: the two parts of a checked sheet, run one after the other by the rule of the whole, give what the whole gives,
-- refusals 11 too, with their elements
pub cut :
    (k : ℕ) (s : List ℤ) (f : ℕ) → (rule_checked k).number ≡ 0 → (checked s).number ≡ 0 → 0 < f → f < count s 1 →
    CutLaw (rule_of k) (under k (line s)) (under k (line (cut_front s f))) (under k (line (cut_back s f))) f
cut k s f r h some not-all = ruled-cut k r (line-cut (rule_of k) s f h some not-all)
