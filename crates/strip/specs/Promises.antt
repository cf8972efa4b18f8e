-- THE PROMISES OF STRIPS. `line_forward` has the contract `GivesStrip (answered r) m bs (ruled k forward_strip (line s) x y b)`,
-- and the other three likewise: k is the number of the rule (request R-5), any number at all; r is what the call gives back, m
-- what the lent output holds then, bs what the lent bytes hold. In the theorems a is the answer, `answered r`. Each theorem has
-- one k throughout.
use Rattle.std.specs.Prelude.{List, ◌≡◌, ℕ, ◌*◌, ◌<◌, ℤ, pos, nat_abs, ◌-ℤ◌, ◌*ℤ◌, length, get_or, ◌≤ℤ◌}
use Rattle.std.proofs.Math.Path.{refl}
use Rattle.rules.specs.declared.Answer.{Answer}
use Rattle.rules.specs.Numbers.{unit, at, count}
use Rattle.rules.specs.Answers.{accepted, refused, checked, pair_checked}
use Rattle.rules.specs.Calls.{line, joint, forward_call, inverse_call, allowance_call, rule_of, rule_checked, under, ruled}
use Rattle.rules.specs.Strips.{GivesStrip, block, forward_strip, inverse_strip}
use Rattle.laws.specs.Stated.Cuts.{cut, cut_front, cut_back}
use Rattle.laws.proofs.CutLaw.{line-cut, joint-cut, ruled-cut}
use Rattle.laws.specs.Accepted.{both-fine}
use Rattle.laws.specs.Plans.{under-plan, line-plan, joint-plan}
use Rattle.laws.specs.Stated.Calls.{E, D, Accepts}
use Rattle.laws.specs.Stated.Elements.{NoElement}
use Rattle.laws.specs.Elements.{line-none, joint-none, under_none, strip-element}
use Rattle.laws.specs.Promises.{ruled-promises}
use Rattle.laws.specs.Strips.{forward-block, inverse-block, strip-none}
use Rattle.laws.specs.Stated.Strips.{StripPromises, BlocksBack, CutBlock}
use Rattle.laws.specs.ReturnedStrips.{accepted-fits, strip-promised, strip-back}
use Rattle.laws.specs.ReturnedStrips.{strip-there, strip-near, strip-difference, strip-cut}
use Rattle.strip.specs.Stated.{LineForward, LineInverse, JointForward, JointInverse, size}

-- ---- request R-1 of the four calls: one answer; refused strips; each block, its byte; no other block
pub line-forward : (k : ℕ) (s : List ℤ) → StripPromises (under k (line s)) (ruled k forward_call (line s))
line-forward k s = strip-promised (under-plan k (line-plan s)) (forward-block (rule_of k) (under k (line s)))

pub line-inverse : (k : ℕ) (s : List ℤ) → StripPromises (under k (line s)) (ruled k inverse_call (line s))
line-inverse k s = strip-promised (under-plan k (line-plan s)) (inverse-block (rule_of k) (under k (line s)))

pub joint-forward : (k : ℕ) (c r : List ℤ) → StripPromises (under k (joint c r)) (ruled k forward_call (joint c r))
joint-forward k c r = strip-promised (under-plan k (joint-plan c r)) (forward-block (rule_of k) (under k (joint c r)))

pub joint-inverse : (k : ℕ) (c r : List ℤ) → StripPromises (under k (joint c r)) (ruled k inverse_call (joint c r))
joint-inverse k c r = strip-promised (under-plan k (joint-plan c r)) (inverse-block (rule_of k) (under k (joint c r)))

-- ---- "16 for a rule not 0, 1 or 2, place 0, before all others": whatever the sheets are, and whatever is lent stays
pub line-no-rule : (k : ℕ) (s x y : List ℤ) (b : List ℕ) → 2 < k →
    GivesStrip (refused 16 0 0) y b (ruled k forward_strip (line s) x y b)
    × GivesStrip (refused 16 0 0) y b (ruled k inverse_strip (line s) x y b)
line-no-rule k s x y b h = (strip-none k (line s) h _ x y b, strip-none k (line s) h _ x y b)

pub joint-no-rule : (k : ℕ) (c r x y : List ℤ) (b : List ℕ) → 2 < k →
    GivesStrip (refused 16 0 0) y b (ruled k forward_strip (joint c r) x y b)
    × GivesStrip (refused 16 0 0) y b (ruled k inverse_strip (joint c r) x y b)
joint-no-rule k c r x y b h = (strip-none k (joint c r) h _ x y b, strip-none k (joint c r) h _ x y b)

-- ---- request R-7: "a strip keeps R-1's bytes", and its answer names no element
pub line-no-element : (k : ℕ) (s x y : List ℤ) (b : List ℕ) →
    NoElement (ruled k forward_strip (line s) x y b).answer × NoElement (ruled k inverse_strip (line s) x y b).answer
line-no-element k s x y b =
    let none = under_none k (line s) (line-none s) in (strip-element _ none _ x y b, strip-element _ none _ x y b)

pub joint-no-element : (k : ℕ) (c r x y : List ℤ) (b : List ℕ) →
    NoElement (ruled k forward_strip (joint c r) x y b).answer × NoElement (ruled k inverse_strip (joint c r) x y b).answer
joint-no-element k c r x y b =
    let none = under_none k (joint c r) (joint-none c r) in (strip-element _ none _ x y b, strip-element _ none _ x y b)

-- ---- "Demands 2 and 3 read per block": a line
module _ (k : ℕ) (s : List ℤ) where
  -- demand 2: the other strip on what a strip left is accepted, and each block whose byte is 0 comes back
  pub line-back-again :
      {x y m u : List ℤ} {b bs ds : List ℕ} {a : Answer} (z : List ℤ) (d : List ℕ) → LineForward k s x y b m bs →
      length z ≡ length x → length d ≡ length b → GivesStrip a u ds (ruled k inverse_strip (line s) m z d) →
      (a ≡ accepted) × BlocksBack (count s 0) x bs u ds
  unfolding line
  line-back-again = strip-back (ruled-promises k (line-plan s))

  pub line-there-again :
      {x y m u : List ℤ} {b bs ds : List ℕ} {a : Answer} (z : List ℤ) (d : List ℕ) → LineInverse k s x y b m bs →
      length z ≡ length x → length d ≡ length b → GivesStrip a u ds (ruled k forward_strip (line s) m z d) →
      (a ≡ accepted) × BlocksBack (count s 0) x bs u ds
  unfolding line
  line-there-again = strip-there (ruled-promises k (line-plan s))

  -- demand 3, with the allowances w of the single call
  pub line-within-allowance :
      {x y m : List ℤ} {b bs : List ℕ} (z : List ℤ) {w : List ℤ} → Accepts w (ruled k allowance_call (line s) z) →
      LineForward k s x y b m bs →
      (t : ℕ) → t < length b → get_or bs t 0 ≡ 0 → (e : ℕ) → e < count s 0 →
      pos (unit * nat_abs ((pos (D (line s)) *ℤ at (block (count s 0) t m) e) -ℤ at (E (line s) (block (count s 0) t x)) e)) ≤ℤ
      (pos (D (line s)) *ℤ at w e)
  unfolding line
  line-within-allowance = strip-near (ruled-promises k (line-plan s))

  pub line-difference :
      {x₁ x₂ x₃ y₁ y₂ y₃ m₁ m₂ m₃ : List ℤ} {b₁ b₂ b₃ bs₁ bs₂ bs₃ : List ℕ} (z : List ℤ) {w : List ℤ} →
      Accepts w (ruled k allowance_call (line s) z) → LineForward k s x₁ y₁ b₁ m₁ bs₁ → LineForward k s x₂ y₂ b₂ m₂ bs₂ →
      LineForward k s x₃ y₃ b₃ m₃ bs₃ →
      (t : ℕ) → t < length b₁ → t < length b₂ → t < length b₃ → get_or bs₁ t 0 ≡ 0 → get_or bs₂ t 0 ≡ 0 → get_or bs₃ t 0 ≡ 0 →
      ((e : ℕ) → e < count s 0 → at (block (count s 0) t x₃) e ≡ at (block (count s 0) t x₁) e -ℤ at (block (count s 0) t x₂) e) →
      (e : ℕ) → e < count s 0 →
      pos (unit * nat_abs ((at (block (count s 0) t m₁) e -ℤ at (block (count s 0) t m₂) e) -ℤ at (block (count s 0) t m₃) e)) ≤ℤ
      (pos 3 *ℤ at w e)
  unfolding line
  line-difference = strip-difference (ruled-promises k (line-plan s))

  -- the cut law: both parts' strips are accepted, and each block ends as in the whole
  pub line-strip-cut :
      (f : ℕ) → 0 < f → f < count s 1 → {x y m u v : List ℤ} {b bs bs₁ bs₂ : List ℕ} {a₁ a₂ : Answer} (middle : List ℤ)
      (b₁ b₂ : List ℕ) → LineForward k s x y b m bs → length middle ≡ length x → length b₁ ≡ length b → length b₂ ≡ length b →
      GivesStrip a₁ u bs₁ (ruled k forward_strip (line (cut_front s f)) x middle b₁) →
      GivesStrip a₂ v bs₂ (ruled k forward_strip (line (cut_back s f)) u y b₂) →
      (a₁ ≡ accepted) × (a₂ ≡ accepted) × ((t : ℕ) → t < length b → CutBlock (count s 0) t y m bs bs₁ v bs₂)
  unfolding line cut
  line-strip-cut f some not-all middle b₁ b₂ h =
      let fine = both-fine (rule_checked k) (checked s) (accepted-fits (forward-block (rule_of k) (under k (line s))) h).sheets in
      strip-cut (ruled-cut k fine.0 (line-cut (rule_of k) s f fine.1 some not-all)) refl refl middle b₁ b₂ h

-- ---- and a pair of sheets
module _ (k : ℕ) (c r : List ℤ) where
  pub joint-back-again :
      {x y m u : List ℤ} {b bs ds : List ℕ} {a : Answer} (z : List ℤ) (d : List ℕ) → JointForward k c r x y b m bs →
      length z ≡ length x → length d ≡ length b → GivesStrip a u ds (ruled k inverse_strip (joint c r) m z d) →
      (a ≡ accepted) × BlocksBack (size c r) x bs u ds
  unfolding joint
  joint-back-again = strip-back (ruled-promises k (joint-plan c r))

  pub joint-there-again :
      {x y m u : List ℤ} {b bs ds : List ℕ} {a : Answer} (z : List ℤ) (d : List ℕ) → JointInverse k c r x y b m bs →
      length z ≡ length x → length d ≡ length b → GivesStrip a u ds (ruled k forward_strip (joint c r) m z d) →
      (a ≡ accepted) × BlocksBack (size c r) x bs u ds
  unfolding joint
  joint-there-again = strip-there (ruled-promises k (joint-plan c r))

  pub joint-within-allowance :
      {x y m : List ℤ} {b bs : List ℕ} (z : List ℤ) {w : List ℤ} → Accepts w (ruled k allowance_call (joint c r) z) →
      JointForward k c r x y b m bs →
      (t : ℕ) → t < length b → get_or bs t 0 ≡ 0 → (e : ℕ) → e < size c r →
      pos (unit * nat_abs ((pos (D (joint c r)) *ℤ at (block (size c r) t m) e) -ℤ at (E (joint c r) (block (size c r) t x)) e)) ≤ℤ
      (pos (D (joint c r)) *ℤ at w e)
  unfolding joint
  joint-within-allowance = strip-near (ruled-promises k (joint-plan c r))

  pub joint-difference :
      {x₁ x₂ x₃ y₁ y₂ y₃ m₁ m₂ m₃ : List ℤ} {b₁ b₂ b₃ bs₁ bs₂ bs₃ : List ℕ} (z : List ℤ) {w : List ℤ} →
      Accepts w (ruled k allowance_call (joint c r) z) → JointForward k c r x₁ y₁ b₁ m₁ bs₁ → JointForward k c r x₂ y₂ b₂ m₂ bs₂ →
      JointForward k c r x₃ y₃ b₃ m₃ bs₃ →
      (t : ℕ) → t < length b₁ → t < length b₂ → t < length b₃ → get_or bs₁ t 0 ≡ 0 → get_or bs₂ t 0 ≡ 0 → get_or bs₃ t 0 ≡ 0 →
      ((e : ℕ) → e < size c r → at (block (size c r) t x₃) e ≡ at (block (size c r) t x₁) e -ℤ at (block (size c r) t x₂) e) →
      (e : ℕ) → e < size c r →
      pos (unit * nat_abs ((at (block (size c r) t m₁) e -ℤ at (block (size c r) t m₂) e) -ℤ at (block (size c r) t m₃) e)) ≤ℤ
      (pos 3 *ℤ at w e)
  unfolding joint
  joint-difference = strip-difference (ruled-promises k (joint-plan c r))

  pub joint-strip-cut :
      (f : ℕ) → 0 < f → f < count c 1 → {x y m u v : List ℤ} {b bs bs₁ bs₂ : List ℕ} {a₁ a₂ : Answer} (middle : List ℤ)
      (b₁ b₂ : List ℕ) → JointForward k c r x y b m bs → length middle ≡ length x → length b₁ ≡ length b → length b₂ ≡ length b →
      GivesStrip a₁ u bs₁ (ruled k forward_strip (joint (cut_front c f) (cut_front r f)) x middle b₁) →
      GivesStrip a₂ v bs₂ (ruled k forward_strip (joint (cut_back c f) (cut_back r f)) u y b₂) →
      (a₁ ≡ accepted) × (a₂ ≡ accepted) × ((t : ℕ) → t < length b → CutBlock (size c r) t y m bs bs₁ v bs₂)
  unfolding joint cut
  joint-strip-cut f some not-all middle b₁ b₂ h =
      let fits = accepted-fits (forward-block (rule_of k) (under k (joint c r))) h in
      let fine = both-fine (rule_checked k) (pair_checked c r) fits.sheets in
      strip-cut (ruled-cut k fine.0 (joint-cut (rule_of k) c r f fine.1 some not-all)) refl refl middle b₁ b₂ h
