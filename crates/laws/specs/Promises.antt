-- WHAT A USER IS PROMISED of the calls of document 01: demands 2 and 3 over any plan, then for a line sheet and for a pair with
-- no hypothesis but that the calls are accepted; refused calls leave memory alone; a reply leaves one answer. Assumes nothing.
use Rattle.std.specs.Prelude.{List, ◌≡◌, refl, ℕ, ◌+◌, ◌*◌, ◌^◌, ◌<◌, ℤ, ◌*ℤ◌, length}
use Rattle.std.proofs.Common.{sym, ap, ◌∙◌, arith, ne_eqb}
use Rattle.std.proofs.lemmas.Bool.{lt-leb}
use Rattle.whole.specs.Stated.{sum}
use Rattle.rules.specs.declared.Answer.{Answer}
use Rattle.rules.specs.Numbers.{unit, unit², at, count}
use Rattle.rules.specs.Factors.{factors}
use Rattle.rules.specs.declared.Rule.{Rule}
use Rattle.rules.specs.Matrices.{product}
use Rattle.rules.specs.Answers.{refused, ◌or_else◌, checked, pair_checked}
use Rattle.rules.specs.Calls.{Reply, Gives, reply, read, write, write_table, Plan, line, joint, run_reply, forward_call, inverse_call}
use Rattle.rules.specs.Calls.{allowance_call, rule_of, under, ruled}
use Rattle.rules.proofs.Laws.Runs.{there_and_back, back-and-there}
use Rattle.rules.proofs.Laws.AllowanceLaw as Near
use Rattle.rules.proofs.Laws.Cuts.{lines-scale, joints-scale}
use Rattle.rules.proofs.Laws.ExactProducts.{exact-of-line, exact-of-joint}
use Rattle.laws.specs.Stated.Calls.{E, D, GoodPlan, Promises, Keeps}
use Rattle.laws.specs.Accepted.{accepted-read, pair_read}
use Rattle.laws.specs.Sound.{sheet-sound, sheets-match, factors-length, counts-agree}
use Rattle.laws.specs.Plans.{line-plan, joint-plan, forward-length, inverse-length, forward-gives, inverse-gives}
use Rattle.laws.specs.Plans.{allowance-gives, under-plan}

module _ (rule : Rule) {p : Plan} (plan : GoodPlan p) where
  pub promised : Promises rule p
  promised = record {
    back-again = λ x z l f.
        let a = (forward-gives rule p x f.lent _).0 f.gives in
        let h = there_and_back rule (plan.good a.1.sheets) x _ (omega arith) a.1.gives in
        let n = forward-length rule p.size p.stages x _ a.1.gives in
        (inverse-gives rule p _ z x).1 (n ∙ a.0, record { sheets = a.1.sheets; output = l; gives = h });
    there-again = λ y z l f.
        let a = (inverse-gives rule p y f.lent _).0 f.gives in
        let h = back-and-there rule (plan.good a.1.sheets) y _ (omega arith) a.1.gives in
        let n = inverse-length rule p.size p.stages y _ a.1.gives in
        (forward-gives rule p _ z y).1 (n ∙ a.0, record { sheets = a.1.sheets; output = l; gives = h });
    within-allowance = λ x g f e i.
        let a = (forward-gives rule p x f.lent _).0 f.gives in
        let b = (allowance-gives rule p g.lent _).0 g.gives in
        Near.within-allowance rule (plan.good b.sheets) _ b.gives x _ (omega arith) a.1.gives e i;
    difference = λ x z u less g fx fz fu e i.
        let b = (allowance-gives rule p g.lent _).0 g.gives in
        let ax = (forward-gives rule p x fx.lent _).0 fx.gives in
        let az = (forward-gives rule p z fz.lent _).0 fz.gives in
        let au = (forward-gives rule p u fu.lent _).0 fu.gives in
        Near.difference rule (plan.good b.sheets) _ b.gives
        (record { long-x = omega arith; long-z = omega arith; long-u = omega arith; less = less }) _ _ _
        ax.1.gives az.1.gives au.1.gives e i;
  }

-- a line sheet, and a pair of sheets: no other hypothesis
pub line-promises : (rule : Rule) (s : List ℤ) → Promises rule (line s)
line-promises rule s = promised rule (line-plan s)

pub joint-promises : (rule : Rule) (c r : List ℤ) → Promises rule (joint c r)
joint-promises rule c r = promised rule (joint-plan c r)

-- by the number of a rule, over any good plan; E and D are those of the plan, whatever the rule
pub ruled-promises : (k : ℕ) {p : Plan} → GoodPlan p → Promises (rule_of k) (under k p)
ruled-promises k g = promised (rule_of k) (under-plan k g)

-- request R-5: "16 for a rule not 0, 1 or 2, place 0, before all others", whatever the sheets are and whatever is lent
module _ (k : ℕ) (p : Plan) (none : 2 < k) where
  pub forward-none : (x y : List ℤ) → Gives (refused 16 0 0) y (ruled k forward_call p x y)
  unfolding forward_call run_reply reply ◌or_else◌
  forward-none x y = rw (lt-leb k 2 none) (refl, refl)

  pub inverse-none : (x y : List ℤ) → Gives (refused 16 0 0) y (ruled k inverse_call p x y)
  unfolding inverse_call run_reply reply ◌or_else◌
  inverse-none x y = rw (lt-leb k 2 none) (refl, refl)

  pub allowance-none : (y : List ℤ) → Gives (refused 16 0 0) y (ruled k allowance_call p y)
  unfolding allowance_call reply ◌or_else◌
  allowance-none y = rw (lt-leb k 2 none) (refl, refl)

-- "Exact products": E is the product of the factors' matrices, and in two dimensions "A·X·B-transposed"
pub line-product : (s : List ℤ) → (checked s).number ≡ 0 → (x : List ℤ) → length x ≡ count s 0 → (m : ℕ) → m < count s 0 →
    at (E (line s) x) m ≡ sum (count s 0) (λ k. product (count s 0) (factors s) m k *ℤ at x k)
unfolding line
line-product s h x long m l = exact-of-line (sheet-sound (accepted-read s h)) x (omega arith) m l

pub joint-product : (c r : List ℤ) → (pair_checked c r).number ≡ 0 → (x : List ℤ) → length x ≡ count c 0 * count r 0 →
    (i j : ℕ) → i < count c 0 → j < count r 0 →
    at (E (joint c r) x) (i * count r 0 + j) ≡
    sum (count c 0) (λ l. sum (count r 0) (λ k.
    (product (count c 0) (factors c) i l *ℤ product (count r 0) (factors r) j k) *ℤ at x (l * count r 0 + k)))
unfolding joint
joint-product c r h x long i j a b =
    let p = pair_read c r h in
    exact-of-joint (sheets-match p.0 p.1 p.2) x (omega arith) i j a b

-- "D = 4096^K or 4096^(2K)"
pub line-scale : (s : List ℤ) → D (line s) ≡ unit ^ count s 1
unfolding line factors
line-scale s = lines-scale (count s 0) (factors s) ∙ ap (λ (k : ℕ). unit ^ k) (factors-length s (count s 0) (count s 1) 2)

pub joint-scale : (c r : List ℤ) → (pair_checked c r).number ≡ 0 → D (joint c r) ≡ unit² ^ count c 1
unfolding joint factors
joint-scale c r h =
    let m = factors-length c (count c 0) (count c 1) 2 in
    let n = factors-length r (count r 0) (count r 1) 2 in
    let e = counts-agree c r (pair_read c r h).2 in
    joints-scale (count c 0) (count r 0) (factors c) (factors r) (m ∙ sym (n ∙ e)) ∙ ap (λ (k : ℕ). unit² ^ k) m

-- ---- "Refused calls leave lent memory untouched"
pub reply-keeps : {A : Type 0} (a : Answer) (new old : List A) → Keeps (reply a new old) old
unfolding reply
reply-keeps a new old = record { keeps = λ h. rw (ne_eqb a.number 0 h) }

module _ (rule : Rule) (p : Plan) where
  pub forward-keeps : (x y : List ℤ) → Keeps (forward_call rule p x y) y
  unfolding forward_call run_reply
  forward-keeps x y = reply-keeps _ _ y

  pub inverse-keeps : (x y : List ℤ) → Keeps (inverse_call rule p x y) y
  unfolding inverse_call run_reply
  inverse-keeps x y = reply-keeps _ _ y

  pub allowance-keeps : (y : List ℤ) → Keeps (allowance_call rule p y) y
  unfolding allowance_call
  allowance-keeps y = reply-keeps _ _ y

pub read_keeps : (b : List ℕ) (room : List ℤ) → Keeps (read b room) room
unfolding read
read_keeps b room = reply-keeps _ _ room

pub write_keeps : (s : List ℤ) (room : List ℕ) → Keeps (write s room) room
unfolding write
write_keeps s room = reply-keeps _ _ room

pub table-keeps : (table room : List ℤ) → Keeps (write_table table room) room
unfolding write_table
table-keeps table room = reply-keeps _ _ room

-- ---- "the statement about its result leaves one answer and one state of lent memory"
pub one_answer : {A : Type 0} {a b : Answer} {m n : List A} (q : Reply A) → Gives a m q → Gives b n q → (a ≡ b) × (m ≡ n)
one_answer q g h = (g.0 ∙ sym h.0, g.1 ∙ sym h.1)
