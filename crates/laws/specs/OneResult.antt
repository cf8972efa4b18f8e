-- THE ANSWER TELLS THE RESULT: two results of a call with one answer are one result, so a contract that fixes the answer fixes the
-- result. Assumes nothing.
use Rattle.std.specs.Prelude.{Result, Ok, Err, cond, eqb, List, ◌≡◌, ℕ, ℤ}
use Rattle.std.proofs.Common.{sym, ap, ◌∙◌, refl}
use Rattle.rules.specs.declared.Fault.{Fault}
use Rattle.rules.specs.declared.Fault.TheVariants.{Ended, Order, Count, Kind, Place, Repeated, Sign, Entry, Leftover, Length}
use Rattle.rules.specs.declared.Fault.TheVariants.{Sample, Mismatch, Allowance, Spelling, Room, Rule}
use Rattle.rules.specs.declared.Side.{Side}
use Rattle.rules.specs.declared.Side.TheVariants.{First, Second}
use Rattle.rules.specs.declared.Refusal.{Refusal}
use Rattle.rules.specs.declared.Answer.{Answer}
use Rattle.rules.specs.Results.{fault_number, side_number, refused_for, answered, count_answered}
use Rattle.rules.specs.Calls.{Reply, Gives}
use Rattle.rules.specs.Strips.{StripReply, GivesStrip}
use Rattle.laws.specs.Results.{some-fault}

-- the fault of a number, and the side
fault_by : ℕ → Fault
fault_by k =
    cond (eqb k 1) Ended (cond (eqb k 2) Order (cond (eqb k 3) Count (cond (eqb k 4) Kind (cond (eqb k 5) Place
    (cond (eqb k 6) Repeated (cond (eqb k 7) Sign (cond (eqb k 8) Entry (cond (eqb k 9) Leftover (cond (eqb k 10) Length
    (cond (eqb k 11) Sample (cond (eqb k 12) Mismatch (cond (eqb k 13) Allowance (cond (eqb k 14) Spelling
    (cond (eqb k 15) Room Rule))))))))))))))

side_by : ℕ → Side
side_by k = cond (eqb k 0) First Second

fault_back : (f : Fault) → fault_by (fault_number f) ≡ f
unfolding fault_by
fault_back Ended = refl
fault_back Order = refl
fault_back Count = refl
fault_back Kind = refl
fault_back Place = refl
fault_back Repeated = refl
fault_back Sign = refl
fault_back Entry = refl
fault_back Leftover = refl
fault_back Length = refl
fault_back Sample = refl
fault_back Mismatch = refl
fault_back Allowance = refl
fault_back Spelling = refl
fault_back Room = refl
fault_back Rule = refl

side_back : (s : Side) → side_by (side_number s) ≡ s
unfolding side_by
side_back First = refl
side_back Second = refl

-- a refusal from its answer
refusal_by : Answer → Refusal
refusal_by a = record { fault = fault_by a.number; side = side_by a.side; place = a.place; element = a.element }

refusal_back : (r : Refusal) → refusal_by (refused_for r) ≡ r
unfolding refusal_by
refusal_back r = rw (fault_back r.fault, side_back r.side)

-- one answer, one refusal
pub one-refusal : (r q : Refusal) → refused_for r ≡ refused_for q → r ≡ q
one-refusal r q e = sym (refusal_back r) ∙ ap refusal_by e ∙ refusal_back q

-- of a call that gives nothing but what it writes
pub one-result : (r q : Result (Unit {0}) Refusal) → answered r ≡ answered q → r ≡ q
one-result (Ok x) (Ok y) e = refl
one-result (Ok x) (Err q) e = absurd (some-fault q.fault (sym (ap (λ (a : Answer). a.number) e)))
one-result (Err r) (Ok y) e = absurd (some-fault r.fault (ap (λ (a : Answer). a.number) e))
one-result (Err r) (Err q) e = ap (λ (x : Refusal). Err x) (one-refusal r q e)

-- of a call that counts what it writes
pub one-count : (r q : Result ℕ Refusal) → count_answered r ≡ count_answered q → r ≡ q
one-count (Ok n) (Ok m) e = ap (λ (x : ℕ). Ok x) (ap (λ (a : Answer). a.place) e)
one-count (Ok n) (Err q) e = absurd (some-fault q.fault (sym (ap (λ (a : Answer). a.number) e)))
one-count (Err r) (Ok m) e = absurd (some-fault r.fault (ap (λ (a : Answer). a.number) e))
one-count (Err r) (Err q) e = ap (λ (x : Refusal). Err x) (one-refusal r q e)

-- ---- one result and one state of lent memory are left by a contract, refusals too: of every call but `rest`, which has no result
-- `check` and `check_pair`: a is what the definition answers
pub one-checked : {a : Answer} (r q : Result (Unit {0}) Refusal) → answered r ≡ a → answered q ≡ a → r ≡ q
one-checked r q g h = one-result r q (g ∙ sym h)

-- the runs and the allowances: p is what the definition gives
pub one-given :
    (r q : Result (Unit {0}) Refusal) {m n : List ℤ} (p : Reply ℤ) → Gives (answered r) m p → Gives (answered q) n p →
    (r ≡ q) × (m ≡ n)
one-given r q p g h = (one-result r q (g.0 ∙ sym h.0), g.1 ∙ sym h.1)

-- the calls on recipes
pub one-counted :
    {A : Type 0} (r q : Result ℕ Refusal) {m n : List A} (p : Reply A) → Gives (count_answered r) m p →
    Gives (count_answered q) n p → (r ≡ q) × (m ≡ n)
one-counted r q p g h = (one-count r q (g.0 ∙ sym h.0), g.1 ∙ sym h.1)

-- strips: the bytes too
pub one-given-strip :
    (r q : Result (Unit {0}) Refusal) {m n : List ℤ} {b c : List ℕ} (p : StripReply) → GivesStrip (answered r) m b p →
    GivesStrip (answered q) n c p → (r ≡ q) × (m ≡ n) × (b ≡ c)
one-given-strip r q p g h = (one-result r q (g.0 ∙ sym h.0), g.1 ∙ sym h.1, g.2 ∙ sym h.2)
