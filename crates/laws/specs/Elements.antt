-- THE ELEMENT OF AN ANSWER, request R-7: with 11 it is the first along the order of the stage whose number lies beyond the bound;
-- "It is 0 in every other answer". Assumes nothing.
use Rattle.std.specs.Prelude.{Bool, cond, eqb, leb, ℤ, nat_abs, length, take}
use Rattle.std.proofs.Math.Bool.{true, false}
use mathlib.Core.List.{List, [], ◌∷◌}
use Rattle.std.proofs.Math.Path.{◌≡◌, refl, sym}
use Rattle.std.proofs.Common.{ap, ◌∙◌, le-leb}
use Prim.Native.Nat.{ℕ, zero, suc, ◌+◌, ◌/◌, ◌%◌, ◌≤◌, ◌<◌}
use Rattle.std.proofs.Math.Decide.{ℕ_discrete, dec_le}
use native.Mathlib.Omega.{arith}
use Rattle.std.proofs.lemmas.Bool.{lt-leb}
use Rattle.rules.specs.declared.Answer.{Answer}
use Rattle.rules.specs.Marks.{Mark}
use Rattle.rules.specs.declared.Rule.{Rule}
use Rattle.rules.specs.Numbers.{most_order, bound, most_allowance, at, count}
use Rattle.rules.specs.Sheets.{reading}
use Rattle.rules.specs.Stages.{inside, up_to, offender, Stage, forward, undo, allow, Ran, done, beyond, later, run, through}
use Rattle.rules.specs.Stages.{recovery, run_forward, run_inverse, run_allowance}
use Rattle.rules.specs.Answers.{◌or_else◌, read_answer, clash, matching, pair_checked}
use Rattle.rules.specs.Calls.{Reply, reply, Plan, line, joint, two_pass, order_checked, column_pass, row_pass, under, sized}
use Rattle.rules.specs.Calls.{ran_answer, run_reply, forward_call, inverse_call, allowance_call, fitting, read, write, write_table}
use Rattle.rules.specs.Recipes.{packed, numbers_of, left_of}
use Rattle.rules.specs.Strips.{StripReply, strip_answer, strip}
use Rattle.rules.specs.GoodStages.{has, Good, AllGood, moves, weighs}
use Rattle.rules.proofs.Laws.Membership.{has-none, has_rest}
use Rattle.rules.proofs.Laws.RecoveryOrder.{those-has}
use Rattle.rules.proofs.Laws.Runs.{run-refused, run_none, run_step, all-reverse}
use Rattle.laws.specs.Stated.Calls.{GoodPlan}
use Rattle.laws.specs.Stated.Elements.{FirstBeyond, order_at, NoElement, Plain, Elements}
use Rattle.laws.specs.Tests.{apart}
use Rattle.laws.specs.Plans.{run-ready}

-- ---- along one order
-- a number beyond the bound, some way along
first-along : (o : List ℕ) (v : List ℤ) (k : ℕ) → has k o ≡ true → bound < nat_abs (at v k) → FirstBeyond o v (offender bound o v)
unfolding offender
first-along [] v k h b = absurd (has-none k h)
first-along (e ∷ o) v k h b = split (λ m. first-along o v k m b) (dec_le (nat_abs (at v e)) bound)
  where
    more : nat_abs (at v e) ≤ bound → FirstBeyond o v (offender bound o v) → FirstBeyond (e ∷ o) v (offender bound o v)
    more l f = record {
      before = e ∷ f.before;
      after = f.after;
      splits = ap (λ (r : List ℕ). e ∷ r) f.splits;
      beyond = f.beyond;
      within = λ i m. go i m (ℕ_discrete i e);
    }
      where
        go : (i : ℕ) → has i (e ∷ f.before) ≡ true → Dec (i ≡ e) → nat_abs (at v i) ≤ bound
        go i m (yes q) = rw q l
        go i m (no q) = f.within i (sym (has_rest i e f.before q) ∙ m)

    split : (has k o ≡ true → FirstBeyond o v (offender bound o v)) → Dec (nat_abs (at v e) ≤ bound) →
        FirstBeyond (e ∷ o) v (cond (leb (nat_abs (at v e)) bound) (offender bound o v) e)
    split ih (yes l) =
        let other : (k ≡ e) → ⊥ = λ q. let z : bound < nat_abs (at v e) = rw q at b in omega arith in
        rw (le-leb (nat_abs (at v e)) bound l) (more l (ih (sym (has_rest k e o other) ∙ h)))
    split ih (no l) = rw (lt-leb (nat_abs (at v e)) bound (omega arith)) (record {
      before = [];
      after = o;
      splits = refl;
      beyond = omega arith;
      within = λ i m. absurd (has-none i m);
    })

-- an order that has every element of the block
abbrev Whole : ℕ → List ℕ → Type 0
Whole N o = (e : ℕ) → e < N → has e o ≡ true

read_whole : (N : ℕ) → Whole N (up_to N)
read_whole N e l = those-has (λ k. true) N e l refl

recovered-whole : {N : ℕ} {s : Stage} → Good N s → Whole N (recovery N s)
unfolding recovery
recovered-whole {N} (moves c h) e l = read_whole N e l
recovered-whole (weighs c h) e l = h.all e l

-- a block that is refused
first-of-block : (N : ℕ) (o : List ℕ) (v : List ℤ) → Whole N o → inside bound N v ≡ false → FirstBeyond o v (offender bound o v)
unfolding inside
first-of-block zero o v w h = apart h
first-of-block (suc n) o v w h =
    split (λ z. first-of-block n o v (λ e i. w e (omega arith)) z) (dec_le (nat_abs (at v n)) bound)
  where
    split : (inside bound n v ≡ false → FirstBeyond o v (offender bound o v)) → Dec (nat_abs (at v n) ≤ bound) →
        FirstBeyond o v (offender bound o v)
    split ih (yes l) = ih (rw (le-leb (nat_abs (at v n)) bound l) at h)
    split ih (no l) = first-along o v n (w n (omega arith)) (omega arith)

-- ---- along the stages of a run
module _ (N : ℕ) (step : Stage → List ℤ → List ℤ) (look : Stage → List ℕ)
    (whole : (s : Stage) → Good N s → Whole N (look s)) where
  abbrev ran_from : List ℕ → List Stage → List ℤ → Ran
  ran_from o ss v = run (inside bound N) step (λ s. offender bound (look s)) (offender bound o) ss v

  -- what is said of a run that is refused
  abbrev Stopped : List ℕ → List Stage → List ℤ → Type 0
  Stopped o ss v = (t e : ℕ) → ran_from o ss v ≡ beyond t e → FirstBeyond (order_at look o ss t) (through step (take t ss) v) e

  -- refused at the list itself
  stopped-here : (ss : List Stage) (o : List ℕ) → Whole N o → (v : List ℤ) → inside bound N v ≡ false → Stopped o ss v
  unfolding order_at through
  stopped-here ss o w v h t e i =
      let z : beyond 0 (offender bound o v) ≡ beyond t e = sym (run-refused _ _ _ _ ss v h) ∙ i in
      let q : 0 ≡ t = cc in
      let r : offender bound o v ≡ e = cc in
      rw (← q, ← r) (first-of-block N o v w h)

  -- or later
  stopped : {ss : List Stage} → AllGood N ss → (o : List ℕ) → Whole N o → (v : List ℤ) → Stopped o ss v
  unfolding order_at through later
  stopped AllGood.none o w v t e h = go (inside bound N v) refl
    where
      go : (b : Bool) → inside bound N v ≡ b → FirstBeyond (order_at look o [] t) (through step (take t []) v) e
      go true q =
          let z : done v ≡ beyond t e = sym (run_none _ _ _ _ v q) ∙ h in let n : ◌≡◌ {A = ℕ} 0 1 = cc in absurd (omega arith)
      go false q = stopped-here [] o w v q t e h
  stopped (AllGood.more {s} {ss} g a) o w v t e h =
      go (λ i k. stopped a (look s) (whole s g) (step s v) i k) (inside bound N v) refl
    where
      next : Stopped (look s) ss (step s v) → (r : Ran) → ran_from (look s) ss (step s v) ≡ r → later 1 r ≡ beyond t e →
          FirstBeyond (order_at look o (s ∷ ss) t) (through step (take t (s ∷ ss)) v) e
      next ih (done u) q z = let n : ◌≡◌ {A = ℕ} 0 1 = cc in absurd (omega arith)
      next ih (beyond i k) q z =
          let n : 1 + i ≡ t = cc in
          let m : k ≡ e = cc in
          let d : t ≡ suc i = omega arith in
          rw (d, ← m) (ih i k q)

      go : Stopped (look s) ss (step s v) → (b : Bool) → inside bound N v ≡ b →
          FirstBeyond (order_at look o (s ∷ ss) t) (through step (take t (s ∷ ss)) v) e
      go ih true q = next ih (ran_from (look s) ss (step s v)) refl (sym (run_step _ _ _ _ s ss v q) ∙ h)
      go ih false q = stopped-here (s ∷ ss) o w v q t e h

-- in a forward run the order is the same at every stage
read-always : (N : ℕ) (ss : List Stage) (s : ℕ) → order_at (λ (r : Stage). up_to N) (up_to N) ss s ≡ up_to N
unfolding order_at
read-always N ss zero = refl
read-always N [] (suc s) = refl
read-always N (r ∷ ss) (suc s) = read-always N ss s

-- ---- the calls
-- an answer 11 of a run whose sheets and slices are right is that of a stage
run-answer : (p : Plan) (ran : Ran) (x y : List ℤ) → p.sheets.number ≡ 0 → length x ≡ p.size → length y ≡ p.size →
    (run_reply p ran x y).answer.number ≡ 11 →
    ran ≡ beyond (run_reply p ran x y).answer.place (run_reply p ran x y).answer.element
unfolding reply ran_answer
run-answer p (done v) x y h l k n =
    let e = rw (run-ready p (done v) x y h l k) at n in let z : ◌≡◌ {A = ℕ} 0 11 = e in absurd (omega arith)
run-answer p (beyond s e) x y h l k n = rw (run-ready p (beyond s e) x y h l k)

pub plan-elements : (rule : Rule) {p : Plan} → GoodPlan p → Elements rule p
unfolding forward_call inverse_call run_forward run_inverse
plan-elements rule {p} good = record {
  forward-element = λ x y h l k n.
      rw (read-always p.size p.stages _) at
      (stopped p.size (forward rule p.size) (λ s. up_to p.size) (λ s g. read_whole p.size) (good.good h)
      (up_to p.size) (read_whole p.size) x _ _ (run-answer p _ x y h l k n));
  inverse-element = λ x y h l k n.
      stopped p.size (undo rule p.size) (recovery p.size) (λ s g. recovered-whole g) (all-reverse (good.good h))
      (up_to p.size) (read_whole p.size) x _ _ (run-answer p _ x y h l k n);
}

-- ---- "It is 0 in every other answer"
either : (b : Bool) {x y : Answer} → NoElement x → NoElement y → NoElement (cond b x y)
either true h k = h
either false h k = k

turn-none : {a b : Answer} → NoElement a → NoElement b → NoElement (a or_else b)
unfolding ◌or_else◌
turn-none {a} h k = either (eqb a.number 0) k h

turn-plain : {a b : Answer} → NoElement a → Plain b → Plain (a or_else b)
unfolding ◌or_else◌
turn-plain {a} {b} e h = go (eqb a.number 0)
  where
    go : (t : Bool) → Plain (cond t b a)
    go true = h
    go false = record { plain = λ n. e.none }

sized-none : {A : Type 0} (side n : ℕ) (v : List A) → NoElement (sized side n v)
sized-none side n v = either (eqb (length v) n) (record { none = refl }) (record { none = refl })

ran-plain : (r : Ran) → Plain (ran_answer 11 r)
unfolding ran_answer
ran-plain (done v) = record { plain = λ n. refl }
ran-plain (beyond s e) = record { plain = λ n. absurd (n refl) }

-- a run of allowances names none
later-none : (n : ℕ) (r : Ran) → NoElement (ran_answer 13 r) → NoElement (ran_answer 13 (later n r))
unfolding later ran_answer
later-none n (done v) h = h
later-none n (beyond s e) h = record { none = h.none }

tested-none : (b : Bool) (r : Ran) → NoElement (ran_answer 13 r) → NoElement (ran_answer 13 (cond b r (beyond 0 0)))
unfolding ran_answer
tested-none true r h = h
tested-none false r h = record { none = refl }

allowed-none : (ok : List ℤ → Bool) (step : Stage → List ℤ → List ℤ) (ss : List Stage) (v : List ℤ) →
    NoElement (ran_answer 13 (run ok step (λ s u. 0) (λ u. 0) ss v))
unfolding run
allowed-none ok step [] v = tested-none (ok v) (done v) (unfold ran_answer in record { none = refl })
allowed-none ok step (s ∷ ss) v = tested-none (ok v) (later 1 _) (later-none 1 _ (allowed-none ok step ss (step s v)))

-- over any plan whose sheets name none
module _ (rule : Rule) (p : Plan) (sheets : NoElement p.sheets) where
  run-plain : (ran : Ran) (x y : List ℤ) → Plain (run_reply p ran x y).answer
  unfolding run_reply reply
  run-plain ran x y =
      turn-plain sheets (turn-plain (sized-none 0 p.size x) (turn-plain (sized-none 1 p.size y) (ran-plain ran)))

  pub forward-plain : (x y : List ℤ) → Plain (forward_call rule p x y).answer
  unfolding forward_call
  forward-plain x y = run-plain _ x y

  pub inverse-plain : (x y : List ℤ) → Plain (inverse_call rule p x y).answer
  unfolding inverse_call
  inverse-plain x y = run-plain _ x y

  pub allowance-element : (y : List ℤ) → NoElement (allowance_call rule p y).answer
  unfolding allowance_call reply run_allowance
  allowance-element y =
      turn-none sheets
      (turn-none (sized-none 1 p.size y)
      (allowed-none (inside most_allowance p.size) (allow rule p.size) p.stages _))

-- the sheets of a line and of a pair, and 16 before them
pub read_none : (side : ℕ) (m : Mark) → NoElement (read_answer side m)
read_none side m = either (eqb m.number 0) (record { none = refl }) (record { none = refl })

matching-none : (c r : List ℤ) → NoElement (matching c r)
unfolding matching
matching-none c r =
    either (eqb (clash c r) (count c 1))
    (either (eqb (clash c r) (count r 1)) (record { none = refl }) (record { none = refl })) (record { none = refl })

pub pair-none : (c r : List ℤ) → NoElement (pair_checked c r)
unfolding pair_checked
pair-none c r = turn-none (read_none 0 (reading c)) (turn-none (read_none 1 (reading r)) (matching-none c r))

pub line-none : (s : List ℤ) → NoElement (line s).sheets
unfolding line
line-none s = read_none 0 (reading s)

pub joint-none : (c r : List ℤ) → NoElement (joint c r).sheets
unfolding joint
joint-none c r = pair-none c r

-- R-4: the two sheets without 12; a sheet, then the other order
pub two-pass-none : (c r : List ℤ) → NoElement (two_pass c r).sheets
unfolding two_pass
two-pass-none c r = turn-none (read_none 0 (reading c)) (read_none 1 (reading r))

pub order-none : (n : ℕ) → NoElement (order_checked n)
order-none n =
    either (leb 1 n) (either (leb n most_order) (record { none = refl }) (record { none = refl })) (record { none = refl })

pub column-none : (c : List ℤ) (n2 : ℕ) → NoElement (column_pass c n2).sheets
unfolding column_pass
column-none c n2 = turn-none (read_none 0 (reading c)) (order-none n2)

pub row-none : (r : List ℤ) (n1 : ℕ) → NoElement (row_pass r n1).sheets
unfolding row_pass
row-none r n1 = turn-none (read_none 0 (reading r)) (order-none n1)

pub under_none : (k : ℕ) (p : Plan) → NoElement p.sheets → NoElement (under k p).sheets
under_none k p h = turn-none (either (leb k 2) (record { none = refl }) (record { none = refl })) h

-- the reader, the writer and the built-in recipe; a strip
fitting-none : (n room : ℕ) → NoElement (fitting n room)
fitting-none n room = either (leb n room) (record { none = refl }) (record { none = refl })

pub read-element : (b : List ℕ) (room : List ℤ) → NoElement (read b room).answer
unfolding read reply
read-element b room =
    turn-none (either (eqb (length (left_of b)) 0) (record { none = refl }) (record { none = refl }))
    (turn-none (read_none 0 (reading (numbers_of b))) (fitting-none (length (numbers_of b)) (length room)))

pub write-element : (s : List ℤ) (room : List ℕ) → NoElement (write s room).answer
unfolding write reply
write-element s room = turn-none (read_none 0 (reading s)) (fitting-none (length (packed s)) (length room))

pub table-element : (table room : List ℤ) → NoElement (write_table table room).answer
unfolding write_table reply
table-element table room = fitting-none (length table) (length room)

strip-answer : (p : Plan) → NoElement p.sheets → (x y : List ℤ) (b : List ℕ) → NoElement (strip_answer p x y b)
unfolding strip_answer
strip-answer p h x y b =
    turn-none h
    (turn-none (either (eqb (length x % p.size) 0) (record { none = refl }) (record { none = refl }))
    (turn-none (sized-none 1 (length x) y) (sized-none 1 (length x / p.size) b)))

pub strip-element : (p : Plan) → NoElement p.sheets → (call : List ℤ → List ℤ → Reply ℤ) (x y : List ℤ) (b : List ℕ) →
    NoElement (strip p call x y b).answer
unfolding strip
strip-element p h call x y b = go (eqb (strip_answer p x y b).number 0) _ _ (strip-answer p h x y b) (strip-answer p h x y b)
  where
    go : (t : Bool) (q r : StripReply) → NoElement q.answer → NoElement r.answer →
        NoElement (cond {A = StripReply} t q r).answer
    go true q r i k = i
    go false q r i k = k
