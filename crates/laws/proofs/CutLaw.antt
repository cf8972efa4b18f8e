-- THE CUT LAW of document 01 ("Allowance", its last sentence): a forward call of an accepted recipe is two calls, of its first f
-- factors and of the others, with a slice of the block's length between them. For line sheets, and for pairs. Assumes nothing.
use Rattle.std.specs.Prelude.{List, ◌≡◌, refl, ℕ, ◌-◌, ◌*◌, ◌<◌, ℤ, length}
use Rattle.std.proofs.Common.{sym, ap, ◌∙◌, arith}
use Rattle.rules.specs.declared.Answer.{Answer}
use Rattle.rules.specs.Numbers.{count}
use Rattle.rules.specs.Factors.{factors}
use Rattle.rules.specs.declared.Rule.{Rule}
use Rattle.rules.specs.Stages.{Ran, done, beyond, later, run_forward}
use Rattle.rules.specs.Shapes.{line_stages, joint_stages}
use Rattle.rules.specs.Answers.{accepted, checked, matching, pair_checked}
use Rattle.rules.specs.Calls.{Reply, reply, Plan, line, joint, ran_answer, ran_memory, forward_call, rule_of, rule_checked, under}
use Rattle.rules.proofs.Laws.Runs.{follow, cut-forward}
use Rattle.rules.proofs.Laws.Cuts.{lines-append, lines-count, joints-append, joints-count}
use Rattle.laws.specs.Stated.Cuts.{farther, in_two, CutLaw, cut, cut_front, cut_back}
use Rattle.laws.specs.Accepted.{Accepted, accepted-read, checked-accepted, pair_read, pair-accepted}
use Rattle.laws.specs.Sound.{sheets-match, counts-agree}
use Rattle.laws.specs.Cut.{cut-factors-count, cut-match, front-accepted, back-accepted, cut-factors}
use Rattle.laws.specs.SameStages.{stages-run, lines_same, joints-same}
use Rattle.laws.specs.AnswersInTurn.{ran_reply}
use Rattle.laws.specs.Plans.{run-ready, forward-length, under-fine}

-- ---- a call whose sheets and slices are right replies what its run gives
ready : (rule : Rule) (p : Plan) (x y : List ℤ) → p.sheets.number ≡ 0 → length x ≡ p.size → length y ≡ p.size →
    forward_call rule p x y ≡ ran_reply 11 (run_forward rule p.size p.stages x) y
unfolding forward_call
ready rule p x y = run-ready p (run_forward rule p.size p.stages x) x y

second-later : (f : ℕ) (r : Ran) (y : List ℤ) → ran_reply 11 (later f r) y ≡ farther f (ran_reply 11 r y)
unfolding later farther reply ran_answer ran_memory
second-later f (done v) y = refl
second-later f (beyond s e) y = refl

two_runs : (f : ℕ) (r : Ran) (next : List ℤ → Ran) (second : List ℤ → Reply ℤ) (middle y : List ℤ) →
    ((v : List ℤ) → r ≡ done v → second v ≡ ran_reply 11 (next v) y) →
    ran_reply 11 (follow f r next) y ≡ in_two f (ran_reply 11 r middle) second y
unfolding follow in_two reply ran_answer ran_memory
two_runs f (done v) next second middle y h = second-later f (next v) y ∙ ap (farther f) (sym (h v refl))
two_runs f (beyond s e) next second middle y h = refl

-- ---- plans whose runs follow each other
module _
    (rule : Rule) (p front back : Plan) (f : ℕ) (whole : p.sheets.number ≡ 0)
    (first : front.sheets ≡ accepted) (second : back.sheets ≡ accepted)
    (a : front.size ≡ p.size) (b : back.size ≡ p.size)
    (runs :
    (x : List ℤ) → run_forward rule p.size p.stages x
    ≡ follow f (run_forward rule front.size front.stages x) (run_forward rule back.size back.stages)) where
  pub plans-cut : CutLaw rule p front back f
  plans-cut = record {
    first = first;
    second = second;
    same = λ x middle y l m n.
        let r = run_forward rule front.size front.stages x in
        let g = two_runs f r (run_forward rule back.size back.stages) (λ u. forward_call rule back u y) middle y
        (λ v h.
        let k = forward-length rule front.size front.stages x v h in
        ready rule back v y (ap (λ (z : Answer). z.number) second) (k ∙ l ∙ sym b) (n ∙ sym b)) in
        rw (
          ready rule p x y whole l n,
          runs x,
          ready rule front x middle (ap (λ (z : Answer). z.number) first) (l ∙ sym a)
              (m ∙ sym a),
        ) g;
  }

-- ---- a line sheet
line-runs :
    (rule : Rule) {s : List ℤ} → Accepted s → (f : ℕ) → 0 < f → f < count s 1 → (x : List ℤ) →
    run_forward rule (count s 0) (line_stages (count s 0) (factors s)) x
    ≡ follow f (run_forward rule (count s 0) (line_stages (count s 0) (factors (cut_front s f))) x)
    (run_forward rule (count s 0) (line_stages (count s 0) (factors (cut_back s f))))
line-runs rule {s} a f some not-all x =
    let n = count s 0 in
    let e = lines-count n (factors (cut_front s f)) ∙ cut-factors-count a 0 f some (omega arith) in
    stages-run (lines_same rule (cut-factors a f some not-all)) x
    ∙ rw (lines-append n (factors (cut_front s f)) (factors (cut_back s f)), cut-forward rule n, e)

pub line-cut :
    (rule : Rule) (s : List ℤ) (f : ℕ) → (checked s).number ≡ 0 → 0 < f → f < count s 1 →
    CutLaw rule (line s) (line (cut_front s f)) (line (cut_back s f)) f
unfolding line cut
line-cut rule s f h some not-all =
    let a = accepted-read s h in
    plans-cut rule (line s) (line (cut_front s f)) (line (cut_back s f)) f h
    (checked-accepted (front-accepted a f some not-all)) (checked-accepted (back-accepted a f some not-all)) refl refl
    (line-runs rule a f some not-all)

-- ---- a pair of sheets, both cut at the same position
module _
    (rule : Rule) {c r : List ℤ} (a : Accepted c) (b : Accepted r) (match : (matching c r).number ≡ 0)
    (f : ℕ) (some : 0 < f) (not-all : f < count c 1) where
  not-all-rows : f < count r 1
  not-all-rows = omega (arith, counts-agree c r match)

  front-pair : pair_checked (cut_front c f) (cut_front r f) ≡ accepted
  front-pair =
      pair-accepted (front-accepted a f some not-all) (front-accepted b f some not-all-rows)
      (cut-match a b match 0 f some (omega arith))

  back-pair : pair_checked (cut_back c f) (cut_back r f) ≡ accepted
  back-pair =
      pair-accepted (back-accepted a f some not-all) (back-accepted b f some not-all-rows)
      (rw (counts-agree c r match) (cut-match a b match f (count c 1 - f) (omega arith) (omega arith)))

  joint-runs :
      (x : List ℤ) → run_forward rule (count c 0 * count r 0) (joint_stages (count c 0) (count r 0) (factors c) (factors r)) x
      ≡ follow f
      (run_forward rule (count c 0 * count r 0)
      (joint_stages (count c 0) (count r 0) (factors (cut_front c f)) (factors (cut_front r f))) x)
      (run_forward rule (count c 0 * count r 0)
      (joint_stages (count c 0) (count r 0) (factors (cut_back c f)) (factors (cut_back r f))))
  joint-runs x =
      let m = cut-factors-count a 0 f some (omega arith) in
      let l = m ∙ sym (cut-factors-count b 0 f some (omega (arith, not-all-rows))) in
      stages-run (joints-same rule (sheets-match a b match) (cut-factors a f some not-all) (cut-factors b f some not-all-rows)) x
      ∙ rw (
        joints-append (count c 0) (count r 0) (factors (cut_front c f)) (factors (cut_front r f)) _ _ l,
        cut-forward rule (count c 0 * count r 0),
        joints-count (count c 0) (count r 0) (factors (cut_front c f)) (factors (cut_front r f)) l,
        m,
      )

pub joint-cut :
    (rule : Rule) (c r : List ℤ) (f : ℕ) → (pair_checked c r).number ≡ 0 → 0 < f → f < count c 1 →
    CutLaw rule (joint c r) (joint (cut_front c f) (cut_front r f)) (joint (cut_back c f) (cut_back r f)) f
unfolding joint cut
joint-cut rule c r f h some not-all =
    let a = pair_read c r h in
    plans-cut rule (joint c r) (joint (cut_front c f) (cut_front r f)) (joint (cut_back c f) (cut_back r f)) f h
    (front-pair rule a.0 a.1 a.2 f some not-all) (back-pair rule a.0 a.1 a.2 f some not-all) refl refl
    (joint-runs rule a.0 a.1 a.2 f some not-all)

-- ---- by the number of a rule, of the whole and of both parts
pub ruled-cut :
    (k : ℕ) {p front back : Plan} {f : ℕ} → (rule_checked k).number ≡ 0 → CutLaw (rule_of k) p front back f →
    CutLaw (rule_of k) (under k p) (under k front) (under k back) f
ruled-cut k {p} {front} {back} h c = rw (under-fine k p h, under-fine k front h, under-fine k back h) c
