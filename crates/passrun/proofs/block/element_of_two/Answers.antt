-- The stages before the refused one pass once more: in the first pass (`one-named`), or all of it (`done-passes`) and some of the
-- second (`second-named`). The search names the element of that stage.
use Rattle.std.proofs.Common.{true, ◌≡◌, refl, ◌∙◌, arith, ◌+◌, ◌-◌, ◌≤◌, ◌<◌}
use Rattle.factor.specs.Outcomes.{outcome_of}
use Rattle.factor.specs.StageLoops.{Refused}
use Rattle.laws.specs.Accepted.{accepted-order}
use Rattle.passrun.specs.BlockRuns.{OneDone, TurnedDone, one_lines, two_size, other}
use Rattle.passrun.specs.EndLaws.{Later, first-asks, first-refused, second-small, second-named, other-not, one-stages}
use Rattle.passrun.specs.EndLaws.{turned-stages, named-same, ends_at, done-same}
use Rattle.passrun.specs.Laid.{laid}
use Rattle.passrun.specs.OneLaws.{one-done, one-small, one-named}
use Rattle.passrun.specs.PassRuns.{pass_run, done-passes}
use Rattle.rules.specs.Numbers.{count}
use Rattle.passrun.proofs.block.element_of_two.Goals as goal
use Rattle.passrun.proofs.block.element_of_two.Goals.{After-run_turned, Else-t-k, Then-t-k}

pub run_one_pass-requires : goal.run_one_pass-requires
run_one_pass-requires c = (
  rw c.order-m.ensures (first-asks c.args.columns c.args.run c.requires.0 c.args.second.now.faultless),
  omega (arith, c.min.ensures, c.many-k.ensures),
  c.requires.1,
)

-- ---- refused in the first pass
early : (c : Then-t-k) → let a = c.args in
    OneDone a.columns a.run a.first.now.numbers.now (count a.second.now.numbers.now 0) a.x.now (a.stage - 1)
    (outcome_of c.run_one_pass.result) c.run_one_pass.new.b
early c =
    let l = c.if-t-k.true in
    one-stages c.order-m.ensures (omega (arith, c.min.ensures)) c.run_one_pass.ensures

here : (c : Then-t-k) → c.args.stage ≤ count c.args.first.now.numbers.now 1
here c = let l = c.if-t-k.true in omega (arith, c.many-k.ensures)

next : (c : Then-t-k) → c.args.stage ≡ c.args.stage - 1 + 1
next c = let l = c.requires.2.some in omega arith

pub element_in_pass-requires : goal.element_in_pass-requires
element_in_pass-requires c =
    let t = (goal.at.element_in_pass-requires c).Then-t-k in
    let o = accepted-order c.args.second.now.faultless in
    let l = here t in (
      rw c.order-m.ensures o.least,
      rw c.order-m.ensures o.most,
      omega (arith, c.requires.2.some),
      one-small (early t) (c.requires.2.early l) (next t),
      (early t).wide,
    )

pub returns-then-t-k : goal.returns-then-t-k
returns-then-t-k c =
    let t = (goal.at.returns-then-t-k c).Then-t-k in
    let a = c.args in
    let s = a.first.now.numbers.now in
    ends_at
    (first-refused (count s 1) _ (one-named (early t) (c.requires.2.early (here t)) (next t) (here t)))
    refl
    (c.element_in_pass.ensures ∙ named-same a.run s _ refl c.order-m.ensures refl)

-- ---- refused in the second: the first is done
whole : (c : Else-t-k) → let a = c.args in
    OneDone a.columns a.run a.first.now.numbers.now (count a.second.now.numbers.now 0) a.x.now (count a.first.now.numbers.now 1)
    (outcome_of c.run_one_pass.result) c.run_one_pass.new.b
whole c =
    let l = c.if-t-k.false in
    one-stages c.order-m.ensures (omega (arith, c.min.ensures, c.many-k.ensures)) c.run_one_pass.ensures

over : (c : Else-t-k) → count c.args.first.now.numbers.now 1 < c.args.stage
over c = let l = c.if-t-k.false in let m = c.requires.2.some in omega (arith, c.many-k.ensures)

later : (c : Else-t-k) → let a = c.args in
    Later a.columns a.run a.first.now.numbers.now a.second.now.numbers.now a.x.now a.stage
later c = c.requires.2.late (over c)

passed : (c : Else-t-k) → (outcome_of c.run_one_pass.result).ok ≡ true
passed c = done-passes (whole c).reached (later c).first

refused : (c : Else-t-k) → let a = c.args in let s = a.first.now.numbers.now in let z = a.second.now.numbers.now in
    Refused (pass_run a.run (two_size a.columns s z) (one_lines (other a.columns) (count s 0) z) z
    (laid (two_size a.columns s z) (one_lines a.columns (count z 0) s) c.run_one_pass.new.b)) (a.stage - count s 1)
refused c = rw (done-same (later c).first (one-done (whole c) refl (passed c))) at (later c).second

pub run_turned-requires : goal.run_turned-requires
run_turned-requires c =
    let e = (goal.at.run_turned-requires c).Else-t-k in
    let m = c.requires.2.most in (
      rw c.order-n.ensures (accepted-order c.args.first.now.faultless).most,
      omega (arith, c.many-k.ensures),
      (whole e).small (passed e),
      (whole e).wide,
    )

-- its turn, counted from the second pass
second : (q : After-run_turned) → let a = q.args in
    TurnedDone a.run a.second.now.numbers.now (count a.first.now.numbers.now 0) (a.stage - 1 - count a.first.now.numbers.now 1)
    q.run_one_pass.new.b (outcome_of q.run_turned.result) q.run_turned.new.b
second q = turned-stages q.order-n.ensures (omega (arith, q.many-k.ensures)) q.run_turned.ensures

after : (c : Else-t-k) → let a = c.args in let k = count a.first.now.numbers.now 1 in a.stage - k ≡ a.stage - 1 - k + 1
after c = let l = over c in omega arith

pub element_in_pass-requires-2 : goal.element_in_pass-requires-2
element_in_pass-requires-2 c =
    let e = (goal.at.element_in_pass-requires-2 c).Else-t-k in
    let q = (goal.at.element_in_pass-requires-2 c).After-run_turned in
    let a = c.args in
    let o = accepted-order a.first.now.faultless in
    let m = c.requires.2.most in
    let l = over e in (
      rw c.order-n.ensures o.least,
      rw c.order-n.ensures o.most,
      omega (arith, c.many-k.ensures),
      second-small a.columns a.run c.requires.0 (one-done (whole e) refl (passed e)) ((whole e).small (passed e)) (second q)
          (refused e) (after e),
      c.run_turned.ensures.wide,
    )

pub returns : goal.returns
returns c =
    let e = (goal.at.returns c).Else-t-k in
    let a = c.args in
    let m = c.requires.2.most in
    let l = over e in
    ends_at
    (second-named a.columns a.run c.requires.0 (one-done (whole e) refl (passed e)) ((whole e).small (passed e))
    (second (goal.at.returns c).After-run_turned) (refused e) (after e) (omega arith))
    (omega arith)
    (c.element_in_pass-2.ensures
    ∙ named-same a.run a.second.now.numbers.now _ (other-not a.columns) c.order-n.ensures (omega (arith, c.many-k.ensures)))
