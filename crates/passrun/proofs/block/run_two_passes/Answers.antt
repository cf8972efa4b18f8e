-- The first pass; refused there (`ended-first`), or through the second (`ended-second`).
use Rattle.std.proofs.Common.{rules, true, false, ◌≡◌, Result, Ok, Err, refl, sym, ap, ◌∙◌, le_refl, arith, ℕ, ◌+◌, ◌<◌}
use Rattle.std.proofs.iter.Serving.{serving}
use Rattle.std.specs.Result.{is_ok}
use Rattle.factor.specs.Outcomes.{Outcome, outcome_of}
use Rattle.factor.specs.declared.run.Stopped.{Stopped}
use Rattle.laws.specs.Accepted.{accepted-order, accepted-count}
use Rattle.laws.specs.Results.{passed}
use Rattle.laws.specs.Tests.{apart}
use Rattle.passrun.specs.BlockRuns.{OneDone}
use Rattle.passrun.specs.EndLaws.{TwoEnded, first-asks, ended-first, ended-second, one-stages, turned-stages}
use Rattle.passrun.specs.OneLaws.{one-done}
use Rattle.rules.specs.Numbers.{count}
use Rattle.passrun.proofs.block.run_two_passes.Goals as goal
use Rattle.passrun.proofs.block.run_two_passes.Goals.{After-run_turned, In_ok-run_one_pass}

pub run_one_pass-requires : goal.run_one_pass-requires
run_one_pass-requires c = (
  rw c.order.ensures (first-asks c.args.columns c.args.run c.requires.0 c.args.second.now.faultless),
  rw c.many-k.ensures (le_refl (count c.args.first.now.numbers.now 1)),
  c.requires.1,
)

pub returns-in_err-run_one_pass : goal.returns-in_err-run_one_pass
returns-in_err-run_one_pass c =
    rw (passed c.from_residual.ensures.1)
    (ended-first c.args.columns c.args.run c.requires.0 refl
    (one-stages c.order.ensures c.many-k.ensures c.in_err-run_one_pass.ensures))

-- the first pass is done
ended : (c : In_ok-run_one_pass) → let a = c.args in
    OneDone a.columns a.run a.first.now.numbers.now (count a.second.now.numbers.now 0) a.x.now (count a.first.now.numbers.now 1)
    (record { ok = true; stage = 0 }) c.run_one_pass.new.b
ended c = one-stages c.order.ensures c.many-k.ensures c.in_ok-run_one_pass.ensures

pub run_turned-requires : goal.run_turned-requires
run_turned-requires c =
    let e = ended (goal.at.run_turned-requires c).In_ok-run_one_pass in (
      rw c.order-2.ensures (accepted-order c.args.first.now.faultless).most,
      rw c.many.ensures (le_refl (count c.args.second.now.numbers.now 1)),
      e.small refl,
      e.wide,
    )

-- both passes
both : (c : After-run_turned) → let a = c.args in
    (last : Outcome) → last.ok ≡ (outcome_of c.run_turned.result).ok →
    ((outcome_of c.run_turned.result).ok ≡ false →
    last.stage ≡ count a.first.now.numbers.now 1 + (outcome_of c.run_turned.result).stage) →
    TwoEnded a.columns a.run a.first.now.numbers.now a.second.now.numbers.now a.x.now last c.run_turned.new.b
both c last o z =
    let e = one-stages c.order.ensures c.many-k.ensures c.in_ok-run_one_pass.ensures in
    ended-second c.args.columns c.args.run c.requires.0 (one-done e refl refl) (e.small refl)
    (turned-stages c.order-2.ensures c.many.ensures c.run_turned.ensures) refl {last = last} o z

-- no more stages than both sheets have
few : (c : After-run_turned) (e : Stopped) → c.run_turned.result ≡ Err e → c.many-k.result + e.stage < 18446744073709551616
few c e q =
    let last : Outcome = record { ok = false; stage = count c.args.first.now.numbers.now 1 + e.stage } in
    let b = both c last (rw q) (λ w. rw q) in
    let m = (b.stops refl).most in
    let u = (accepted-count c.args.first.now.faultless).most in
    let v = (accepted-count c.args.second.now.faultless).most in
    omega (arith, c.many-k.ensures)

pub map_err-requires : goal.map_err-requires
map_err-requires c =
    let small = few (goal.at.map_err-requires c).After-run_turned in
    grind (serving, arith, small)

-- an end that is counted from k stages before
ok_of : (r : Result (Unit {0}) Stopped) → (outcome_of r).ok ≡ is_ok r
ok_of (Ok x) = refl
ok_of (Err e) = refl

stage_later : (r q : Result (Unit {0}) Stopped) (k : ℕ) →
    ((e : Stopped) → r ≡ Err e → q ≡ Err (record { stage = k + e.stage })) → (outcome_of r).ok ≡ false →
    (outcome_of q).stage ≡ k + (outcome_of r).stage
stage_later (Ok x) q k h n = apart n
stage_later (Err e) q k h n = ap (λ (z : Result (Unit {0}) Stopped). (outcome_of z).stage) (h e refl)

pub returns : goal.returns
returns c =
    let moved : (e : Stopped) → c.run_turned.result ≡ Err e →
    c.map_err.result ≡ Err (record { stage = c.many-k.result + e.stage }) = λ e q. search rules in
    let r = c.run_turned.result in
    both (goal.at.returns c).After-run_turned (outcome_of c.map_err.result)
    (ok_of c.map_err.result ∙ c.map_err.ensures.variant ∙ sym (ok_of c.run_turned.result))
    (λ n. stage_later c.run_turned.result c.map_err.result c.many-k.result moved n
    ∙ ap (λ (k : ℕ). k + (outcome_of r).stage) c.many-k.ensures)
