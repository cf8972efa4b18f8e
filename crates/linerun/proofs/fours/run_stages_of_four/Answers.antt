-- After t stages the run is that of the stages left (`stage-passes`), and the block is in bound. The run's rule is that of the
-- first test alone (`by_first`), as halves do not go to the even number.
use Rattle.std.proofs.Common.{false, ◌≡◌, refl, sym, subst, ℕ, ◌<◌, arith}
use Rattle.factor.specs.Rounding.{rule_by, by_tests}
use Rattle.factor.specs.StageLoops.{stage-passes, stages-done}
use Rattle.factor.specs.SumBounds.{Bounded}
use Rattle.factor.specs.Tasks.{is_inverse, limit_of, nth_stage, stage-below}
use Rattle.factor.specs.declared.run.Run.{Run}
use Rattle.four.specs.Turns.{stage_on}
use Rattle.laws.specs.Accepted.{FactorRead}
use Rattle.linerun.specs.Fours.{limit_is, stage-steps}
use Rattle.linerun.specs.Runs.{at_stage, line-listed, run-starts}
use Rattle.rules.specs.Answers.{start}
use Rattle.rules.specs.Factors.{factor_at}
use Rattle.rules.specs.Numbers.{bound, count}
use Rattle.rules.specs.Shapes.{line_stage}
use Rattle.linerun.proofs.fours.run_stages_of_four.Goals as goal
use Rattle.linerun.proofs.fours.run_stages_of_four.Goals.{After-is_down-down, In-loop-t, In_ok-v}

-- the run as the loop has it
abbrev G : After-is_down-down → Run
G c = record { task = c.args.run.task; rule = rule_by c.is_down-down.result false }

by_first : (c : After-is_down-down) → rule_by c.is_down-down.result false ≡ c.args.run.rule
by_first c = rw c.is_down-down.ensures (rw c.requires.2 at (by_tests c.args.run.rule))

pub loop-t-init : goal.loop-t-init
loop-t-init c =
    let small : Bounded (limit_of c.args.run.task) c.args.x = rw (limit_is c.args.run.task c.requires.1) c.requires.3 in
    run-starts (G (goal.at.loop-t-init c).After-is_down-down) c.args.sheet.now.numbers.now small

-- the stage in turn, and its factor
in-turn : (c : In-loop-t) → c.loop-t.t < count c.args.sheet.now.numbers.now 1
in-turn c = rw c.many-t-end.ensures at c.loop-t-test.true

abbrev T : In-loop-t → ℕ
T c = nth_stage c.args.run.task (count c.args.sheet.now.numbers.now 1) c.loop-t.t

pub run_stage-requires : goal.run_stage-requires
run_stage-requires c =
    let here = (goal.at.run_stage-requires c).In-loop-t in
    let s = c.args.sheet.now.numbers.now in (
      rw c.nth_start-i.ensures (subst (λ (k : ℕ). FactorRead s k (start s (T here))) c.requires.0
          (c.args.sheet.now.faultless.each (T here) (stage-below c.args.run.task _ _ (in-turn here)))),
      rw (limit_is c.args.run.task c.requires.1) at c.loop-t.invariant.small,
    )

-- the stage, of the order itself
told :
    (c : In_ok-v) →
    let s = c.args.sheet.now.numbers.now in
    let t = nth_stage c.args.run.task (count s 1) c.loop-t.t in
    Bounded bound c.in_ok-v.v
    × (c.in_ok-v.v ≡ stage_on (is_inverse c.args.run.task) (rule_by c.is_down-down.result false) (count s 0)
    (at_stage s (count s 0) t) c.loop-t.v)
told c =
    let s = c.args.sheet.now.numbers.now in
    let t = nth_stage c.args.run.task (count s 1) c.loop-t.t in
    let h = rw (c.nth_start-i.ensures, c.is_inverse-back.ensures) at c.in_ok-v.ensures in (
      h.0,
      subst (λ (k : ℕ). c.in_ok-v.v ≡ stage_on (is_inverse c.args.run.task) (rule_by c.is_down-down.result false) k
          (line_stage k (factor_at s k (start s t))) c.loop-t.v) (sym c.requires.0) h.1,
    )

pub loop-t-preserved : goal.loop-t-preserved
loop-t-preserved c =
    let here = goal.at.loop-t-preserved c in
    let s = c.args.sheet.now.numbers.now in
    let g = G here.After-is_down-down in
    stage-passes (line-listed s g.task) c.loop-t.t (in-turn here.In-loop-t) c.loop-t.invariant
    (stage-steps g.task g.rule (count s 0) (at_stage s (count s 0) (T here.In-loop-t)) c.loop-t.v c.requires.1
    (told here.In_ok-v))
    refl

pub returns : goal.returns
returns c =
    let here = (goal.at.returns c).After-is_down-down in
    let s = c.args.sheet.now.numbers.now in
    let e : c.loop-t.t ≡ count s 1 = omega (arith, c.many-t-end.ensures) in
    rw (by_first here) at (stages-done (line-listed s (G here).task) (rw e at c.loop-t.invariant))
