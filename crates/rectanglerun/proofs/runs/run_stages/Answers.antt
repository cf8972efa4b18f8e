-- A run that stands before turn from stands before turn t (`stage-passes`), and the block is in bound.
use Rattle.std.proofs.Common.{Bool, List, is_ok, ◌≡◌, ◌∙◌, ℕ, ◌*◌, ◌<◌, arith, ℤ}
use Rattle.factor.specs.StageLoops.{stage-passes, stage-stops, refused-there, progress-passes, progress-stops}
use Rattle.factor.specs.Steps.{Step}
use Rattle.factor.specs.Tasks.{limit_of, nth_stage, taken_by}
use Rattle.factor.specs.declared.run.Run.{Run}
use Rattle.laws.specs.Sound.{counts-agree}
use Rattle.rectanglerun.specs.Turns.{row-has, pair-in-turn}
use Rattle.rectanglerun.specs.Runs.{size_of, at_stage, left-listed}
use Rattle.rules.specs.Answers.{start}
use Rattle.rules.specs.Factors.{factor_at}
use Rattle.rules.specs.Numbers.{count}
use Rattle.rules.specs.Shapes.{joint_stage}
use Rattle.rectanglerun.proofs.runs.run_stages.Goals as goal
use Rattle.rectanglerun.proofs.runs.run_stages.Goals.{After-run_stage, In-loop-t}

in-turn : (c : In-loop-t) → c.loop-t.t < count c.args.col.now.numbers.now 1
in-turn c = let m = c.requires.2 in omega arith

pub nth_start-j-requires : goal.nth_start-j-requires
nth_start-j-requires c =
    let i = (goal.at.nth_start-j-requires c).In-loop-t in row-has c.requires.0 c.args.run.task _ (in-turn i)

pub run_stage-requires : goal.run_stage-requires
run_stage-requires c =
    let i = (goal.at.run_stage-requires c).In-loop-t in
    let l = c.loop-t in
    let p = pair-in-turn c.requires.0 c.args.run.task l.t (in-turn i) c.order-n1.ensures c.order-n2.ensures
    c.nth_start-i.ensures c.nth_start-j.ensures in
    (p, l.invariant.2, l.invariant.3)

-- the stage, of the orders themselves
of-orders :
    (run : Run) (c r v : List ℤ) (f : ℕ) {n1 n2 i j : ℕ} {ok : Bool} {u : List ℤ} → n1 ≡ count c 0 → n2 ≡ count r 0 →
    i ≡ start c f → j ≡ start r f →
    Step (limit_of run.task) (n1 * n2) (taken_by run (n1 * n2) (joint_stage n1 n2 (factor_at c n1 i) (factor_at r n2 j)) v) ok u →
    Step (limit_of run.task) (size_of c r) (taken_by run (size_of c r) (at_stage c r f) v) ok u
of-orders run c r v f a b d e h = rw (a, b, d, e) at h

told :
    (c : After-run_stage) →
    let run = c.args.run in
    let x = c.args.col.now.numbers.now in
    let y = c.args.row.now.numbers.now in
    let N = size_of x y in
    Step (limit_of run.task) N
    (taken_by run N (at_stage x y (nth_stage run.task (count x 1) c.loop-t.t)) c.loop-t.x)
    (is_ok c.run_stage.result) c.run_stage.new.x
told c =
    of-orders c.args.run _ _ _ _ c.order-n1.ensures c.order-n2.ensures c.nth_start-i.ensures
    (c.nth_start-j.ensures ∙ rw (counts-agree _ _ c.requires.0.match))
    c.run_stage.ensures.0

pub returns-then-is_err : goal.returns-then-is_err
returns-then-is_err c =
    let g = goal.at.returns-then-is_err c in
    let n = in-turn g.In-loop-t in
    let all = left-listed c.args.col.now.numbers.now c.args.row.now.numbers.now c.args.run.task in
    let no = c.if-is_err.ensures.negation in (
      progress-stops c.loop-t.t c.loop-t-test.true
          (λ ran h. refused-there (stage-stops all c.loop-t.t n (c.loop-t.invariant.1 ran h) (told g.After-run_stage) no)),
      c.run_stage.ensures.1,
    )

pub loop-t-preserved : goal.loop-t-preserved
loop-t-preserved c =
    let g = goal.at.loop-t-preserved c in
    let n = in-turn g.In-loop-t in
    let t = told g.After-run_stage in
    let i = c.loop-t.invariant in
    let all = left-listed c.args.col.now.numbers.now c.args.row.now.numbers.now c.args.run.task in
    let yes = c.if-is_err.ensures.negation in (
      omega arith,
      λ ran h. stage-passes all c.loop-t.t n (i.1 ran h) t yes,
      (t.takes yes).1,
      c.run_stage.ensures.1,
    )

pub returns : goal.returns
returns c =
    let e : c.loop-t.t ≡ c.args.to = omega (arith, c.loop-t.invariant.0) in
    (progress-passes (rw e at c.loop-t.invariant.1), c.loop-t.invariant.3)
