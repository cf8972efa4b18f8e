-- ONE PASS: the stages of a sheet's factors along the lines of a rectangle, as the loop of the code meets them.
use Rattle.std.specs.Prelude.{Bool, true, false, List, ◌≡◌, refl, ℕ, ◌+◌, ◌≤◌, ◌<◌, ℤ, length}
use Rattle.std.proofs.Common.{sym, ◌∙◌, subst, arith}
use Rattle.rules.specs.Numbers.{most_cells, count}
use Rattle.rules.specs.Factors.{factors, factor_at}
use Rattle.rules.specs.Stages.{Stage, Ran, done, beyond}
use Rattle.rules.specs.Shapes.{Lines, pass_stage, pass_stages}
use Rattle.rules.specs.Answers.{start}
use Rattle.rules.proofs.Laws.Runs.{loop-start}
use Rattle.laws.specs.Accepted.{Accepted}
use Rattle.laws.specs.Sound.{factor-sound}
use Rattle.factor.specs.declared.run.Run.{Run}
use Rattle.factor.specs.Outcomes.{Outcome}
use Rattle.factor.specs.SumBounds.{Bounded}
use Rattle.factor.specs.Steps.{Step}
use Rattle.factor.specs.Tasks.{limit_of, nth_stage, taken_by, name_first, name_after, run_by}
use Rattle.factor.specs.StageLoops.{Listed, Stands, stage-passes, stage-stops, stages-done, stage-named}
use Rattle.factor.specs.StageLoops.{Refused, refused-there, Progress}
use Rattle.factor.specs.SheetStages.{Staged, stage_at, left, left-listed, left-all}
use Rattle.passstage.specs.Lanes.{StageDone}
use Rattle.passrun.specs.Laid.{Fits, laid, stage-laid}

-- w lines, each as long as the sheet's order
pub record LinesOf (N : ℕ) (r : Lines) (s : List ℤ) (w : ℕ) : Type 0 where
  pub fits : Fits N r
  pub many : r.many ≡ w
  pub long : r.long ≡ count s 0

abbrev pub pass_stages_of : Lines → List ℤ → List Stage
pass_stages_of r s = pass_stages r (factors s)

-- the run of a pass over a block in reading order
abbrev pub pass_run : Run → ℕ → Lines → List ℤ → List ℤ → Ran
pass_run run N r s v = run_by run N (pass_stages_of r s) v

-- the stage in turn t
abbrev pub stage_in_turn : Run → Lines → List ℤ → ℕ → Stage
stage_in_turn run r s t = stage_at (pass_stage r) s (nth_stage run.task (count s 1) t)

abbrev pub pass_left : Run → Lines → List ℤ → ℕ → List Stage
pass_left run r s t = left (pass_stages r) s run.task t

passes-staged : (r : Lines) → Staged (pass_stage r) (pass_stages r)
unfolding pass_stages
passes-staged r = record { none = refl; more = λ f fs. refl }

pass-listed : (run : Run) (r : Lines) (s : List ℤ) → Listed (count s 1) (stage_in_turn run r s) (pass_left run r s)
pass-listed run r s = left-listed (passes-staged r) s run.task

-- a pass after t stages, and its loop over some of them
abbrev pub PassStands : Run → ℕ → Lines → List ℤ → Ran → ℕ → List ℤ → Type 0
PassStands run N r s ran t v =
    Stands (limit_of run.task) N (taken_by run N) (name_after run.task N) (name_first run.task N) (pass_left run r s) ran t v

abbrev pub PassProgress : Run → ℕ → Lines → List ℤ → ℕ → List ℤ → Outcome → List ℤ → Type 0
PassProgress run N r s to x end y =
    Progress (limit_of run.task) N (taken_by run N) (name_after run.task N) (name_first run.task N) (pass_left run r s) 0 to
    x end y

-- the first `to` stages of the sheet, over the block x with its lines side by side, which is y then
pub record PassDone (run : Run) (s : List ℤ) (w to : ℕ) (x : List ℤ) (end : Outcome) (y : List ℤ) : Type 0 where
  pub passes : (N : ℕ) (r : Lines) → LinesOf N r s w → PassProgress run N r s to (laid N r x) end (laid N r y)
  pub small : end.ok ≡ true → Bounded (limit_of run.task) y
  pub long : length y ≡ most_cells

-- ---- laws
pub pass-starts : (run : Run) (N : ℕ) (r : Lines) (s : List ℤ) {v : List ℤ} → Bounded (limit_of run.task) v →
    PassStands run N r s (pass_run run N r s v) 0 v
pass-starts run N r s h = record { small = h; left = rw (left-all (pass_stages r) s run.task) (loop-start _ _ _ _ _ _) }

-- the stage in turn, line by line
module _ (run : Run) {N : ℕ} {r : Lines} {s : List ℤ} {w : ℕ} (h : LinesOf N r s w) (a : Accepted s) (t : ℕ) where
  abbrev T : ℕ
  T = nth_stage run.task (count s 1) t

  pub told : {n i : ℕ} {x y : List ℤ} {ok : Bool} → n ≡ count s 0 → i ≡ start s (nth_stage run.task (count s 1) t) →
      nth_stage run.task (count s 1) t < count s 1 →
      StageDone run n (factor_at s n i) w x y ok →
      Step (limit_of run.task) N (taken_by run N (stage_in_turn run r s t) (laid N r x)) ok (laid N r y)
  told {x = x} {y = y} {ok = ok} e f l d =
      let F = factor_at s (count s 0) (start s T) in
      let g = rw (e, f, ← h.many) at d in
      stage-laid h.fits x F (rw h.long (factor-sound (a.each T l))) run
      (subst (λ (k : ℕ). StageDone run k (factor_at s (count s 0) (start s T)) r.many x y ok) (sym h.long) g)

-- one stage more, or none
module _ (run : Run) (N : ℕ) (r : Lines) (s : List ℤ) {ran : Ran} (t : ℕ) (l : t < count s 1) {v u : List ℤ} {ok : Bool}
    (h : PassStands run N r s ran t v) (d : Step (limit_of run.task) N (taken_by run N (stage_in_turn run r s t) v) ok u) where
  pub pass-goes : ok ≡ true → PassStands run N r s ran (t + 1) u
  pass-goes e = stage-passes (pass-listed run r s) t l h d e

  pub pass-stops : ok ≡ false → Refused ran (t + 1)
  pass-stops e = refused-there (stage-stops (pass-listed run r s) t l h d e)

-- all of them
pub pass-ends : (run : Run) (N : ℕ) (r : Lines) (s : List ℤ) {ran : Ran} {v : List ℤ} → PassStands run N r s ran (count s 1) v →
    ran ≡ done v
pass-ends run N r s h = stages-done (pass-listed run r s) h

-- a pass that is known to be refused at the next stage: the element that is named there
pub pass-named : (run : Run) (N : ℕ) (r : Lines) (s : List ℤ) {ran : Ran} (t : ℕ) {v : List ℤ} → t < count s 1 →
    PassStands run N r s ran t v → Refused ran (t + 1) →
    ran ≡ beyond (t + 1) (name_after run.task N (stage_in_turn run r s t) (taken_by run N (stage_in_turn run r s t) v))
pass-named run N r s t l h f = stage-named (pass-listed run r s) t l h f.is

-- a pass after the first `to` of its stages, or refused at one of them
pub record Reached (run : Run) (N : ℕ) (r : Lines) (s : List ℤ) (ran : Ran) (to : ℕ) (end : Outcome) (v : List ℤ) : Type 0 where
  pub goes : end.ok ≡ true → PassStands run N r s ran to v
  pub stops : end.ok ≡ false → (1 ≤ end.stage) × (end.stage ≤ to) × Refused ran end.stage

pub reaches : (run : Run) (N : ℕ) (r : Lines) (s : List ℤ) {ran : Ran} {to : ℕ} {x : List ℤ} {end : Outcome} {y : List ℤ} →
    PassProgress run N r s to x end y → PassStands run N r s ran 0 x → Reached run N r s ran to end y
reaches run N r s p h = record { goes = λ e. p.passes e _ h; stops = λ e. let q = p.stops e in (q.0, q.1, q.2 _ h) }

module _ {run : Run} {N : ℕ} {r : Lines} {s : List ℤ} {ran : Ran} {to : ℕ} {end : Outcome} {v : List ℤ}
    (h : Reached run N r s ran to end v) where
  passed : (end.ok ≡ false → ⊥) → end.ok ≡ true
  passed never = go end.ok refl
    where
      go : (o : Bool) → end.ok ≡ o → end.ok ≡ true
      go true e = e
      go false e = absurd (never e)

  -- a pass that is known to be done, or to be refused later
  pub done-passes : {u : List ℤ} → ran ≡ done u → end.ok ≡ true
  done-passes {u} d =
      passed
      (λ e.
      let f = (h.stops e).2 in
      let z : done u ≡ beyond end.stage f.element = sym d ∙ f.is in
      let w : ◌≡◌ {A = ℕ} 0 1 = cc in
      absurd (omega arith))

  pub refused-passes : {stage : ℕ} → Refused ran stage → to < stage → end.ok ≡ true
  refused-passes {stage} f l =
      passed
      (λ e.
      let q = h.stops e in
      let g = q.2 in
      let z : beyond end.stage g.element ≡ beyond stage f.element = sym g.is ∙ f.is in
      let y : end.stage ≡ stage = cc in
      absurd (omega (arith, q.1)))

  -- the element that is named where it is refused at the next stage
  pub names-next : {stage : ℕ} → Refused ran stage → stage ≡ to + 1 → stage ≤ count s 1 →
      ran ≡ beyond stage (name_after run.task N (stage_in_turn run r s to) (taken_by run N (stage_in_turn run r s to) v))
  names-next f e most =
      rw e (pass-named run N r s to (omega arith) (h.goes (refused-passes f (omega arith))) (rw e at f))
