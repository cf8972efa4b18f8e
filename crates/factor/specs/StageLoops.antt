-- A LOOP OVER THE FACTORS: after t of K stages the run's answer is that of the stages left, t stages later.
use Rattle.std.specs.Prelude.{Bool, true, false, List, [], ◌∷◌, ◌≡◌, refl, ℕ, ◌+◌, ◌≤◌, ◌<◌, ℤ}
use Rattle.std.proofs.Common.{sym, ap, ◌∙◌, arith}
use Rattle.rules.specs.Stages.{Stage, Ran, done, beyond, inside, later, run}
use Rattle.rules.proofs.Laws.Runs.{loop-step, loop-any, loop-refused, loop-here, loop-end}
use Rattle.laws.specs.Tests.{apart}
use Rattle.factor.specs.Outcomes.{Outcome}
use Rattle.factor.specs.SumBounds.{Bounded, bounded-inside}
use Rattle.factor.specs.Steps.{Step, step-no}

-- K stages one by one, and the lists of those that are left
pub record Listed (K : ℕ) (stage : ℕ → Stage) (rest : ℕ → List Stage) : Type 0 where
  pub next : (t : ℕ) → t < K → rest t ≡ stage t ∷ rest (t + 1)
  pub end : rest K ≡ []

-- a run that stands at the block v, in bound, after t stages
pub record Stands (most n : ℕ) (step : Stage → List ℤ → List ℤ) (names : Stage → List ℤ → ℕ) (name : List ℤ → ℕ)
    (rest : ℕ → List Stage) (ran : Ran) (t : ℕ) (v : List ℤ) : Type 0 where
  pub small : Bounded most v
  pub left : ran ≡ later t (run (inside most n) step names name (rest t) v)

module _ {most n : ℕ} {step : Stage → List ℤ → List ℤ} {names : Stage → List ℤ → ℕ} {name : List ℤ → ℕ} {K : ℕ}
    {stage : ℕ → Stage} {rest : ℕ → List Stage} (h : Listed K stage rest) where
  -- the next stage, taken; its block may still be beyond the bound
  next-stage :
      {ran : Ran} (t : ℕ) (v : List ℤ) → t < K → Stands most n step names name rest ran t v →
      ran ≡ later (t + 1) (run (inside most n) step names (names (stage t)) (rest (t + 1)) (step (stage t) v))
  next-stage t v l s =
      s.left ∙ ap (λ (ss : List Stage). later t (run (inside most n) step names name ss v)) (h.next t l)
      ∙ loop-step (inside most n) step names name t (stage t) (rest (t + 1)) v (bounded-inside n s.small)

  pub stage-passes :
      {ran : Ran} (t : ℕ) {v u : List ℤ} {ok : Bool} → t < K → Stands most n step names name rest ran t v →
      Step most n (step (stage t) v) ok u → ok ≡ true →
      Stands most n step names name rest ran (t + 1) u
  stage-passes t {v} {u} l s e o =
      let g = e.takes o in
      record {
        small = g.1;
        left = rw g.0
            (next-stage t v l s
            ∙ loop-any (inside most n) step names (names (stage t)) name (t + 1) (rest (t + 1)) (step (stage t) v)
            (bounded-inside n (rw g.0 at g.1)));
      }

  pub stage-stops :
      {ran : Ran} (t : ℕ) {v u : List ℤ} {ok : Bool} → t < K → Stands most n step names name rest ran t v →
      Step most n (step (stage t) v) ok u → ok ≡ false →
      ran ≡ beyond (t + 1) (names (stage t) (step (stage t) v))
  stage-stops t {v} l s e o =
      next-stage t v l s
      ∙ loop-refused (inside most n) step names (names (stage t)) (t + 1) (rest (t + 1)) (step (stage t) v) (step-no e o)

  pub stages-done : {ran : Ran} {v : List ℤ} → Stands most n step names name rest ran K v → ran ≡ done v
  stages-done {ran} {v} s =
      s.left ∙ ap (λ (ss : List Stage). later K (run (inside most n) step names name ss v)) h.end
      ∙ loop-end (inside most n) step names name K v (bounded-inside n s.small)

  -- a run that is known to be refused at the next stage: the element that is named there
  pub stage-named :
      {ran : Ran} (t : ℕ) {v : List ℤ} {k : ℕ} → t < K → Stands most n step names name rest ran t v → ran ≡ beyond (t + 1) k →
      ran ≡ beyond (t + 1) (names (stage t) (step (stage t) v))
  stage-named t {v} l s e =
      let d = next-stage t v l s in
      d ∙ loop-here (inside most n) step names (names (stage t)) (t + 1) (rest (t + 1)) (step (stage t) v) (sym d ∙ e)

-- ---- some of the stages
-- a run that is refused at a stage
pub record Refused (ran : Ran) (stage : ℕ) : Type 0 where
  pub element : ℕ
  pub is : ran ≡ beyond stage element

pub refused-there : {ran : Ran} {stage element : ℕ} → ran ≡ beyond stage element → Refused ran stage
refused-there {element = k} h = record { element = k; is = h }

-- the loop over the stages from one turn up to another: a run that stands at x before them stands at y after them, or is refused
pub record Progress (most n : ℕ) (step : Stage → List ℤ → List ℤ) (names : Stage → List ℤ → ℕ) (name : List ℤ → ℕ)
    (rest : ℕ → List Stage) (from to : ℕ) (x : List ℤ) (end : Outcome) (y : List ℤ) : Type 0 where
  pub passes : end.ok ≡ true → (ran : Ran) → Stands most n step names name rest ran from x →
      Stands most n step names name rest ran to y
  pub stops : end.ok ≡ false → (1 ≤ end.stage) × (end.stage ≤ to)
      × ((ran : Ran) → Stands most n step names name rest ran from x → Refused ran end.stage)

module _ {most n : ℕ} {step : Stage → List ℤ → List ℤ} {names : Stage → List ℤ → ℕ} {name : List ℤ → ℕ}
    {rest : ℕ → List Stage} {from to : ℕ} {x y : List ℤ} where
  pub progress-passes :
      ((ran : Ran) → Stands most n step names name rest ran from x → Stands most n step names name rest ran to y) →
      Progress most n step names name rest from to x (record { ok = true; stage = 0 }) y
  progress-passes h = record { passes = λ e. h; stops = λ e. apart e }

  pub progress-stops :
      (t : ℕ) → t < to → ((ran : Ran) → Stands most n step names name rest ran from x → Refused ran (t + 1)) →
      Progress most n step names name rest from to x (record { ok = false; stage = t + 1 }) y
  progress-stops t l h = record { passes = λ e. apart (sym e); stops = λ e. (omega arith, omega arith, h) }

  -- a run that is known to be refused after these stages passes them
  pub progress-goes :
      {end : Outcome} {ran : Ran} {stage : ℕ} → Progress most n step names name rest from to x end y →
      Stands most n step names name rest ran from x → Refused ran stage → to < stage →
      Stands most n step names name rest ran to y
  progress-goes {end} {ran} {stage} p s f l = go end.ok refl
    where
      go : (b : Bool) → end.ok ≡ b → Stands most n step names name rest ran to y
      go true e = p.passes e ran s
      go false e =
          let q = p.stops e in
          let g = q.2 ran s in
          let z : beyond end.stage g.element ≡ beyond stage f.element = sym g.is ∙ f.is in
          let d : end.stage ≡ stage = cc in
          absurd (omega (arith, q.1))
