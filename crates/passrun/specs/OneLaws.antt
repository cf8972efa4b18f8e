-- ONE PASS OF A BLOCK, from the lent numbers to its end, and the element that its refusal names.
use Rattle.std.specs.Prelude.{Bool, true, false, List, [], ◌∷◌, ◌≡◌, refl, ℕ, zero, suc, ◌+◌, ◌*◌, ◌≤◌, ◌<◌, ℤ, pos, length, take}
use Rattle.std.proofs.Common.{inl, inr, arith, get_or-take, length-take-le}
use Rattle.std.proofs.Math.Decide.{dec_lt}
use Rattle.std.proofs.Math.Nat as NatL
use Rattle.whole.specs.Diff.{Within}
use Rattle.rules.specs.Numbers.{bound, at, count}
use Rattle.rules.specs.Factors.{factor_at}
use Rattle.rules.specs.Stages.{done, beyond, inside}
use Rattle.rules.specs.Shapes.{Lines, pass_stage}
use Rattle.rules.specs.Answers.{start}
use Rattle.rules.proofs.Laws.Lists.{inside-at}
use Rattle.laws.specs.Accepted.{Accepted}
use Rattle.factor.specs.declared.run.Task.{Task}
use Rattle.factor.specs.declared.run.Task.TheVariants.{Forward, Inverse, Allowance}
use Rattle.factor.specs.declared.run.Run.{Run}
use Rattle.factor.specs.Outcomes.{Outcome}
use Rattle.factor.specs.PassLines.{lines_by}
use Rattle.factor.specs.SumBounds.{Bounded, bounded-le}
use Rattle.factor.specs.StageLoops.{Refused}
use Rattle.factor.specs.Tasks.{limit_of, inputs_of, nth_stage, taken_by, name_after}
use Rattle.passrun.specs.Laid.{laid, laid-bounded}
use Rattle.passrun.specs.PassRuns.{PassStands, PassDone, pass-starts, pass-ends, reaches, refused-passes, names-next}
use Rattle.passrun.specs.BlockRuns.{size_by, one_size, one_lines, one_run, Lent, LaidIn, ReadOff, named_in_pass}
use Rattle.passrun.specs.BlockRuns.{PassAsks, OneDone}
use Rattle.passrun.specs.Blocks.{lines_of}

-- ---- a list in bound, number by number
at-past : (v : List ℤ) (k : ℕ) → length v ≤ k → at v k ≡ pos 0
at-past [] zero l = refl
at-past [] (suc k) l = refl
at-past (z ∷ v) zero l = absurd (omega arith)
at-past (z ∷ v) (suc k) l = at-past v k (omega arith)

each-bounded : {B : ℕ} (v : List ℤ) → ((k : ℕ) → k < length v → Within B (at v k)) → Bounded B v
each-bounded {B} v h = record { small = λ k. go k (dec_lt k (length v)) }
  where
    go : (k : ℕ) → Dec (k < length v) → Within B (at v k)
    go k (yes l) = h k l
    go k (no l) = rw (at-past v k (omega arith)) (record { within = omega arith })

-- the front of a list in bound
pub take-bounded : {B : ℕ} (n : ℕ) {v : List ℤ} → n ≤ length v → Bounded B v → Bounded B (take n v)
take-bounded n {v} l h =
    each-bounded (take n v)
    (λ k b. rw (get_or-take n v k (pos 0) (omega (arith, length-take-le n v l))) (h.small k))

-- the lent numbers
pub inner-small : (task : Task) (x : List ℤ) → inside bound (length x) x ≡ true → Bounded (limit_of task) x
unfolding limit_of
inner-small Forward x h = each-bounded x (inside-at bound (length x) x h)
inner-small Inverse x h = each-bounded x (inside-at bound (length x) x h)
inner-small Allowance x h = bounded-le (omega arith) (each-bounded x (inside-at bound (length x) x h))

-- all numbers are lent, or none
pub lent_by : (task : Task) (x : List ℤ) (N : ℕ) → length x ≡ inputs_of task N → Lent x N
unfolding inputs_of
lent_by Forward x N l = inr l
lent_by Inverse x N l = inr l
lent_by Allowance x N l = inl l

size-product : (columns : Bool) (many n : ℕ) → size_by columns many n ≡ many * n
unfolding size_by
size-product true many n = NatL.mul_comm n many
size-product false many n = refl

-- the element that is found at the front of a block read off
pub named-read : (columns : Bool) (run : Run) (s : List ℤ) (many t : ℕ) {n i e : ℕ} {b c : List ℤ} → n ≡ count s 0 →
    i ≡ start s (nth_stage run.task (count s 1) t) → ReadOff columns many n b c →
    e ≡ name_after run.task (many * n) (pass_stage (lines_by columns many n) (factor_at s n i))
    (taken_by run (many * n) (pass_stage (lines_by columns many n) (factor_at s n i)) (take (many * n) c)) →
    e ≡ named_in_pass columns run s many t b
named-read columns run s many t {b = b} {c = c} p q r h =
    let g = rw (← (size-product columns many _), r.front) at h in rw (p, q) at g

module _ (columns : Bool) (run : Run) {s : List ℤ} {many : ℕ} {x : List ℤ}
    (h : PassAsks columns run s many x) {b : List ℤ} (l : LaidIn columns many (count s 0) x b) where
  abbrev N : ℕ
  N = one_size columns many s

  abbrev r : Lines
  r = one_lines columns many s

  pub laid-small : Bounded (limit_of run.task) b
  laid-small = l.small _ (inner-small run.task x h.inner)

  -- before the first stage
  stands : PassStands run (one_size columns many s) (one_lines columns many s) s (one_run columns run s many x) 0
      (laid (one_size columns many s) (one_lines columns many s) b)
  stands = rw l.holds (pass-starts run N r s (rw l.holds at (laid-bounded N r laid-small)))

  pub one-reaches : {to : ℕ} {end : Outcome} {c : List ℤ} → Accepted s → PassDone run s many to b end c →
      OneDone columns run s many x to end c
  one-reaches a d = record {
    reached = reaches run N r s (d.passes N r (lines_of columns many a h.most)) stands;
    small = d.small;
    wide = d.long;
  }

module _ {columns : Bool} {run : Run} {s : List ℤ} {many : ℕ} {x : List ℤ} {to : ℕ} {end : Outcome} {b : List ℤ}
    (d : OneDone columns run s many x to end b) where
  -- all stages
  pub one-done : to ≡ count s 1 → end.ok ≡ true →
      one_run columns run s many x ≡ done (laid (one_size columns many s) (one_lines columns many s) b)
  one-done e o = pass-ends run _ _ s (rw e at (d.reached.goes o))

  -- the stages before a refused one
  module _ {stage : ℕ} (f : Refused (one_run columns run s many x) stage) (e : stage ≡ to + 1) where
    pub one-small : Bounded (limit_of run.task) b
    one-small = d.small (refused-passes d.reached f (omega arith))

    pub one-named : stage ≤ count s 1 → one_run columns run s many x ≡ beyond stage (named_in_pass columns run s many to b)
    one-named most = names-next d.reached f e most
