-- HOW A RUN BY PASSES ENDS: the document's run of the lent numbers is the passes' runs one after the other; its reply, refused or
-- done.
use Rattle.std.specs.Prelude.{Bool, true, false, not, List, [], ◌∷◌, ◌++◌, reverse, ◌≡◌, refl, ℕ, ◌+◌, ◌-◌, ◌≤◌, ◌<◌, ℤ, length}
use Rattle.std.proofs.lemmas.List.{reverse-append, length-reverse}
use Rattle.std.proofs.Common.{sym, ap, ◌∙◌, arith}
use Rattle.rules.specs.declared.Rule.{Rule}
use Rattle.rules.specs.Numbers.{most_order, most_cells, bound, count}
use Rattle.rules.specs.Stages.{Stage, Ran, done, beyond, later, run, inside, run_forward, run_inverse, run_allowance}
use Rattle.rules.specs.Answers.{accepted, refused_at}
use Rattle.rules.specs.Calls.{Gives, reply, ran_answer, ran_memory}
use Rattle.rules.proofs.Laws.Runs.{follow, cut}
use Rattle.rules.proofs.Laws.Passes.{passes_count}
use Rattle.laws.specs.Tests.{apart}
use Rattle.laws.specs.Accepted.{Accepted, accepted-order}
use Rattle.laws.specs.AnswersInTurn.{ran_reply}
use Rattle.laws.specs.Passes.{factors-count}
use Rattle.factor.specs.declared.run.Task.{Task}
use Rattle.factor.specs.declared.run.Task.TheVariants.{Forward, Inverse, Allowance}
use Rattle.factor.specs.declared.run.Run.{Run}
use Rattle.factor.specs.Tasks.{is_inverse, limit_of, inputs_of, number_of, in_order, stage_by, taken_by, name_first, name_after}
use Rattle.factor.specs.Tasks.{run_by, ran_by, ran}
use Rattle.factor.specs.Outcomes.{Outcome}
use Rattle.factor.specs.SumBounds.{Bounded}
use Rattle.factor.specs.StageLoops.{Refused}
use Rattle.factor.specs.PassLines.{lines_by}
use Rattle.passrun.specs.Laid.{laid, laid-bounded}
use Rattle.passrun.specs.Layout.{turned}
use Rattle.passrun.specs.PassRuns.{pass_run, PassDone, pass-starts, pass-ends, Reached, reaches, refused-passes, names-next}
use Rattle.passrun.specs.BlockRuns.{other, start_block, one_lines, one_run, two_size, first_stages, second_stages, two_stages}
use Rattle.passrun.specs.BlockRuns.{size_by, PassAsks, OneDone, TurnedDone, named_in_pass}
use Rattle.passrun.specs.Blocks.{start-all, start_none, sizes-turn, lines_of, turned-laid}

-- ---- the block that the run starts from
start-by : (task : Task) (rule : Rule) (N : ℕ) (ss : List Stage) (x : List ℤ) → length x ≡ inputs_of task N →
    let r : Run = record { task = task; rule = rule } in ran_by task rule N ss x ≡ run_by r N ss (start_block N x)
unfolding inputs_of ran_by limit_of in_order stage_by name_first name_after run_forward run_inverse run_allowance
start-by Forward rule N ss x l = rw (start-all N x l)
start-by Inverse rule N ss x l = rw (start-all N x l)
start-by Allowance rule N ss x l = rw (start_none N x l)

pub ran-is : (run : Run) (N : ℕ) (ss : List Stage) (x : List ℤ) → length x ≡ inputs_of run.task N →
    ran run N ss x ≡ run_by run N ss (start_block N x)
ran-is run N ss x l = start-by run.task run.rule N ss x l

-- ---- the reply
pub ends-refused : (task : Task) {ran : Ran} (y : List ℤ) {s e : ℕ} → ran ≡ beyond s e →
    Gives (refused_at (number_of task) 0 s e) y (ran_reply (number_of task) ran y)
unfolding reply ran_answer ran_memory number_of
ends-refused Forward y h = rw h (refl, refl)
ends-refused Inverse y h = rw h (refl, refl)
ends-refused Allowance y h = rw h (refl, refl)

pub ends-done : (number : ℕ) {ran : Ran} (y : List ℤ) {v z : List ℤ} → ran ≡ done v → z ≡ v →
    Gives accepted z (ran_reply number ran y)
unfolding reply ran_answer ran_memory
ends-done number y h e = rw (h, e) (refl, refl)

-- ---- two passes
-- the second on what the first gave
abbrev pub two_run : Bool → Run → List ℤ → List ℤ → List ℤ → Ran
two_run columns run a z v =
    follow (count a 1) (run_by run (two_size columns a z) (first_stages columns a z) v)
    (λ u. run_by run (two_size columns a z) (second_stages columns a z) u)

-- stages in the order in which they stand
abbrev run_of : Run → Bool → List Stage → List ℤ → List ℤ → List ℤ → Ran
run_of r columns ss a z v =
    run (inside (limit_of r.task) (two_size columns a z)) (taken_by r (two_size columns a z))
    (name_after r.task (two_size columns a z)) (name_first r.task (two_size columns a z)) ss v

first_count : (columns : Bool) (a z : List ℤ) → length (first_stages columns a z) ≡ count a 1
first_count columns a z = passes_count (one_lines columns (count z 0) a) _ ∙ factors-count a

-- first to last
in_order_lem : (run : Run) (columns : Bool) (a z v : List ℤ) →
    run_of run columns (first_stages columns a z ++ second_stages columns a z) a z v
    ≡ follow (count a 1) (run_of run columns (first_stages columns a z) a z v) (run_of run columns (second_stages columns a z) a z)
in_order_lem run columns a z v =
    cut (inside (limit_of run.task) (two_size columns a z)) (taken_by run (two_size columns a z))
    (name_after run.task (two_size columns a z)) (name_first run.task (two_size columns a z))
    (name_first run.task (two_size columns a z)) (first_stages columns a z)
    (second_stages columns a z) v
    ∙ rw (first_count columns a z)

two-by : (task : Task) (rule : Rule) (a z : List ℤ) (v : List ℤ) → let r : Run = record { task = task; rule = rule } in
    let columns = other (is_inverse task) in
    run_by r (two_size columns a z) (two_stages columns a z) v ≡ two_run columns r a z v
unfolding is_inverse other in_order two_stages
two-by Forward rule a z v = in_order_lem record { task = Forward; rule = rule } true a z v
two-by Inverse rule a z v =
    let r : Run = record { task = Inverse; rule = rule } in
    rw (reverse-append (second_stages false a z) (first_stages false a z))
    (cut (inside (limit_of Inverse) (two_size false a z)) (taken_by r (two_size false a z)) (name_after Inverse (two_size false a z))
    (name_first Inverse (two_size false a z)) (name_first Inverse (two_size false a z)) (reverse (first_stages false a z))
    (reverse (second_stages false a z)) v
    ∙ rw (length-reverse (first_stages false a z) ∙ first_count false a z))
two-by Allowance rule a z v = in_order_lem record { task = Allowance; rule = rule } true a z v

-- by whether the run is an inverse one
pub two_is : (run : Run) {columns : Bool} (a z : List ℤ) (v : List ℤ) → columns ≡ other (is_inverse run.task) →
    run_by run (two_size columns a z) (two_stages columns a z) v ≡ two_run columns run a z v
two_is run a z v e = rw e (two-by run.task run.rule a z v)

-- refused in the first pass, refused in the second, done
pub first-refused : (k : ℕ) {r : Ran} (next : List ℤ → Ran) {s e : ℕ} → r ≡ beyond s e → follow k r next ≡ beyond s e
unfolding follow
first-refused k next h = rw h

pub second-refused : (k : ℕ) {r : Ran} (next : List ℤ → Ran) {v : List ℤ} {s e : ℕ} → r ≡ done v → next v ≡ beyond s e →
    follow k r next ≡ beyond (k + s) e
unfolding follow later
second-refused k next h g = rw (h, g)

pub both-done : (k : ℕ) {r : Ran} (next : List ℤ → Ran) {v u : List ℤ} → r ≡ done v → next v ≡ done u → follow k r next ≡ done u
unfolding follow later
both-done k next h g = rw (h, g)

-- ---- what two passes ask, and how they end
pub record PairAsks (columns : Bool) (run : Run) (a z x : List ℤ) : Type 0 where
  pub input : length x ≡ inputs_of run.task (two_size columns a z)
  pub inner : inside bound (length x) x ≡ true

-- the run over the numbers that it starts from
abbrev pub pair_run : Bool → Run → List ℤ → List ℤ → List ℤ → Ran
pair_run columns run a z x = two_run columns run a z (start_block (two_size columns a z) x)

-- in which pass a refusal lies: in the first, or in the second on what the first gave
pub record Later (columns : Bool) (run : Run) (a z x : List ℤ) (stage : ℕ) : Type 0 where
  pub block : List ℤ
  pub first : one_run columns run a (count z 0) x ≡ done block
  pub second : Refused (pass_run run (two_size columns a z) (one_lines (other columns) (count a 0) z) z block) (stage - count a 1)

pub record PairRefused (columns : Bool) (run : Run) (a z x : List ℤ) (stage : ℕ) : Type 0 where
  pub some : 1 ≤ stage
  pub most : stage ≤ count a 1 + count z 1
  pub early : stage ≤ count a 1 → Refused (one_run columns run a (count z 0) x) stage
  pub late : count a 1 < stage → Later columns run a z x stage

pub record TwoEnded (columns : Bool) (run : Run) (a z x : List ℤ) (end : Outcome) (b : List ℤ) : Type 0 where
  pub takes : end.ok ≡ true →
      pair_run columns run a z x ≡ done (laid (two_size columns a z) (one_lines (other columns) (count a 0) z) b)
  pub stops : end.ok ≡ false → PairRefused columns run a z x end.stage
  pub wide : length b ≡ most_cells

module _ (columns : Bool) (run : Run) {a z x : List ℤ} (h : PairAsks columns run a z x) where
  -- the first pass asks no more
  pub first-asks : Accepted z → PassAsks columns run a (count z 0) x
  first-asks f = record {
    some = (accepted-order f).least;
    most = (accepted-order f).most;
    input = h.input;
    inner = h.inner;
  }

  -- refused in the first pass
  pub ended-first : {end : Outcome} {b : List ℤ} → end.ok ≡ false → OneDone columns run a (count z 0) x (count a 1) end b →
      TwoEnded columns run a z x end b
  ended-first {end} {b} o d =
      let s = d.reached.stops o in
      record {
        takes = λ e. apart (sym e ∙ o);
        stops = λ e. record {
          some = s.0;
          most = let m = s.1 in omega arith;
          early = λ l. s.2;
          late = λ l. let m = s.1 in absurd (omega arith);
        };
        wide = d.wide;
      }

  -- the second pass, on what the first gave
  module _ {b : List ℤ}
      (g : one_run columns run a (count z 0) x ≡ done (laid (two_size columns a z) (one_lines columns (count z 0) a) b))
      (small : Bounded (limit_of run.task) b) {to : ℕ} {end : Outcome} {d : List ℤ}
      (q : TurnedDone run z (count a 0) to b end d) where
    abbrev N : ℕ
    N = two_size columns a z

    second-reaches : Reached run (two_size columns a z) (one_lines (other columns) (count a 0) z) z
        (pass_run run (two_size columns a z) (one_lines (other columns) (count a 0) z) z
        (laid (two_size columns a z) (one_lines columns (count z 0) a) b)) to end
        (laid (two_size columns a z) (one_lines (other columns) (count a 0) z) d)
    second-reaches =
        let r = one_lines (other columns) (count a 0) z in
        reaches run N r z (q.passes columns) (pass-starts run N r z (laid-bounded N (one_lines columns (count z 0) a) small))

    pub ended-second : to ≡ count z 1 → {last : Outcome} → last.ok ≡ end.ok →
        (end.ok ≡ false → last.stage ≡ count a 1 + end.stage) →
        TwoEnded columns run a z x last d
    ended-second t {last} o st = record {
      takes = λ e. both-done (count a 1) _ g (pass-ends run N _ z (rw t at (second-reaches.goes (sym o ∙ e))));
      stops = λ e.
          let y = second-reaches.stops (sym o ∙ e) in
          let f = y.2 in
          let w = st (sym o ∙ e) in
          let m = y.0 in
          let n = y.1 in
          let u : last.stage - count a 1 ≡ end.stage = omega arith in
          record {
            some = omega arith;
            most = omega arith;
            early = λ l. absurd (omega arith);
            late = λ l. record { block = _; first = g; second = rw u f };
          };
      wide = q.wide;
    }

    -- the stages of the second pass before a refused one
    module _ {stage : ℕ} (f : Refused (pass_run run (two_size columns a z) (one_lines (other columns) (count a 0) z) z
        (laid (two_size columns a z) (one_lines columns (count z 0) a) b)) stage) (e : stage ≡ to + 1) where
      pub second-small : Bounded (limit_of run.task) d
      second-small = q.small (refused-passes second-reaches f (omega arith))

      pub second-named : stage ≤ count z 1 →
          pair_run columns run a z x ≡ beyond (count a 1 + stage) (named_in_pass (other columns) run z (count a 0) to d)
      second-named most =
          second-refused (count a 1) _ g (names-next second-reaches f e most ∙ rw (sizes-turn columns (count z 0) (count a 0)))

-- rows and columns exchanged, then a pass
pub turned-done : {run : Run} {s : List ℤ} {w to : ℕ} {x c : List ℤ} {end : Outcome} {y : List ℤ} → Accepted s →
    w ≤ most_order → length x ≡ most_cells → c ≡ turned (count s 0) w x → PassDone run s w to c end y →
    TurnedDone run s w to x end y
turned-done {s = s} {w = w} {x = x} a l long t d = record {
  passes = λ down.
      let N = size_by down (count s 0) w in
      let r = one_lines (other down) w s in
      rw (ap (laid N r) t ∙ turned-laid down (count s 0) w x long (accepted-order a).most l) at
      (d.passes N r (rw (sizes-turn down (count s 0) w) at (lines_of (other down) w a l)));
  small = d.small;
  wide = d.long;
}

pub done-same : {ran : Ran} {u v : List ℤ} → ran ≡ done u → ran ≡ done v → u ≡ v
done-same {u = u} {v = v} h k = let z : done u ≡ done v = sym h ∙ k in cc

-- ---- the same, by other names of the numbers
pub other-not : (b : Bool) → not b ≡ other b
unfolding other
other-not true = refl
other-not false = refl

pub one-stages : {columns : Bool} {run : Run} {s : List ℤ} {m many : ℕ} {x : List ℤ} {t to : ℕ} {end : Outcome} {b : List ℤ} →
    m ≡ many → t ≡ to → OneDone columns run s m x t end b → OneDone columns run s many x to end b
one-stages p q h = rw (p, q) at h

pub turned-stages : {run : Run} {s : List ℤ} {v w t to : ℕ} {x : List ℤ} {end : Outcome} {y : List ℤ} → v ≡ w → t ≡ to →
    TurnedDone run s v t x end y → TurnedDone run s w to x end y
turned-stages p q h = rw (p, q) at h

pub named-same : (run : Run) (s : List ℤ) {c d : Bool} {m n t u : ℕ} (b : List ℤ) → c ≡ d → m ≡ n → t ≡ u →
    named_in_pass c run s m t b ≡ named_in_pass d run s n u b
named-same run s b p q r = rw (p, q, r)

pub ends_at : {ran : Ran} {s u e k : ℕ} → ran ≡ beyond s e → s ≡ u → k ≡ e → ran ≡ beyond u k
ends_at h p q = rw (← p, q) h

-- the output of two passes
pub stored-as : (columns : Bool) (a z b : List ℤ) {n m : ℕ} {y : List ℤ} → n ≡ count a 0 → m ≡ count z 0 →
    y ≡ laid (size_by (not columns) n m) (lines_by (not columns) n m) b →
    y ≡ laid (two_size columns a z) (one_lines (other columns) (count a 0) z) b
stored-as columns a z b p q h =
    rw (other-not columns, p, q, sizes-turn columns (count z 0) (count a 0)) at h
