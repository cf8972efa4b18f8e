-- THE STAGES IN TURN: what the loop over some of them makes of a run, and the first and the last stage, where these move numbers,
-- as the copies in and out make them.
use Rattle.std.specs.Prelude.{Bool, true, List, ◌≡◌, refl, ℕ, ◌+◌, ◌-◌, ◌*◌, ◌/◌, ◌%◌, ◌≤◌, ◌<◌, ℤ, pos, length, replicate}
use Rattle.std.proofs.Common.{sym, ap, ◌∙◌, arith}
use Rattle.rules.specs.declared.Kind.TheVariants.{Permutation}
use Rattle.rules.specs.Numbers.{most_cells, bound, at, count}
use Rattle.rules.specs.Sheets.{kind_of}
use Rattle.rules.specs.Factors.{signs_at}
use Rattle.rules.specs.Stages.{Ran, done, beyond, fill, inside}
use Rattle.rules.specs.Answers.{start}
use Rattle.rules.proofs.Laws.Lists.{length-fill, fill-at, fill-past}
use Rattle.rules.proofs.Laws.Runs.{loop-start}
use Rattle.laws.specs.Sound.{counts-agree}
use Rattle.factor.specs.declared.run.Task.{Task}
use Rattle.factor.specs.declared.run.Task.TheVariants.{Forward, Inverse, Allowance}
use Rattle.factor.specs.declared.run.Run.{Run}
use Rattle.factor.specs.Outcomes.{Outcome}
use Rattle.factor.specs.Layouts.{layout_by, layout_at, is_move}
use Rattle.factor.specs.LayoutInSheet.{move-yes, Paired}
use Rattle.factor.specs.SumBounds.{Bounded}
use Rattle.factor.specs.Tasks.{is_inverse, limit_of, inputs_of, nth_stage, taken_by, name_first, name_after, stage-below}
use Rattle.factor.specs.MovedInPlace.{moved_by, moved-bounded}
use Rattle.factor.specs.PaddedBlocks.{padded_block, load_is}
use Rattle.factor.specs.RunReplies.{start-bounded}
use Rattle.factor.specs.Steps.{step-goes}
use Rattle.factor.specs.StageLoops.{Stands, stage-passes, stages-done, stage-named, Progress, Refused}
use Rattle.pairmoves.specs.Moves.{source_of}
use Rattle.pairmoves.specs.MovedAside.{place_at, Places, places-after, MovedInto, moved-over, into-moved, moved_out}
use Rattle.rectanglerun.specs.StagesAgree.{moves-are}
use Rattle.rectanglerun.specs.Runs.{Matched, paired, size_of, size-most, joint_run_by, at_stage, left, left-listed, left-all}

-- ---- a run after t stages
abbrev pub StandsAt : Run → List ℤ → List ℤ → Ran → ℕ → List ℤ → Type 0
StandsAt run c r ran t v =
    Stands (limit_of run.task) (size_of c r) (taken_by run (size_of c r)) (name_after run.task (size_of c r))
    (name_first run.task (size_of c r)) (left c r run.task) ran t v

-- the loop over some stages
abbrev pub ProgressAt : Run → List ℤ → List ℤ → ℕ → ℕ → List ℤ → Outcome → List ℤ → Type 0
ProgressAt run c r from to x end y =
    Progress (limit_of run.task) (size_of c r) (taken_by run (size_of c r)) (name_after run.task (size_of c r))
    (name_first run.task (size_of c r)) (left c r run.task) from to x end y

-- the copy in: the run of the lent numbers, after the stages that it made
pub record Loaded (run : Run) (c r x : List ℤ) (t : ℕ) (block : List ℤ) : Type 0 where
  pub few : t ≤ count c 1
  pub stands : StandsAt run c r (joint_run_by run c r (padded_block most_cells x)) t block
  pub long : length block ≡ most_cells

-- ---- the factors in turn t
abbrev pub in_turn : List ℤ → Task → ℕ → ℕ
in_turn c task t = nth_stage task (count c 1) t

-- whether they are permutations
abbrev pub moves_in_turn : List ℤ → Task → ℕ → Bool
moves_in_turn c task t = is_move (kind_of (count c (start c (in_turn c task t))))

abbrev pub MovedInTurn : Task → List ℤ → List ℤ → ℕ → List ℤ → List ℤ → List ℤ → Type 0
MovedInTurn task c r t x y z =
    MovedInto (is_inverse task) c (start c (in_turn c task t) + 1) (count c 0) r (start r (in_turn c task t) + 1) (count r 0) x y z

-- where the loop ends: after the last stage, or before it, if it moves numbers
pub record StopsAt (c : List ℤ) (task : Task) (from to : ℕ) : Type 0 where
  pub least : from ≤ to
  pub most : to ≤ count c 1
  pub last : to < count c 1 → (to + 1 ≡ count c 1) × (moves_in_turn c task to ≡ true)

-- a run that is done, and the block that it ends with in the output
pub record Written (ran : Ran) (y z : List ℤ) : Type 0 where
  pub block : List ℤ
  pub ends : ran ≡ done block
  pub written : z ≡ fill (length y) (at block) y

-- the copy out
abbrev pub Stored : Run → List ℤ → List ℤ → ℕ → List ℤ → List ℤ → List ℤ → Type 0
Stored run c r t block y z = (ran : Ran) → StandsAt run c r ran t block → Written ran y z

-- ---- laws
module _ {c r : List ℤ} (m : Matched c r) (task : Task) (t : ℕ) (l : t < count c 1) where
  -- the row sheet has as many factors
  pub row-has : t < count r 1
  row-has = rw (counts-agree _ _ m.match) l

  -- the pair in turn t, as the code holds the orders and the starts
  pub pair-in-turn : {n1 n2 i j : ℕ} → n1 ≡ count c 0 → n2 ≡ count r 0 → i ≡ start c (in_turn c task t) →
      j ≡ start r (in_turn r task t) →
      Paired c r n1 n2 i j
  pair-in-turn a b d e = paired m _ (stage-below task _ t l) a b d (e ∙ rw (counts-agree _ _ m.match))

-- numbers are lent for a whole block
pub all-lent : (task : Task) (n : ℕ) → 0 < inputs_of task n → inputs_of task n ≡ n
unfolding inputs_of
all-lent Forward n l = refl
all-lent Inverse n l = refl
all-lent Allowance n l = absurd (omega arith)

pub stops-after : {c : List ℤ} {task : Task} {from to : ℕ} → from ≤ count c 1 → to ≡ count c 1 → StopsAt c task from to
stops-after l e = record { least = omega arith; most = omega arith; last = λ b. absurd (omega arith) }

pub stops-before : {c : List ℤ} {task : Task} {from many : ℕ} → many ≡ count c 1 → from < many →
    moves_in_turn c task (many - 1) ≡ true →
    StopsAt c task from (many - 1)
stops-before e l q = record { least = omega arith; most = omega arith; last = λ b. (omega arith, q) }

module _ {c r : List ℤ} (m : Matched c r) (run : Run) where
  -- before the first stage
  stands-first : {v : List ℤ} → Bounded (limit_of run.task) v → StandsAt run c r (joint_run_by run c r v) 0 v
  stands-first h = let all = left-all c r m run.task in record { small = h; left = loop-start _ _ _ _ _ _ ∙ rw all }

  -- a pair of permutations in turn t
  module _ (t : ℕ) (l : t < count c 1) (q : moves_in_turn c run.task t ≡ true) where
    abbrev T : ℕ
    T = in_turn c run.task t

    pair : Paired c r (count c 0) (count r 0) (start c (in_turn c run.task t)) (start r (in_turn c run.task t))
    pair = paired m T (stage-below run.task (count c 1) t l) refl refl refl refl

    kind : kind_of (count c (start c (in_turn c run.task t))) ≡ Permutation
    kind = move-yes _ q

    row-kind : kind_of (count r (start r (in_turn c run.task t))) ≡ Permutation
    row-kind = sym pair.match ∙ kind

    pub column-places : Places c (start c (in_turn c run.task t) + 1) (count c 0)
    column-places = places-after pair.column kind

    pub row-places : Places r (start r (in_turn c run.task t) + 1) (count r 0)
    row-places = places-after pair.row row-kind

    -- what the stage makes of a block
    abbrev made : List ℤ → List ℤ
    made v = taken_by run (size_of c r) (at_stage c r T) v

    made-is : (v : List ℤ) →
        moved_by (is_inverse run.task) (size_of c r)
        (λ e. place_at c (start c T + 1) (e / count r 0) * count r 0 + place_at r (start r T + 1) (e % count r 0)) v ≡ made v
    unfolding source_of layout_at layout_by signs_at
    made-is v = rw (kind, row-kind) at (moves-are c r (count c 0) (count r 0) (start c T) (start r T) pair.match kind run v)

    -- the run goes on after it: moved numbers stay in bound
    moves-on : {ran : Ran} {v : List ℤ} → StandsAt run c r ran t v → StandsAt run c r ran (t + 1) (made v)
    moves-on {v} s =
        stage-passes (left-listed c r run.task) t l s
        (step-goes refl (rw (← (made-is v)) (moved-bounded (is_inverse run.task) _ _ s.small))) refl

    -- from the lent numbers over zeros it is the stage of the block in its room
    moved_in : {x b : List ℤ} → length x ≡ size_of c r → MovedInTurn run.task c r t x (replicate most_cells (pos 0)) b →
        b ≡ made (padded_block most_cells x)
    moved_in {x} {b} long h =
        into-moved (is_inverse run.task) column-places.permutes row-places.permutes w room front
        (moved-over h (length-fill _ _ zs) behind)
        ∙ made-is w
        ∙ ap made (load_is most_cells x few)
      where
        zs : List ℤ
        zs = replicate most_cells (pos 0)

        w : List ℤ
        w = fill (length x) (at x) zs

        few : length x ≤ most_cells
        few = omega (arith, size-most m)

        room : size_of c r ≤ length w
        room = omega (arith, size-most m, length-fill (length x) (at x) zs)

        front : (k : ℕ) → k < size_of c r → at x k ≡ at w k
        front k d = sym (fill-at (length x) (at x) zs k (omega arith) few)

        behind : (k : ℕ) → size_of c r ≤ k → at w k ≡ at zs k
        behind k d = fill-past (length x) (at x) zs k (omega arith)

    -- the copy out makes the last stage
    pub stores-moved : {v y z : List ℤ} → t + 1 ≡ count c 1 → length v ≡ most_cells → length y ≡ size_of c r →
        MovedInTurn run.task c r t v y z →
        Stored run c r t v y z
    stores-moved {v} {y} last lv ly h ran s =
        let room : size_of c r ≤ length v = omega (arith, size-most m) in
        record {
          block = made v;
          ends = stages-done (left-listed c r run.task) (rw last at (moves-on s));
          written = moved_out (is_inverse run.task) column-places.permutes row-places.permutes ly room h
              ∙ ap (λ (u : List ℤ). fill (length y) (at u) y) (made-is v);
        }

  -- the copy in, with the first stage and without it
  pub loads-moved : (l : 0 < count c 1) (q : moves_in_turn c run.task 0 ≡ true) {x b : List ℤ} → length x ≡ size_of c r →
      inside bound (length x) x ≡ true → MovedInTurn run.task c r 0 x (replicate most_cells (pos 0)) b →
      Loaded run c r x 1 b
  loads-moved l q {x} long h e = record {
    few = l;
    stands = rw (moved_in 0 l q long e) (moves-on 0 l q (stands-first (start-bounded most_cells run.task x h)));
    long = e.long;
  }

  pub loads-copied : {x b : List ℤ} → length x ≤ most_cells → inside bound (length x) x ≡ true →
      b ≡ fill (length x) (at x) (replicate most_cells (pos 0)) →
      Loaded run c r x 0 b
  loads-copied {x} few h e = record {
    few = omega arith;
    stands = rw (e ∙ load_is most_cells x few) (stands-first (start-bounded most_cells run.task x h));
    long = ap length e ∙ length-fill _ _ _;
  }

  -- the copy out after the last stage
  pub stores-copied : {t : ℕ} {v y z : List ℤ} → t ≡ count c 1 → z ≡ fill (length y) (at v) y → Stored run c r t v y z
  stores-copied {v} e h ran s = record { block = v; ends = stages-done (left-listed c r run.task) (rw e at s); written = h }

-- ---- a run that is refused: the element that is named after the stage in turn t; v is the block before it
abbrev pub named_in : Run → List ℤ → List ℤ → ℕ → List ℤ → ℕ
named_in run c r t v =
    let stage = at_stage c r (in_turn c run.task t) in
    name_after run.task (size_of c r) stage (taken_by run (size_of c r) stage v)

pub named-there :
    (run : Run) (c r : List ℤ) {ran : Ran} (stage : ℕ) {v : List ℤ} → 1 ≤ stage → stage ≤ count c 1 →
    StandsAt run c r ran (stage - 1) v → Refused ran stage →
    ran ≡ beyond stage (named_in run c r (stage - 1) v)
named-there run c r {ran} stage {v} l m s f =
    let z : stage ≡ stage - 1 + 1 = omega arith in
    let e : ran ≡ beyond (stage - 1 + 1) f.element = f.is ∙ ap (λ (k : ℕ). beyond k f.element) z in
    stage-named (left-listed c r run.task) (stage - 1) (omega arith) s e
    ∙ ap (λ (k : ℕ). beyond k (named_in run c r (stage - 1) v)) (sym z)
