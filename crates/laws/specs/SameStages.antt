-- STAGES THAT DO THE SAME TO EVERY BLOCK: a forward run does not tell them apart. Factors that are the same wherever a factor is
-- looked at make such stages, in a line, in a pair and in a pass. Assumes nothing.
use Rattle.std.specs.Prelude.{Bool, true, false, List, [], ◌∷◌, ◌++◌, ◌≢◌, ◌≡◌, refl, ℕ, ◌*◌, ◌/◌, ◌%◌, ◌<◌, eqb, ℤ, pos, ◌+ℤ◌, ◌*ℤ◌}
use Rattle.std.proofs.Math.Bool.{cond}
use Rattle.std.proofs.Common.{sym, ◌∙◌, subst}
use Rattle.std.proofs.Math.Path.{ap}
use Rattle.std.proofs.lemmas.Bool.{eqb-false}
use Rattle.whole.specs.Sum.{sum-cong}
use Rattle.rules.specs.declared.Kind.{Kind}
use Rattle.rules.specs.declared.Kind.TheVariants.{Permutation}
use Rattle.rules.specs.declared.Rule.{Rule}
use Rattle.rules.specs.Numbers.{unit, unit², bound, at}
use Rattle.rules.specs.Factors.{Factor, has_entry, matrix}
use Rattle.rules.specs.Stages.{R, inside, first_read, Stage, move, weigh, off, weighed, forward, Ran, later, run, run_forward}
use Rattle.rules.specs.Shapes.{stage_of, line_stage, line_stages, joint_source, joint_sign, joint_weight, joint_stage, joint_stages}
use Rattle.rules.specs.Shapes.{Lines, pass_source, pass_sign, pass_weight, pass_stage, pass_stages}
use Rattle.rules.proofs.Laws.SoundFactors.{AllMatch}
use Rattle.rules.proofs.Laws.Kinds.{by_kind, stage-moves, stage-weighs}
use Rattle.rules.proofs.Laws.Lists.{fill-same}
use Rattle.rules.proofs.Laws.Rectangles.{row_below, col-below}
use Rattle.rules.proofs.Laws.Passes.{Tiles}
use Rattle.laws.specs.Cut.{SameFactor, AllSame}

-- ---- lists of stages, and their runs
pub data SameStages (rule : Rule) (N : ℕ) : List Stage → List Stage → Type 0 where
  none : SameStages rule N [] []
  more :
      {s u : Stage} {ss us : List Stage} → ((v : List ℤ) → forward rule N s v ≡ forward rule N u v) → SameStages rule N ss us →
      SameStages rule N (s ∷ ss) (u ∷ us)

pub stages-self : (rule : Rule) (N : ℕ) (ss : List Stage) → SameStages rule N ss ss
stages-self rule N [] = SameStages.none
stages-self rule N (s ∷ ss) = SameStages.more (λ v. refl) (stages-self rule N ss)

pub stages-append :
    {rule : Rule} {N : ℕ} {ss us ts ws : List Stage} → SameStages rule N ss us → SameStages rule N ts ws →
    SameStages rule N (ss ++ ts) (us ++ ws)
stages-append SameStages.none b = b
stages-append (SameStages.more h a) b = SameStages.more h (stages-append a b)

pub stages-run :
    {rule : Rule} {N : ℕ} {ss us : List Stage} → SameStages rule N ss us → (x : List ℤ) →
    run_forward rule N ss x ≡ run_forward rule N us x
unfolding run_forward run
stages-run SameStages.none x = refl
stages-run {rule} {N} (SameStages.more {u = u} h a) x =
    rw (h x)
    (ap (λ (r : Ran). cond (inside bound N x) (later 1 r) (Ran.beyond 0 (first_read N x)))
    (stages-run a (forward rule N u x)))

-- ---- one stage
module _ (rule : Rule) (N : ℕ) (v : List ℤ) where
  move_same :
      (S : ℕ) (p q : ℕ → ℕ) → ((e : ℕ) → e < N → p e ≡ q e) → forward rule N (move S p) v ≡ forward rule N (move S q) v
  unfolding forward
  move_same S p q h = fill-same N _ _ v (λ e l. ap (at v) (h e l))

  weigh-same :
      (S : ℕ) (d c : ℕ → ℤ) (w u : ℕ → ℕ → ℤ) (o r : List ℕ) →
      ((e : ℕ) → e < N → d e ≡ c e) → ((e k : ℕ) → e < N → k < N → w e k ≡ u e k) →
      forward rule N (weigh S d w o) v ≡ forward rule N (weigh S c u r) v
  unfolding forward weighed off
  weigh-same S d c w u o r h g =
      fill-same N _ _ v
      (λ e l.
      rw (h e l)
      (ap (λ (x : ℤ). (c e *ℤ at v e) +ℤ R rule S x)
      (sum-cong N _ _ (λ k m. ap (λ (x : ℤ). cond (eqb e k) (pos 0) x *ℤ at v k) (g e k l m)))))

  -- a factor is a move or a weighing by its kind
  stage-same :
      {kind other : Kind} (m w x y : Stage) → kind ≡ other →
      (kind ≡ Permutation → forward rule N m v ≡ forward rule N x v) →
      (kind ≢ Permutation → forward rule N w v ≡ forward rule N y v) →
      forward rule N (stage_of kind m w) v ≡ forward rule N (stage_of other x y) v
  stage-same {kind} {other} m w x y e h g =
      subst (λ (k : Kind). forward rule N (stage_of kind m w) v ≡ forward rule N (stage_of k x y) v) e
      (by_kind (λ s. forward rule N s v ≡ forward rule N (stage_of kind x y) v) kind m w
      (λ q. h q ∙ sym (ap (λ (t : Stage). forward rule N t v) (stage-moves kind x y q)))
      (λ q. g q ∙ sym (ap (λ (t : Stage). forward rule N t v) (stage-weighs kind x y q))))

matrix-same :
    {n : ℕ} {f g : Factor} → SameFactor n f g → f.kind ≢ Permutation → (m k : ℕ) → m < n → k < n →
    matrix f m k ≡ matrix g m k
unfolding matrix
matrix-same {n} {f} {g} h q m k a b =
    rw (sym h.kind, sym h.row, sym (h.signs q m a))
    (split (eqb m k) refl (has_entry f.kind f.row m k) refl)
  where
    split :
        (x : Bool) → eqb m k ≡ x → (y : Bool) → has_entry f.kind f.row m k ≡ y →
        cond x (pos unit *ℤ f.sign m) (cond y (f.entry m k) (pos 0))
        ≡ cond x (pos unit *ℤ f.sign m) (cond y (g.entry m k) (pos 0))
    split true d y e = refl
    split false d true e = h.entries m k a b (eqb-false m k d) e
    split false d false e = refl

-- ---- a line
line_same :
    (rule : Rule) {n : ℕ} {f g : Factor} → SameFactor n f g → (v : List ℤ) →
    forward rule n (line_stage n f) v ≡ forward rule n (line_stage n g) v
unfolding line_stage
line_same rule {n} {f} {g} h v =
    stage-same rule n v _ _ _ _ h.kind
    (λ e. move_same rule n v unit f.place g.place (h.places e))
    (λ e. weigh-same rule n v unit f.sign g.sign (matrix f) (matrix g) _ _ (h.signs e) (matrix-same h e))

pub lines_same :
    (rule : Rule) {n : ℕ} {fs gs : List Factor} → AllSame n fs gs → SameStages rule n (line_stages n fs) (line_stages n gs)
unfolding line_stages
lines_same rule AllSame.none = SameStages.none
lines_same rule (AllSame.more h t) = SameStages.more (line_same rule h) (lines_same rule t)

-- ---- the same for a rectangle: element e stands in row e / n2 and column e % n2
module _ (rule : Rule) {n1 n2 : ℕ} where
  joint-same :
      {A A' B B' : Factor} → A.kind ≡ B.kind → SameFactor n1 A A' → SameFactor n2 B B' → (v : List ℤ) →
      forward rule (n1 * n2) (joint_stage n1 n2 A B) v ≡ forward rule (n1 * n2) (joint_stage n1 n2 A' B') v
  unfolding joint_stage joint_source joint_sign joint_weight
  joint-same {A} {A'} {B} {B'} q h g v =
      stage-same rule (n1 * n2) v _ _ _ _ h.kind
      (λ e.
      move_same rule (n1 * n2) v unit² _ _
      (λ i l. rw (h.places e (i / n2) (row_below n1 n2 i l), g.places (sym q ∙ e) (i % n2) (col-below n1 n2 i l))))
      (λ e.
      weigh-same rule (n1 * n2) v unit² _ _ _ _ _ _
      (λ i l. rw (h.signs e (i / n2) (row_below n1 n2 i l), g.signs (λ y. e (q ∙ y)) (i % n2) (col-below n1 n2 i l)))
      (λ i k l m.
      rw (
        matrix-same h e (i / n2) (k / n2) (row_below n1 n2 i l) (row_below n1 n2 k m),
        matrix-same g (λ z. e (q ∙ z)) (i % n2) (k % n2) (col-below n1 n2 i l) (col-below n1 n2 k m),
      )))

  pub joints-same :
      {fs gs hs ks : List Factor} → AllMatch n1 n2 fs hs → AllSame n1 fs gs → AllSame n2 hs ks →
      SameStages rule (n1 * n2) (joint_stages n1 n2 fs hs) (joint_stages n1 n2 gs ks)
  unfolding joint_stages
  joints-same AllMatch.none AllSame.none AllSame.none = SameStages.none
  joints-same (AllMatch.more u w q m) (AllSame.more h t) (AllSame.more c d) =
      SameStages.more (joint-same q h c) (joints-same m t d)

-- ---- a pass: an element is looked at by its spot in its line
pass_same :
    (rule : Rule) {N : ℕ} {r : Lines} → Tiles N r → {f g : Factor} → SameFactor r.long f g → (v : List ℤ) →
    forward rule N (pass_stage r f) v ≡ forward rule N (pass_stage r g) v
unfolding pass_stage pass_source pass_sign pass_weight
pass_same rule {N} {r} t {f} {g} h v =
    stage-same rule N v _ _ _ _ h.kind
    (λ q. move_same rule N v unit _ _ (λ e l. ap (r.join (r.line e)) (h.places q _ (t.spot-below e l))))
    (λ q.
    weigh-same rule N v unit _ _ _ _ _ _ (λ e l. h.signs q _ (t.spot-below e l))
    (λ e k l m.
    ap (λ (z : ℤ). cond (eqb (r.line e) (r.line k)) z (pos 0))
    (matrix-same h q _ _ (t.spot-below e l) (t.spot-below k m))))

pub passes_same :
    (rule : Rule) {N : ℕ} {r : Lines} → Tiles N r → {fs gs : List Factor} → AllSame r.long fs gs →
    SameStages rule N (pass_stages r fs) (pass_stages r gs)
unfolding pass_stages
passes_same rule t AllSame.none = SameStages.none
passes_same rule t (AllSame.more h a) = SameStages.more (pass_same rule t h) (passes_same rule t a)
