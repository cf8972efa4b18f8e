-- REQUEST R-4, THE CUT LAW: "a cut falls between column stages, between the passes or between row stages"; and a pass alone, cut
-- in two. Assumes nothing.
use Rattle.std.specs.Prelude.{List, ◌++◌, ◌≡◌, ℤ, length}
use Rattle.std.proofs.Common.{append_assoc, ◌∙◌, arith, length-append}
use Rattle.std.proofs.Math.Path.{refl, ap₂}
use Prim.Native.Nat.{ℕ, ◌+◌, ◌*◌, ◌<◌}
use Rattle.rules.specs.declared.Rule.{Rule}
use Rattle.rules.specs.Numbers.{count}
use Rattle.rules.specs.Factors.{factors}
use Rattle.rules.specs.Stages.{Stage, run_forward}
use Rattle.rules.specs.Shapes.{Lines, columns, rows, pass_stages}
use Rattle.rules.specs.Answers.{accepted, ◌or_else◌, checked}
use Rattle.rules.specs.Calls.{two_pass, order_checked, column_pass, row_pass}
use Rattle.rules.proofs.Laws.Runs.{follow, cut-forward}
use Rattle.rules.proofs.Laws.Passes.{Tiles, columns-tile, rows-tile, passes_append, passes_count}
use Rattle.laws.specs.Stated.Cuts.{CutLaw, cut, cut_front, cut_back}
use Rattle.laws.specs.Accepted.{Accepted, accepted-order, two-read, two-accepted}
use Rattle.laws.specs.Cut.{AllSame, cut-factors-count, front-accepted, back-accepted, cut-factors}
use Rattle.laws.specs.SameStages.{SameStages, stages-self, stages-append, stages-run, passes_same}
use Rattle.laws.proofs.CutLaw.{plans-cut}
use Rattle.laws.specs.Passes.{alone-read, alone-accepted, factors-count}

-- a run whose stages are those of two lists, one after the other
in_two_lem :
    (rule : Rule) {N : ℕ} {ss : List Stage} (us ts : List Stage) {f : ℕ} → SameStages rule N ss (us ++ ts) → length us ≡ f →
    (x : List ℤ) → run_forward rule N ss x ≡ follow f (run_forward rule N us x) (run_forward rule N ts)
in_two_lem rule {N} us ts h l x = stages-run h x ∙ rw (cut-forward rule N us ts x, l)

-- the stages of a pass, and those of the two parts of its sheet
parts-count : (l : Lines) {s : List ℤ} → Accepted s → (f : ℕ) → 0 < f → f < count s 1 →
    length (pass_stages l (factors (cut_front s f))) ≡ f
parts-count l {s} a f some not-all = passes_count l (factors (cut_front s f)) ∙ cut-factors-count a 0 f some (omega arith)

parts_same :
    (rule : Rule) {N : ℕ} {l : Lines} → Tiles N l → (s : List ℤ) (f : ℕ) →
    AllSame l.long (factors s) (factors (cut_front s f) ++ factors (cut_back s f)) →
    SameStages rule N (pass_stages l (factors s)) (pass_stages l (factors (cut_front s f)) ++ pass_stages l (factors (cut_back s f)))
parts_same rule {N} {l} t s f h =
    rw (← (passes_append l (factors (cut_front s f)) (factors (cut_back s f)))) (passes_same rule t h)

-- ---- a two-pass run
module _ (rule : Rule) (c r : List ℤ) (h : (two_pass c r).sheets.number ≡ 0) where
  sheets : Accepted c × Accepted r
  unfolding two_pass
  sheets = two-read c r h

  abbrev n1 : ℕ
  n1 = count c 0

  abbrev n2 : ℕ
  n2 = count r 0

  abbrev down : List ℤ → List Stage
  down s = pass_stages (columns n1 n2) (factors s)

  abbrev along : List ℤ → List Stage
  along s = pass_stages (rows n1 n2) (factors s)

  other-order : {s t : List ℤ} → Accepted s → Accepted t → checked s or_else order_checked (count t 0) ≡ accepted
  other-order {s} {t} a b = alone-accepted a (count t 0) (accepted-order b).least (accepted-order b).most

  -- between column stages: the front is a pass alone
  pub column-cut :
      (f : ℕ) → 0 < f → f < count c 1 →
      CutLaw rule (two_pass c r) (column_pass (cut_front c f) (count r 0)) (two_pass (cut_back c f) r) f
  unfolding two_pass column_pass cut
  column-cut f some not-all =
      let a = sheets.0 in
      let b = sheets.1 in
      let front = down (cut_front c f) in
      let back = down (cut_back c f) in
      plans-cut rule (two_pass c r) (column_pass (cut_front c f) (count r 0)) (two_pass (cut_back c f) r) f h
      (other-order (front-accepted a f some not-all) b) (two-accepted (back-accepted a f some not-all) b) refl refl
      (in_two_lem rule front (back ++ along r)
      (rw (← (append_assoc front back (along r)))
      (stages-append (parts_same rule (columns-tile n1 n2) c f (cut-factors a f some not-all))
      (stages-self rule (n1 * n2) (along r))))
      (parts-count (columns n1 n2) a f some not-all))

  -- between the passes
  pub passes-cut : CutLaw rule (two_pass c r) (column_pass c (count r 0)) (row_pass r (count c 0)) (count c 1)
  unfolding two_pass column_pass row_pass
  passes-cut =
      let a = sheets.0 in
      let b = sheets.1 in
      plans-cut rule (two_pass c r) (column_pass c (count r 0)) (row_pass r (count c 0)) (count c 1) h
      (other-order a b) (other-order b a) refl refl
      (in_two_lem rule (down c) (along r) (stages-self rule (n1 * n2) (down c ++ along r))
      (passes_count (columns n1 n2) (factors c) ∙ factors-count c))

  -- between row stages: the back is a pass alone
  pub row_cut :
      (f : ℕ) → 0 < f → f < count r 1 →
      CutLaw rule (two_pass c r) (two_pass c (cut_front r f)) (row_pass (cut_back r f) (count c 0)) (count c 1 + f)
  unfolding two_pass row_pass cut
  row_cut f some not-all =
      let a = sheets.0 in
      let b = sheets.1 in
      let front = along (cut_front r f) in
      let back = along (cut_back r f) in
      plans-cut rule (two_pass c r) (two_pass c (cut_front r f)) (row_pass (cut_back r f) (count c 0)) (count c 1 + f) h
      (two-accepted a (front-accepted b f some not-all)) (other-order (back-accepted b f some not-all) a) refl refl
      (in_two_lem rule (down c ++ front) back
      (rw (append_assoc (down c) front back)
      (stages-append (stages-self rule (n1 * n2) (down c))
      (parts_same rule (rows-tile n1 n2) r f (cut-factors b f some not-all))))
      (length-append (down c) front
      ∙ ap₂ ◌+◌ (passes_count (columns n1 n2) (factors c) ∙ factors-count c) (parts-count (rows n1 n2) b f some not-all)))

-- ---- a pass alone, cut in two
module _ (rule : Rule) (s : List ℤ) (n f : ℕ) (some : 0 < f) (not-all : f < count s 1) where
  pub column-alone-cut :
      (column_pass s n).sheets.number ≡ 0 →
      CutLaw rule (column_pass s n) (column_pass (cut_front s f) n) (column_pass (cut_back s f) n) f
  unfolding column_pass cut
  column-alone-cut h =
      let b = alone-read s n h in
      let l = columns (count s 0) n in
      plans-cut rule (column_pass s n) (column_pass (cut_front s f) n) (column_pass (cut_back s f) n) f h
      (alone-accepted (front-accepted b.0 f some not-all) n b.1 b.2)
      (alone-accepted (back-accepted b.0 f some not-all) n b.1 b.2) refl refl
      (in_two_lem rule (pass_stages l (factors (cut_front s f))) (pass_stages l (factors (cut_back s f)))
      (parts_same rule (columns-tile (count s 0) n) s f (cut-factors b.0 f some not-all))
      (parts-count l b.0 f some not-all))

  pub row-alone-cut :
      (row_pass s n).sheets.number ≡ 0 → CutLaw rule (row_pass s n) (row_pass (cut_front s f) n) (row_pass (cut_back s f) n) f
  unfolding row_pass cut
  row-alone-cut h =
      let b = alone-read s n h in
      let l = rows n (count s 0) in
      plans-cut rule (row_pass s n) (row_pass (cut_front s f) n) (row_pass (cut_back s f) n) f h
      (alone-accepted (front-accepted b.0 f some not-all) n b.1 b.2)
      (alone-accepted (back-accepted b.0 f some not-all) n b.1 b.2) refl refl
      (in_two_lem rule (pass_stages l (factors (cut_front s f))) (pass_stages l (factors (cut_back s f)))
      (parts_same rule (rows-tile n (count s 0)) s f (cut-factors b.0 f some not-all))
      (parts-count l b.0 f some not-all))
