-- R-4: THE STAGES OF A PASS ARE GOOD, over the columns and over the rows of a rectangle; their lists cut in two, counts and
-- scales.
use mathlib.Core.List.{List, [], ◌∷◌, ◌++◌}
use Rattle.std.specs.Prelude.{◌≢◌, ◌≡◌, ℕ, ◌+◌, ◌*◌, ◌^◌, ◌≤◌, ◌<◌, ℤ, length}
use Rattle.std.proofs.Math.Path.{refl, ap, ap₂}
use Rattle.std.proofs.Common.{sym, ◌∙◌, arith, eq-eqb, ne_eqb}
use Rattle.std.proofs.Math.Nat as NatL
use Rattle.std.proofs.Math.Decide.{ℕ_discrete}
use Rattle.std.proofs.Math.IntN.{pos}
use Rattle.whole.specs.Stated.{sum}
use Rattle.whole.specs.Sum.{sum-swap}
use Rattle.rules.specs.Numbers.{unit}
use Rattle.rules.specs.Factors.{Factor, matrix}
use Rattle.rules.specs.Stages.{Stage, exact_scale}
use Rattle.rules.specs.Shapes.{turn, in_row, Lines, columns, rows, pass_source, pass_sign, pass_weight, pass_turn, pass_stage}
use Rattle.rules.specs.Shapes.{pass_stages}
use Rattle.rules.specs.GoodStages.{Permutes, Good, moves, weighs, AllGood}
use Rattle.rules.proofs.Laws.SoundFactors.{Sound, AllSound}
use Rattle.rules.proofs.Laws.RecoveryOrder.{Ranked, turns-recover}
use Rattle.rules.proofs.Laws.Rectangles.{row_below, col-below, element-below, row-of, col-of, sum_rows}
use Rattle.rules.proofs.Laws.Kinds.{by_kind, line-ranked}
use Rattle.rules.proofs.Laws.Cuts.{stage-scale}

-- every element of N is in one line, at one spot
pub record Tiles (N : ℕ) (r : Lines) : Type 0 where
  pub all : r.many * r.long ≡ N
  pub line-below : (e : ℕ) → e < N → r.line e < r.many
  pub spot-below : (e : ℕ) → e < N → r.spot e < r.long
  pub join-below : (l i : ℕ) → l < r.many → i < r.long → r.join l i < N
  pub line-join : (l i : ℕ) → l < r.many → i < r.long → r.line (r.join l i) ≡ l
  pub spot-join : (l i : ℕ) → l < r.many → i < r.long → r.spot (r.join l i) ≡ i
  pub join-of : (e : ℕ) → e < N → r.join (r.line e) (r.spot e) ≡ e
  -- a sum over the block, line by line
  pub sums : (g : ℕ → ℤ) → sum N g ≡ sum r.many (λ l. sum r.long (λ i. g (r.join l i)))

pub columns-tile : (n1 n2 : ℕ) → Tiles (n1 * n2) (columns n1 n2)
columns-tile n1 n2 = record {
  all = NatL.mul_comm n2 n1;
  line-below = col-below n1 n2;
  spot-below = row_below n1 n2;
  join-below = λ l i a b. element-below n1 n2 i l b a;
  line-join = λ l i a b. col-of n1 n2 i l a;
  spot-join = λ l i a b. row-of n1 n2 i l a;
  join-of = λ e l. NatL.div-add-mod' e n2;
  sums = λ g. sum_rows n1 n2 g ∙ sum-swap n1 n2 (λ i l. g (i * n2 + l));
}

pub rows-tile : (n1 n2 : ℕ) → Tiles (n1 * n2) (rows n1 n2)
rows-tile n1 n2 = record {
  all = refl;
  line-below = row_below n1 n2;
  spot-below = col-below n1 n2;
  join-below = λ l i a b. element-below n1 n2 l i a b;
  line-join = λ l i a b. row-of n1 n2 l i b;
  spot-join = λ l i a b. col-of n1 n2 l i b;
  join-of = λ e l. NatL.div-add-mod' e n2;
  sums = sum_rows n1 n2;
}

-- each line by the same permutation
lines-permute : {N : ℕ} {r : Lines} {g : ℕ → ℕ} → Tiles N r → Permutes r.long g →
    Permutes N (λ e. r.join (r.line e) (g (r.spot e)))
lines-permute {N} {r} {g} h p = record {
  from = λ e. r.join (r.line e) (p.from (r.spot e));
  below = λ e l. h.join-below _ _ (h.line-below e l) (p.below _ (h.spot-below e l));
  from-below = λ e l. h.join-below _ _ (h.line-below e l) (p.from-below _ (h.spot-below e l));
  to-from = λ e l. back e l g _ (p.from-below _ (h.spot-below e l)) (p.to-from _ (h.spot-below e l));
  from-to = λ e l. back e l p.from _ (p.below _ (h.spot-below e l)) (p.from-to _ (h.spot-below e l));
}
  where
    back : (e : ℕ) → e < N → (g : ℕ → ℕ) (i : ℕ) → i < r.long → g i ≡ r.spot e →
        r.join (r.line (r.join (r.line e) i)) (g (r.spot (r.join (r.line e) i))) ≡ e
    back e l g i b q =
        rw (h.line-join (r.line e) i (h.line-below e l) b, h.spot-join (r.line e) i (h.line-below e l) b, q)
        (h.join-of e l)

module _ {N : ℕ} {r : Lines} (h : Tiles N r) (f : Factor) where
  pass-permutes : Permutes r.long f.place → Permutes N (pass_source r f)
  unfolding pass_source
  pass-permutes p = lines-permute h p

  abbrev own : ℕ → ℕ
  own m = turn f.kind r.long (in_row f m) m

  line : Ranked r.long (r.long + 4) (matrix f) own
  line = line-ranked r.long f

  pass-blind : (e k : ℕ) → e < N → k < N → e ≢ k →
      r.line e * (r.long + 4) + own (r.spot e) ≤ r.line k * (r.long + 4) + own (r.spot k) → pass_weight r f e k ≡ pos 0
  unfolding pass_weight
  pass-blind e k l m q t = go (ℕ_discrete (r.line e) (r.line k))
    where
      go : Dec (r.line e ≡ r.line k) → pass_weight r f e k ≡ pos 0
      go (yes i) =
          rw (eq-eqb _ _ i)
          (line.blind _ _ (h.spot-below e l) (h.spot-below k m)
          (λ j. q (sym (h.join-of e l) ∙ ap₂ r.join i j ∙ h.join-of k m))
          (omega (arith, ap (λ (x : ℕ). x * (r.long + 4)) i)))
      go (no i) = rw (ne_eqb _ _ i)

  pass-ranked : Ranked N (r.many * (r.long + 4)) (pass_weight r f) (pass_turn r f)
  unfolding pass_turn
  pass-ranked = record {
    top = λ e l. element-below r.many (r.long + 4) _ _ (h.line-below e l) (line.top _ (h.spot-below e l));
    blind = pass-blind;
  }

  pub pass-good : Sound r.long f → Good N (pass_stage r f)
  unfolding pass_stage pass_sign
  pass-good s =
      by_kind (Good N) f.kind _ _
      (λ e. moves {S = unit} (omega arith) (pass-permutes (s.places e)))
      (λ q. rw h.all (weighs {S = unit} (omega arith) (turns-recover pass-ranked (λ e l. s.signs q _ (h.spot-below e l)))))

pub passes-good : {N : ℕ} {r : Lines} → Tiles N r → {fs : List Factor} → AllSound r.long fs → AllGood N (pass_stages r fs)
unfolding pass_stages
passes-good h AllSound.none = AllGood.none
passes-good h (AllSound.more {f} {fs} s t) = AllGood.more (pass-good h f s) (passes-good h t)

module _ (r : Lines) where
  pub passes_append : (fs gs : List Factor) → pass_stages r (fs ++ gs) ≡ pass_stages r fs ++ pass_stages r gs
  unfolding pass_stages
  passes_append [] gs = refl
  passes_append (f ∷ fs) gs = rw (passes_append fs gs)

  pub passes_count : (fs : List Factor) → length (pass_stages r fs) ≡ length fs
  unfolding pass_stages
  passes_count [] = refl
  passes_count (f ∷ fs) = rw (passes_count fs)

  -- "scale 4096 for each factor of either sheet"
  pub passes-scale : (fs : List Factor) → exact_scale (pass_stages r fs) ≡ unit ^ length fs
  unfolding exact_scale pass_stages pass_stage
  passes-scale [] = refl
  passes-scale (f ∷ fs) = rw (stage-scale f.kind unit _ _ _ _, passes-scale fs) (omega (arith, NatL.pow-suc unit (length fs)))

pub scale-append : (ss us : List Stage) → exact_scale (ss ++ us) ≡ exact_scale ss * exact_scale us
unfolding exact_scale
scale-append [] us = omega arith
scale-append (s ∷ ss) us = rw (scale-append ss us) (omega arith)
