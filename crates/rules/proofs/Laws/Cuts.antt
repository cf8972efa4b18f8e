-- Lists of factors cut in two, their counts and their scales: what carries the cut law and D over to sheets.
use mathlib.Core.List.{List, [], ◌∷◌, ◌++◌}
use Rattle.std.specs.Prelude.{◌≡◌, ℕ, ◌^◌, ℤ, length}
use Rattle.std.proofs.Math.Path.{refl}
use Rattle.std.proofs.Math.Nat as NatL
use Rattle.std.proofs.Common.{arith}
use Rattle.rules.specs.declared.Kind.{Kind}
use Rattle.rules.specs.Numbers.{unit, unit²}
use Rattle.rules.specs.Factors.{Factor}
use Rattle.rules.specs.Stages.{move, weigh, scale, exact_scale}
use Rattle.rules.specs.Shapes.{stage_of, line_stage, line_stages, joint_stage, joint_stages}
use Rattle.rules.proofs.Laws.Kinds.{by_kind}

pub lines-append : (n : ℕ) (fs gs : List Factor) → line_stages n (fs ++ gs) ≡ line_stages n fs ++ line_stages n gs
unfolding line_stages
lines-append n [] gs = refl
lines-append n (f ∷ fs) gs = rw (lines-append n fs gs)

pub lines-count : (n : ℕ) (fs : List Factor) → length (line_stages n fs) ≡ length fs
unfolding line_stages
lines-count n [] = refl
lines-count n (f ∷ fs) = rw (lines-count n fs)

-- D = 4096^K of a line
pub stage-scale : (kind : Kind) (S : ℕ) (p : ℕ → ℕ) (d : ℕ → ℤ) (w : ℕ → ℕ → ℤ) (o : List ℕ) →
    scale (stage_of kind (move S p) (weigh S d w o)) ≡ S
unfolding scale
stage-scale kind S p d w o = by_kind (λ s. scale s ≡ S) kind _ _ (λ e. refl) (λ q. refl)

pub lines-scale : (n : ℕ) (fs : List Factor) → exact_scale (line_stages n fs) ≡ unit ^ length fs
unfolding exact_scale line_stages line_stage
lines-scale n [] = refl
lines-scale n (f ∷ fs) = rw (stage-scale f.kind unit _ _ _ _, lines-scale n fs) (omega (arith, NatL.pow-suc unit (length fs)))

-- ---- rectangles: the two lists of factors are equally long
module _ (n1 n2 : ℕ) where
  pub joints-append : (us bs vs ds : List Factor) → length us ≡ length bs →
      joint_stages n1 n2 (us ++ vs) (bs ++ ds) ≡ joint_stages n1 n2 us bs ++ joint_stages n1 n2 vs ds
  unfolding joint_stages
  joints-append [] [] vs ds h = refl
  joints-append [] (b ∷ bs) vs ds h = absurd (omega arith)
  joints-append (a ∷ us) [] vs ds h = absurd (omega arith)
  joints-append (a ∷ us) (b ∷ bs) vs ds h = rw (joints-append us bs vs ds (omega arith))

  pub joints-count : (us bs : List Factor) → length us ≡ length bs → length (joint_stages n1 n2 us bs) ≡ length us
  unfolding joint_stages
  joints-count [] bs h = refl
  joints-count (a ∷ us) [] h = absurd (omega arith)
  joints-count (a ∷ us) (b ∷ bs) h = rw (joints-count us bs (omega arith))

  -- D = 16777216^K
  pub joints-scale : (us bs : List Factor) → length us ≡ length bs → exact_scale (joint_stages n1 n2 us bs) ≡ unit² ^ length us
  unfolding exact_scale joint_stages joint_stage
  joints-scale [] bs h = refl
  joints-scale (a ∷ us) [] h = absurd (omega arith)
  joints-scale (a ∷ us) (b ∷ bs) h =
      rw (stage-scale a.kind unit² _ _ _ _, joints-scale us bs (omega arith)) (omega (arith, NatL.pow-suc unit² (length us)))
