-- ALL PAIRS OF FACTORS: the stages one by one, forward and back, as the loops of the code meet them.
use Rattle.std.specs.Prelude.{List, [], ◌∷◌, ◌++◌, reverse, ◌≡◌, refl, ℤ}
use Rattle.std.proofs.lemmas.List.{reverse-append}
use Rattle.std.proofs.Common.{sym, ap, ◌∙◌, mul-le-mul}
use Prim.Native.Nat.{ℕ, suc, ◌+◌, ◌-◌, ◌*◌, ◌≤◌, ◌<◌}
use Rattle.std.proofs.Math.Nat.{sub_self, sub-zero}
use native.Mathlib.Omega.{arith}
use Rattle.rules.specs.Numbers.{most_cells, count}
use Rattle.rules.specs.Sheets.{kind_of}
use Rattle.rules.specs.Factors.{factor_at, factors_from, factors}
use Rattle.rules.specs.Stages.{Stage, Ran}
use Rattle.rules.specs.Shapes.{joint_stage, joint_stages}
use Rattle.rules.specs.Answers.{further, start, matching, pair_checked}
use Rattle.rules.proofs.Laws.Cuts.{joints-append}
use Rattle.rules.specs.GoodStages.{AllGood}
use Rattle.rules.proofs.Laws.Kinds.{joints-good}
use Rattle.laws.specs.Accepted.{Accepted, accepted-order, further-next, pair_read}
use Rattle.laws.specs.Sound.{factors-split, factors-length, counts-agree, kinds-agree, sheets-match}
use Rattle.factor.specs.declared.run.Task.{Task}
use Rattle.factor.specs.declared.run.Task.TheVariants.{Forward, Inverse, Allowance}
use Rattle.factor.specs.declared.run.Run.{Run}
use Rattle.factor.specs.Tasks.{is_inverse, nth_stage, in_order, run_by, ran}
use Rattle.factor.specs.StageLoops.{Listed}
use Rattle.factor.specs.LayoutInSheet.{Paired}

-- ---- two checked sheets that match
pub record Matched (c r : List ℤ) : Type 0 where
  pub column : Accepted c
  pub row : Accepted r
  pub match : (matching c r).number ≡ 0

pub matched : (c r : List ℤ) → (pair_checked c r).number ≡ 0 → Matched c r
matched c r h = let p = pair_read c r h in record { column = p.0; row = p.1; match = p.2 }

-- their factors number f
at-starts : {c r : List ℤ} → Matched c r → (f : ℕ) → f < count c 1 → Paired c r (count c 0) (count r 0) (start c f) (start r f)
at-starts {c} {r} m f l = record {
  some1 = (accepted-order m.column).least;
  most1 = (accepted-order m.column).most;
  column = m.column.each f l;
  some2 = (accepted-order m.row).least;
  most2 = (accepted-order m.row).most;
  row = m.row.each f (omega (arith, counts-agree c r m.match));
  match = ap kind_of (kinds-agree c r m.match f l);
}

-- as the code holds the orders and the starts
pub paired : {c r : List ℤ} → Matched c r → (f : ℕ) → f < count c 1 → {n1 n2 i j : ℕ} → n1 ≡ count c 0 → n2 ≡ count r 0 →
    i ≡ start c f → j ≡ start r f →
    Paired c r n1 n2 i j
paired m f l a b d e = rw (a, b, d, e) (at-starts m f l)

-- the numbers of a block
abbrev pub size_of : List ℤ → List ℤ → ℕ
size_of c r = count c 0 * count r 0

-- the stages of two sheets
abbrev pub joint_stages_of : List ℤ → List ℤ → List Stage
joint_stages_of c r = joint_stages (count c 0) (count r 0) (factors c) (factors r)

-- a run over two sheets: of the block in its room, and of the lent numbers
abbrev pub joint_run_by : Run → List ℤ → List ℤ → List ℤ → Ran
joint_run_by run c r x = run_by run (size_of c r) (joint_stages_of c r) x

abbrev pub joint_ran : Run → List ℤ → List ℤ → List ℤ → Ran
joint_ran run c r x = ran run (size_of c r) (joint_stages_of c r) x

module _ {c r : List ℤ} (m : Matched c r) where
  pub stages-good : AllGood (size_of c r) (joint_stages_of c r)
  stages-good = joints-good (sheets-match m.column m.row m.match)

  pub size-most : size_of c r ≤ most_cells
  size-most = mul-le-mul (accepted-order m.column).most (accepted-order m.row).most

module _ (c r : List ℤ) where
  abbrev n1 : ℕ
  n1 = count c 0

  abbrev n2 : ℕ
  n2 = count r 0

  abbrev K : ℕ
  K = count c 1

  -- the stage of the factors number f
  abbrev pub at_stage : ℕ → Stage
  at_stage f = joint_stage n1 n2 (factor_at c n1 (start c f)) (factor_at r n2 (start r f))

  -- ---- forward: the stages from the t-th on
  abbrev ahead : ℕ → List Stage
  ahead t = joint_stages n1 n2 (factors_from c n1 (K - t) (start c t)) (factors_from r n2 (K - t) (start r t))

  ahead-listed : Listed K at_stage ahead
  unfolding joint_stages factors_from further
  ahead-listed = record {
    next = λ t l. let e : K - t ≡ suc (K - (t + 1)) = omega arith in rw (e, further-next c n1 2 t, further-next r n2 2 t);
    end = rw (sub_self K);
  }

  -- ---- back: the stages before the last t, the last of them first
  abbrev behind : ℕ → List Stage
  behind t = reverse (joint_stages n1 n2 (factors_from c n1 (K - t) 2) (factors_from r n2 (K - t) 2))

  behind-listed : Listed K (λ t. at_stage (K - suc t)) behind
  behind-listed = record { next = λ t l. one_less t l; end = none_left }
    where
      none_left : behind K ≡ []
      none_left = rw (sub_self K) (unfold factors_from in unfold joint_stages in refl)

      last : (m : ℕ) → joint_stages n1 n2 (factors_from c n1 (m + 1) 2) (factors_from r n2 (m + 1) 2) ≡ joint_stages n1 n2
          (factors_from c n1 m 2) (factors_from r n2 m 2) ++ (at_stage m ∷ [])
      last m =
          rw (factors-split c n1 m 1 2, factors-split r n2 m 1 2)
          (joints-append n1 n2 (factors_from c n1 m 2) (factors_from r n2 m 2) (factors_from c n1 1 (start c m))
          (factors_from r n2 1 (start r m)) (factors-length c n1 m 2 ∙ sym (factors-length r n2 m 2))
          ∙ (unfold factors_from in unfold joint_stages in refl))

      one_less : (t : ℕ) → t < K → behind t ≡ at_stage (K - suc t) ∷ behind (t + 1)
      one_less t l =
          let e : K - t ≡ (K - suc t) + 1 = omega arith in
          let d : K - (t + 1) ≡ K - suc t = omega arith in
          rw (e, d, last (K - suc t), reverse-append)

  -- ---- by the task: the stages that are left after t
  unfoldable pub left : Task → ℕ → List Stage
  left Forward t = ahead t
  left Inverse t = behind t
  left Allowance t = ahead t

  pub left-listed : (task : Task) → Listed (count c 1) (λ t. at_stage (nth_stage task (count c 1) t)) (left task)
  unfolding left nth_stage is_inverse
  left-listed Forward = ahead-listed
  left-listed Inverse = behind-listed
  left-listed Allowance = ahead-listed

  -- all of them
  module _ (m : Matched c r) where
    ahead-all : joint_stages_of c r ≡ ahead 0
    unfolding factors further
    ahead-all = rw (counts-agree c r m.match, sub-zero)

    pub left-all : (task : Task) → in_order task (joint_stages_of c r) ≡ left task 0
    unfolding left in_order factors
    left-all Forward = ahead-all
    left-all Inverse = rw (counts-agree c r m.match, sub-zero)
    left-all Allowance = ahead-all
