-- ONE PAIR OF FACTORS, as the code goes through it, is the document's joint stage: applied, undone, and for allowances.
use Rattle.std.specs.Prelude.{Bool, false, List, ◌≢◌, ◌⊎◌, ◌≡◌, ℤ, nat_abs, ◌+ℤ◌, ◌-ℤ◌, replicate}
use Rattle.std.proofs.Math.Bool.{cond}
use Rattle.std.proofs.Common.{inl, inr, ◌∙◌, subst, arith}
use Rattle.std.proofs.Math.Path.{refl, sym, ap, ap₂}
use Prim.Native.Nat.{ℕ, ◌+◌, ◌*◌, ◌/◌, ◌%◌, ◌≤◌, ◌<◌}
use Rattle.std.proofs.Math.Nat.{mul-le-mul}
use Rattle.std.proofs.Math.IntN.{pos, ◌*ℤ◌, zero-*ℤ, *ℤ-zero}
use Rattle.std.proofs.Math.ListN.{length}
use Rattle.whole.specs.Stated.{sum}
use Rattle.whole.specs.Sum.{sum-cong}
use Rattle.rules.specs.declared.Kind.{Kind}
use Rattle.rules.specs.declared.Kind.TheVariants.{Permutation}
use Rattle.rules.specs.Numbers.{most_order, most_cells, unit², at, count}
use Rattle.rules.specs.Sheets.{kind_of}
use Rattle.rules.specs.Factors.{Factor, signs_at, factor_at, matrix}
use Rattle.rules.specs.declared.Rule.{Rule}
use Rattle.rules.specs.Stages.{Stage, move, weigh, R, ceiling, share, off, weighed, multiples, forward, undo, allow}
use Rattle.rules.specs.Shapes.{order, joint_source, joint_sign, joint_weight, joint_shared, joint_stage}
use Rattle.rules.specs.GoodStages.{Permutes, Good}
use Rattle.rules.proofs.Laws.SoundFactors.{good-recovers}
use Rattle.rules.proofs.Laws.Kinds.{joint-good, joint-signs, stage-moves, stage-weighs}
use Rattle.rules.proofs.Laws.Lists.{fill-at, fill-same, put_same}
use Rattle.rules.proofs.Laws.Rectangles.{row_below, col-below, row-of, col-of, joint-sum, joint-abs-sum}
use Rattle.laws.specs.Accepted.{FactorRead}
use Rattle.laws.specs.Sound.{factor-sound}
use Rattle.factor.specs.declared.Layout.{Layout}
use Rattle.factor.specs.declared.run.Task.{Task}
use Rattle.factor.specs.declared.run.Task.TheVariants.{Forward, Inverse, Allowance}
use Rattle.factor.specs.declared.run.Run.{Run}
use Rattle.factor.specs.SumBounds.{Bounded}
use Rattle.factor.specs.Tasks.{is_inverse, limit_of, stage_by, taken_by}
use Rattle.factor.specs.Steps.{Step}
use Rattle.factor.specs.MovedInPlace.{moved_by}
use Rattle.factor.specs.Layouts.{row_in, layout_by, layout_at, row_of, is_move}
use Rattle.factor.specs.LayoutInSheet.{in-sheet, move-no, row_inside, Paired}
use Rattle.factor.specs.UndoingOrder.{nth_undone, undoing-permutes, later-blind}
use Rattle.factor.specs.WholeRows.{row-whole}
use Rattle.factor.specs.InPlace.{in_place, in-place-undoes}
use Rattle.joint.specs.Sums.{in_column, column_sums, joint_sum}
use Rattle.joint.specs.Elements.{sign_at, diagonal_of, sums_at, rounded_sum, applied_at, undone_at, applied_of, undone_of}
use Rattle.joint.specs.Allowances.{magnitude_sums, magnitude_sum, whole_row, allowed_at, allowed_of}
use Rattle.joint.specs.RowsInPlace.{element_of, row_order, in-place-fill}
use Rattle.rectanglerun.specs.Multiples.{joint-whole}
use Rattle.pairmoves.specs.Moves.{source_of}
use Rattle.rectanglerun.specs.Weights.{diagonal-there, across-row, magnitude-there, magnitudes-row-is}
use Rattle.rectanglerun.specs.RowsInTurn.{Weighable, Weighed}
use Rattle.rectanglerun.specs.UndoingOrder.{nth_undone_pair, nth_row, pair_order}
use Rattle.rectanglerun.specs.UndoingOrder.{weights_by, pairs-permute, rows-permute, earlier}

-- ---- element by element
module _ (c r : List ℤ) (n1 n2 a b : ℕ) where
  abbrev A : Factor
  A = factor_at c n1 a

  abbrev B : Factor
  B = factor_at r n2 b

  abbrev fa : Layout
  fa = layout_at c n1 a

  abbrev fb : Layout
  fb = layout_at r n2 b

  abbrev W : Stage
  W = weigh unit² (joint_sign n1 n2 A B) (joint_weight n1 n2 A B) (order A.kind (n1 * n2) (joint_shared n1 n2 A B))

  weighing : kind_of (count c a) ≢ Permutation → joint_stage n1 n2 A B ≡ W
  unfolding joint_stage factor_at
  weighing q = stage-weighs (kind_of (count c a)) _ _ q

  moving : kind_of (count c a) ≡ Permutation → joint_stage n1 n2 A B ≡ move unit² (joint_source n1 n2 A B)
  unfolding joint_stage factor_at
  moving q = stage-moves (kind_of (count c a)) _ _ q

  module _ (ha : FactorRead c n1 a) (hb : FactorRead r n2 b) (match : kind_of (count c a) ≡ kind_of (count r b))
      (q : kind_of (count c a) ≢ Permutation)
      (t2 : n2 ≤ most_order) where
    qb : kind_of (count r b) ≢ Permutation
    qb e = q (match ∙ e)

    sums-there : (x : List ℤ) (i k : ℕ) → i < n1 → k < n2 →
        at (sums_at c fa i x n2) k ≡ sum n1 (λ l. matrix A i l *ℤ at x (l * n2 + k))
    unfolding column_sums
    sums-there x i k l g = fill-at n2 _ (replicate most_order (pos 0)) k g t2 ∙ across-row ha q i l (in_column x n2 k)

    -- the sum of an element
    element-is : (x : List ℤ) (e : ℕ) → e < n1 * n2 →
        joint_sum r (row_of fb (e % n2)) (e % n2) (diagonal_of (sign_at r fb (e % n2))) (diagonal_of (sign_at c fa (e / n2)))
        (sums_at c fa (e / n2) x n2) (at x e)
        ≡ weighed (n1 * n2) (off (joint_weight n1 n2 A B) e) x
    unfolding joint_sum
    element-is x e l =
        let i = row_below n1 n2 e l in
        let j = col-below n1 n2 e l in
        ap₂ (λ (p o : ℤ). p -ℤ (o *ℤ at x e))
        (across-row hb qb (e % n2) j (at (sums_at c fa (e / n2) x n2))
        ∙ sum-cong n2 _ _ (λ k g. ap (λ (z : ℤ). matrix B (e % n2) k *ℤ z) (sums-there x (e / n2) k i g)))
        (sym (ap₂ ◌*ℤ◌ (diagonal-there c n1 a (e / n2)) (diagonal-there r n2 b (e % n2))))
        ∙ sym (joint-sum n1 n2 A B e x l)

    sign-is : (e : ℕ) → sign_at c fa (e / n2) *ℤ sign_at r fb (e % n2) ≡ joint_sign n1 n2 A B e
    unfolding joint_sign factor_at layout_at layout_by
    sign-is e = refl

    rounded-sum-is : (rule : Rule) (x : List ℤ) (e : ℕ) → e < n1 * n2 →
        rounded_sum rule r fb (e % n2) (sign_at c fa (e / n2)) (sums_at c fa (e / n2) x n2) (at x e) ≡ R rule unit²
        (weighed (n1 * n2) (off (joint_weight n1 n2 A B) e) x)
    unfolding rounded_sum
    rounded-sum-is rule x e l = ap (R rule unit²) (element-is x e l)

    -- APPLIED
    applied-is : (rule : Rule) (x : List ℤ) (e : ℕ) → e < n1 * n2 →
        applied_of rule c fa r fb x e ≡ (joint_sign n1 n2 A B e *ℤ at x e) +ℤ R rule unit²
        (weighed (n1 * n2) (off (joint_weight n1 n2 A B) e) x)
    unfolding applied_of applied_at layout_at layout_by
    applied-is rule x e l = ap₂ (λ (d z : ℤ). (d *ℤ at x e) +ℤ z) (sign-is e) (rounded-sum-is rule x e l)

    undone-is : (rule : Rule) (x : List ℤ) (e : ℕ) → e < n1 * n2 →
        undone_of rule c fa r fb x e ≡ joint_sign n1 n2 A B e *ℤ
        (at x e -ℤ R rule unit² (weighed (n1 * n2) (off (joint_weight n1 n2 A B) e) x))
    unfolding undone_of undone_at layout_at layout_by
    undone-is rule x e l = ap₂ (λ (d z : ℤ). d *ℤ (at x e -ℤ z)) (sign-is e) (rounded-sum-is rule x e l)

    -- ALLOWANCES
    module _ (t1 : n1 ≤ most_order) where
      magnitude-sums-there : (x : List ℤ) (i k : ℕ) → i < n1 → k < n2 →
          at (magnitude_sums c fa i x n2) k ≡ sum n1 (λ l. pos (nat_abs (matrix A i l)) *ℤ at x (l * n2 + k))
      unfolding column_sums
      magnitude-sums-there x i k l g =
          fill-at n2 _ (replicate most_order (pos 0)) k g t2 ∙ magnitudes-row-is t1 ha q i l (in_column x n2 k)

      sizes-are : (x : List ℤ) (e : ℕ) → e < n1 * n2 →
          magnitude_sum r fb (e % n2) (magnitude_sums c fa (e / n2) x n2) (at x e) ≡ weighed (n1 * n2)
          (λ k. pos (nat_abs (off (joint_weight n1 n2 A B) e k))) x
      unfolding joint_sum
      sizes-are x e l =
          let i = row_below n1 n2 e l in
          let j = col-below n1 n2 e l in
          ap₂ (λ (p o : ℤ). p -ℤ (o *ℤ at x e))
          (magnitudes-row-is t2 hb qb (e % n2) j (at (magnitude_sums c fa (e / n2) x n2))
          ∙ sum-cong n2 _ _ (λ k g. ap (λ (z : ℤ). pos (nat_abs (matrix B (e % n2) k)) *ℤ z)
          (magnitude-sums-there x (e / n2) k i g)))
          (sym (ap₂ (λ (a b : ℕ). pos a *ℤ pos b) (magnitude-there ha q (e / n2) i) (magnitude-there hb qb (e % n2) j)))
          ∙ sym (joint-abs-sum n1 n2 A B e x l)

      share-is : (e : ℕ) → e < n1 * n2 →
          cond (whole_row c fa (e / n2)) (whole_row r fb (e % n2)) false ≡ multiples unit² (n1 * n2) (off (joint_weight n1 n2 A B) e)
      share-is e l =
          let i = row_below n1 n2 e l in
          let j = col-below n1 n2 e l in
          ap₂ (λ (a b : Bool). cond a b false) (sym (row-whole ha q (e / n2) i)) (sym (row-whole hb qb (e % n2) j))
          ∙ sym (joint-whole n1 n2 A B e l (magnitude-there ha q (e / n2) i) (magnitude-there hb qb (e % n2) j))

      allow-one : (rule : Rule) (x : List ℤ) (e : ℕ) → e < n1 * n2 →
          allowed_of rule c fa r fb x e
          ≡ (at x e +ℤ ceiling unit² (weighed (n1 * n2) (λ k. pos (nat_abs (off (joint_weight n1 n2 A B) e k))) x))
          +ℤ cond (multiples unit² (n1 * n2) (off (joint_weight n1 n2 A B) e)) (pos 0) (pos (share rule))
      unfolding allowed_of allowed_at layout_at layout_by
      allow-one rule x e l =
          ap₂ (λ (z : ℤ) (w : Bool). (at x e +ℤ ceiling unit² z) +ℤ cond w (pos 0) (pos (share rule))) (sizes-are x e l)
          (share-is e l)

    -- UNDONE: the code's order is as good as the document's
    module _ (low : (layout_at c n1 a).row < n1) (low' : (layout_at r n2 b).row < n2) where
      abbrev kind : Kind
      kind = kind_of (count c a)

      permutes : Permutes (n1 * n2) (nth_undone_pair fa fb)
      unfolding layout_at layout_by
      permutes = pairs-permute fa fb low low'

      later-row : (s : List ℤ) (n i : ℕ) → (layout_at s n i).row < n → (t u : ℕ) → t < u → u < n →
          matrix (factor_at s n i) (nth_undone (kind_of (count s i)) n (layout_at s n i).row t)
          (nth_undone (kind_of (count s i)) n (layout_at s n i).row u) ≡ pos 0
      unfolding layout_at layout_by factor_at row_in
      later-row s n i b t u l k =
          later-blind (factor_at s n i) (kind_of (count s i)) n (row_in (kind_of (count s i)) s i) t u refl b (λ e. rw e) l k

      blind : (t u : ℕ) → t < u → u < n1 * n2 → joint_weight n1 n2 A B (nth_undone_pair fa fb t) (nth_undone_pair fa fb u) ≡ pos 0
      unfolding joint_weight layout_at layout_by
      blind t u l k =
          let wide : 0 < n2 = omega (arith, col-below n1 n2 u k) in
          let ct = (undoing-permutes (kind_of (count r b)) n2 fb.row low').below (t % n2) (col-below n1 n2 t (omega arith)) in
          let cu = (undoing-permutes (kind_of (count r b)) n2 fb.row low').below (u % n2) (col-below n1 n2 u k) in
          rw (row-of n1 n2 _ _ ct, col-of n1 n2 _ _ ct, row-of n1 n2 _ _ cu, col-of n1 n2 _ _ cu)
          (go (earlier n2 t u l wide))
        where
          p_a : ℕ → ℕ
          p_a = nth_undone kind n1 fa.row

          p_b : ℕ → ℕ
          p_b = nth_undone (kind_of (count r b)) n2 fb.row

          go : (t / n2 < u / n2) ⊎ ((t / n2 ≡ u / n2) × (t % n2 < u % n2)) →
              matrix A (p_a (t / n2)) (p_a (u / n2)) *ℤ matrix B (p_b (t % n2)) (p_b (u % n2)) ≡ pos 0
          go (inl h) =
              rw (later-row c n1 a low (t / n2) (u / n2) h (row_below n1 n2 u k)) (zero-*ℤ (matrix B (p_b (t % n2)) (p_b (u % n2))))
          go (inr h) =
              rw (later-row r n2 b low' (t % n2) (u % n2) h.1 (col-below n1 n2 u k))
              (*ℤ-zero (matrix A (p_a (t / n2)) (p_a (u / n2))))

      undo-is : (rule : Rule) (y : List ℤ) → n1 * n2 ≤ length y →
          in_place (undone_of rule c fa r fb) (nth_undone_pair fa fb) (n1 * n2) y ≡ undo rule (n1 * n2) W y
      unfolding undo
      undo-is rule y room =
          in-place-undoes permutes rule unit² (joint_sign n1 n2 A B) (joint_weight n1 n2 A B) (undone_of rule c fa r fb)
          (undone-is rule)
          (omega arith)
          (joint-signs n1 n2 A B match' (factor-sound ha) (factor-sound hb) q')
          blind
          (good-recovers (subst (Good (n1 * n2)) (weighing q) (joint-good n1 n2 A B match' (factor-sound ha) (factor-sound hb))))
          y room
        where
          match' : A.kind ≡ B.kind
          match' = unfold factor_at in match

          q' : A.kind ≢ Permutation
          q' = unfold factor_at in q

      -- BY THE TASK: forward and for allowances every element is from the old block, so that the order of the rows is no matter
      module _ (t1 : n1 ≤ most_order) (x : List ℤ) (room : n1 * n2 ≤ length x) where
        weighed-by : (task : Task) (rule : Rule) →
            in_place (element_of task rule c fa r fb x) (pair_order task fa fb) (n1 * n2) x ≡ stage_by task rule (n1 * n2) W x
        unfolding element_of pair_order row_order nth_row is_inverse stage_by forward allow layout_at layout_by
        weighed-by Forward rule =
            in-place-fill (rows-permute fa fb low) (applied_of rule c fa r fb x) x room
            ∙ fill-same (n1 * n2) _ _ x (applied-is rule x)
        weighed-by Inverse rule = undo-is rule x room
        weighed-by Allowance rule =
            in-place-fill (rows-permute fa fb low) (allowed_of rule c fa r fb x) x room
            ∙ fill-same (n1 * n2) _ _ x (allow-one t1 rule x)

        pub weights-are : (run : Run) →
            weights_by run c (layout_at c n1 a) r (layout_at r n2 b) x ≡ taken_by run (n1 * n2)
            (joint_stage n1 n2 (factor_at c n1 a) (factor_at r n2 b)) x
        unfolding layout_at layout_by
        weights-are run =
            weighed-by run.task run.rule
            ∙ ap (λ (t : Stage). stage_by run.task run.rule (n1 * n2) t x) (sym (weighing q))

  -- A PAIR OF PERMUTATIONS, by the task
  module _ (match : kind_of (count c a) ≡ kind_of (count r b)) (q : kind_of (count c a) ≡ Permutation) where
    source-there : (e : ℕ) → source_of c fa r fb e ≡ joint_source n1 n2 A B e
    unfolding source_of joint_source factor_at layout_at layout_by signs_at
    source-there e = rw (← match, q)

    moved_by_lem : (task : Task) (rule : Rule) (x : List ℤ) →
        moved_by (is_inverse task) (n1 * n2) (source_of c fa r fb) x ≡ stage_by task rule (n1 * n2)
        (move unit² (joint_source n1 n2 A B)) x
    unfolding moved_by is_inverse stage_by forward undo allow
    moved_by_lem Forward rule x = fill-same (n1 * n2) _ _ x (λ e l. rw (source-there e))
    moved_by_lem Inverse rule x = put_same (n1 * n2) _ _ x source-there
    moved_by_lem Allowance rule x = fill-same (n1 * n2) _ _ x (λ e l. rw (source-there e))

    pub moves-are : (run : Run) (x : List ℤ) →
        moved_by (is_inverse run.task) (n1 * n2) (source_of c (layout_at c n1 a) r (layout_at r n2 b)) x
        ≡ taken_by run (n1 * n2) (joint_stage n1 n2 (factor_at c n1 a) (factor_at r n2 b)) x
    moves-are run x =
        moved_by_lem run.task run.rule x ∙ ap (λ (t : Stage). stage_by run.task run.rule (n1 * n2) t x) (sym (moving q))

-- ---- a pair of factors with weights, as the code learns it: by its layouts
module _ {c r : List ℤ} {n1 n2 i j : ℕ} (p : Paired c r n1 n2 i j) {fa fb : Layout} (ea : fa ≡ layout_at c n1 i)
    (eb : fb ≡ layout_at r n2 j) (m : is_move fb.kind ≡ false) (run : Run) {task : Task} (t : run.task ≡ task)
    {x : List ℤ} (small : Bounded (limit_of run.task) x) (long : length x ≡ most_cells) where
  weighs : kind_of (count r j) ≢ Permutation
  unfolding layout_at layout_by
  weighs = move-no _ (ap (λ (f : Layout). is_move f.kind) (sym eb) ∙ m)

  pub stage-asks : Weighable task c fa r fb x
  unfolding layout_at layout_by
  stage-asks = rw (ea, eb, ← t) (record {
    column = in-sheet p.most1 p.column (λ z. weighs (sym p.match ∙ z));
    row = in-sheet p.most2 p.row weighs;
    low1 = row_inside p.some1 p.column;
    low2 = row_inside p.some2 p.row;
    alike = p.match;
    weighs = weighs;
    small = small;
    long = long;
  })

  -- all rows are the stage
  pub stage-weighed : {ok : Bool} {y : List ℤ} → Weighed task run.rule c fa r fb x ok y →
      Step (limit_of run.task) (n1 * n2) (taken_by run (n1 * n2) (joint_stage n1 n2 (factor_at c n1 i) (factor_at r n2 j)) x) ok y
      × (length y ≡ most_cells)
  unfolding layout_at layout_by
  stage-weighed {ok} {y} w =
      let room : n1 * n2 ≤ length x = omega (arith, long, mul-le-mul p.most1 p.most2) in
      let stage = weights-are _ _ _ _ _ _ p.column p.row p.match (λ z. weighs (sym p.match ∙ z)) p.most2
      (row_inside p.some1 p.column) (row_inside p.some2 p.row) p.most1 x room run in
      (rw (ea, eb, ← t, stage) at w.0, w.1)
