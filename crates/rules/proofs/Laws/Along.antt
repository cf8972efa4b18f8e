-- FOR THE CODE: a pass is the line's stage along each line. `u` holds line l of the block v where u(i) is v's element i of that
-- line.
use Rattle.std.specs.Prelude.{Bool, true, false, List, ◌≢◌, ◌≡◌, ℕ, ◌%◌, ◌≤◌, ◌<◌, eqb, ℤ, nat_abs, ◌+ℤ◌, length}
use Rattle.std.proofs.Math.Bool.{cond}
use Rattle.std.proofs.Math.Path.{refl, sym, ap, ap₂}
use Rattle.std.proofs.Common.{◌∙◌, arith}
use Rattle.std.proofs.Math.Decide.{ℕ_discrete}
use borrow.Author.Tests.{eq-eqb, ne_eqb}
use Rattle.std.proofs.Math.IntN.{pos, ◌*ℤ◌, zero-*ℤ}
use Rattle.whole.specs.Sum.{sum-cong, sum-none, sum-single}
use Rattle.rules.specs.declared.Kind.TheVariants.{Permutation}
use Rattle.rules.specs.declared.Rule.{Rule}
use Rattle.rules.specs.Numbers.{unit, at}
use Rattle.rules.specs.Factors.{Factor, matrix}
use Rattle.rules.specs.Stages.{R, share, ceiling, Stage, move, weigh, off, weighed, multiples, forward, undo, allow}
use Rattle.rules.specs.Shapes.{line_stage, Lines, pass_source, pass_sign, pass_weight, pass_stage}
use Rattle.rules.proofs.Laws.SoundFactors.{Sound}
use Rattle.rules.proofs.Laws.Lists.{fill-at, fill-past, same-list, off_zero, multiples-yes, multiples-at}
use Rattle.rules.proofs.Laws.Inverses.{length-forward, undo-forward, forward-undo}
use Rattle.rules.proofs.Laws.AllowanceLaw.{length-allow}
use Rattle.rules.proofs.Laws.Kinds.{by_kind, stage-moves, stage-weighs, line-good}
use Rattle.rules.proofs.Laws.Passes.{Tiles, pass-good}

both_ways : (x y : Bool) → (x ≡ true → y ≡ true) → (y ≡ true → x ≡ true) → x ≡ y
both_ways true y h k = sym (h refl)
both_ways false true h k = k refl
both_ways false false h k = refl

pub record Holds (r : Lines) (l : ℕ) (v u : List ℤ) : Type 0 where
  pub wide : r.long ≤ length u
  pub each : (i : ℕ) → i < r.long → at u i ≡ at v (r.join l i)

module _ {N : ℕ} {r : Lines} (t : Tiles N r) (f : Factor) where
  -- the weights of an element, in its own line and in another
  module _ {l i : ℕ} (a : l < r.many) (b : i < r.long) where
    abbrev e : ℕ
    e = r.join l i

    own_line : (j : ℕ) → j < r.long → off (pass_weight r f) e (r.join l j) ≡ off (matrix f) i j
    unfolding off pass_weight
    own_line j c =
        rw (t.line-join l i a b, t.line-join l j a c, t.spot-join l i a b, t.spot-join l j a c, eq-eqb l l refl)
        (go (ℕ_discrete i j))
      where
        go : Dec (i ≡ j) → cond (eqb (r.join l i) (r.join l j)) (pos 0) (matrix f i j) ≡ cond (eqb i j) (pos 0) (matrix f i j)
        go (yes q) = rw (eq-eqb i j q, eq-eqb _ _ (ap (r.join l) q))
        go (no q) = rw (ne_eqb i j q, ne_eqb _ _ (λ z. q (sym (t.spot-join l i a b) ∙ ap r.spot z ∙ t.spot-join l j a c)))

    other-line : (m j : ℕ) → m < r.many → j < r.long → m ≢ l → off (pass_weight r f) e (r.join m j) ≡ pos 0
    other-line m j c d q = off_zero (pass_weight r f) e (r.join m j) (apart m j c d q)
      where
        apart : (m j : ℕ) → m < r.many → j < r.long → m ≢ l → pass_weight r f e (r.join m j) ≡ pos 0
        apart m j c d q = unfold pass_weight in rw (t.line-join l i a b, t.line-join m j c d, ne_eqb l m (λ z. q (sym z)))

    pub source-at : pass_source r f (r.join l i) ≡ r.join l (f.place i)
    unfolding pass_source
    source-at = ap₂ (λ (m j : ℕ). r.join m (f.place j)) (t.line-join l i a b) (t.spot-join l i a b)

    pub sign_at_lem : pass_sign r f (r.join l i) ≡ f.sign i
    unfolding pass_sign
    sign_at_lem = ap f.sign (t.spot-join l i a b)

    -- A ROW'S SUM: g as it is in a run, magnitudes in an allowance
    pub along-sum : (g : ℤ → ℤ) → g (pos 0) ≡ pos 0 → (v u : List ℤ) → Holds r l v u →
        weighed N (λ k. g (off (pass_weight r f) (r.join l i) k)) v ≡ weighed r.long (λ k. g (off (matrix f) i k)) u
    unfolding weighed
    along-sum g z v u h =
        t.sums (λ k. g (off (pass_weight r f) e k) *ℤ at v k)
        ∙ sum-single r.many l _ a
        (λ m c q. sum-none r.long _ (λ j d. rw (other-line m j c d q, z) (zero-*ℤ (at v (r.join m j)))))
        ∙ sum-cong r.long _ _ (λ j c. rw (own_line j c, h.each j c))

    -- every weight of the row a multiple
    pub along-multiples : multiples unit N (off (pass_weight r f) (r.join l i)) ≡ multiples unit r.long (off (matrix f) i)
    along-multiples =
        both_ways _ _
        (λ h. multiples-yes unit r.long _ (λ j c.
        rw (own_line j c) at (multiples-at unit N (off (pass_weight r f) e) h (r.join l j) (t.join-below l j a c))))
        (λ h. multiples-yes unit N _ (λ k c. whole h k c (ℕ_discrete (r.line k) l)))
      where
        whole : multiples unit r.long (off (matrix f) i) ≡ true → (k : ℕ) → k < N → Dec (r.line k ≡ l) →
            nat_abs (off (pass_weight r f) e k) % unit ≡ 0
        whole h k c (yes q) =
            let d = t.spot-below k c in
            let z : r.join l (r.spot k) ≡ k = ap (λ (m : ℕ). r.join m (r.spot k)) (sym q) ∙ t.join-of k c in
            rw (← z, own_line (r.spot k) d) (multiples-at unit r.long (off (matrix f) i) h (r.spot k) d)
        whole h k c (no q) =
            let z : off (pass_weight r f) e k ≡ pos 0 =
            ap (off (pass_weight r f) e) (sym (t.join-of k c))
            ∙ other-line (r.line k) (r.spot k) (t.line-below k c) (t.spot-below k c) q in
            rw z

  module _ (rule : Rule) where
    abbrev n : ℕ
    n = r.long

    -- APPLIED: each line as the line's stage has it
    module _ (s : Sound r.long f) (v : List ℤ) (room : N ≤ length v) {l : ℕ} (a : l < r.many) (u : List ℤ)
        (h : Holds r l v u) where
      moved : (i : ℕ) → i < n → f.kind ≡ Permutation →
          at (forward rule n (move unit f.place) u) i ≡ at (forward rule N (move unit (pass_source r f)) v) (r.join l i)
      unfolding forward
      moved i b q =
          fill-at n _ u i b h.wide ∙ h.each (f.place i) ((s.places q).below i b)
          ∙ sym (fill-at N _ v (r.join l i) (t.join-below l i a b) room ∙ ap (at v) (source-at a b))

      weighs-alike : (i : ℕ) → i < n → (o k : List ℕ) →
          at (forward rule n (weigh unit f.sign (matrix f) o) u) i
          ≡ at (forward rule N (weigh unit (pass_sign r f) (pass_weight r f) k) v) (r.join l i)
      unfolding forward
      weighs-alike i b o k =
          fill-at n _ u i b h.wide
          ∙ sym
          (fill-at N _ v (r.join l i) (t.join-below l i a b) room
          ∙ ap₂ (λ (x z : ℤ). x +ℤ R rule unit z) (ap₂ ◌*ℤ◌ (sign_at_lem a b) (sym (h.each i b)))
          (along-sum a b (λ z. z) refl v u h))

      pub along-forward : Holds r l (forward rule N (pass_stage r f) v) (forward rule r.long (line_stage r.long f) u)
      unfolding line_stage pass_stage
      along-forward = record {
        wide = let w = h.wide in omega (arith, length-forward rule n (line_stage n f) u);
        each = λ i b.
            by_kind (λ z. at (forward rule n z u) i ≡ at (forward rule N (pass_stage r f) v) (r.join l i)) f.kind _ _
            (λ q. moved i b q ∙ ap (λ (z : Stage). at (forward rule N z v) (r.join l i)) (sym (stage-moves f.kind _ _ q)))
            (λ q.
            weighs-alike i b _ _ ∙ ap (λ (z : Stage). at (forward rule N z v) (r.join l i)) (sym (stage-weighs f.kind _ _ q)));
      }

      -- ALLOWANCES
      moved-allowance : (i : ℕ) → i < n → f.kind ≡ Permutation →
          at (allow rule n (move unit f.place) u) i ≡ at (allow rule N (move unit (pass_source r f)) v) (r.join l i)
      unfolding allow
      moved-allowance i b q =
          fill-at n _ u i b h.wide ∙ h.each (f.place i) ((s.places q).below i b)
          ∙ sym (fill-at N _ v (r.join l i) (t.join-below l i a b) room ∙ ap (at v) (source-at a b))

      weighed-allowance : (i : ℕ) → i < n → (o k : List ℕ) →
          at (allow rule n (weigh unit f.sign (matrix f) o) u) i
          ≡ at (allow rule N (weigh unit (pass_sign r f) (pass_weight r f) k) v) (r.join l i)
      unfolding allow
      weighed-allowance i b o k =
          fill-at n _ u i b h.wide
          ∙ sym
          (fill-at N _ v (r.join l i) (t.join-below l i a b) room
          ∙ ap₂ (λ (x : ℤ) (w : Bool). x +ℤ cond w (pos 0) (pos (share rule)))
          (ap₂ (λ (x z : ℤ). x +ℤ ceiling unit z) (sym (h.each i b)) (along-sum a b (λ z. pos (nat_abs z)) refl v u h))
          (along-multiples a b))

      pub along-allow : Holds r l (allow rule N (pass_stage r f) v) (allow rule r.long (line_stage r.long f) u)
      unfolding line_stage pass_stage
      along-allow = record {
        wide = let w = h.wide in omega (arith, length-allow rule n (line_stage n f) u);
        each = λ i b.
            by_kind (λ z. at (allow rule n z u) i ≡ at (allow rule N (pass_stage r f) v) (r.join l i)) f.kind _ _
            (λ q.
            moved-allowance i b q ∙ ap (λ (z : Stage). at (allow rule N z v) (r.join l i)) (sym (stage-moves f.kind _ _ q)))
            (λ q.
            weighed-allowance i b _ _
            ∙ ap (λ (z : Stage). at (allow rule N z v) (r.join l i)) (sym (stage-weighs f.kind _ _ q)));
      }

    -- UNDONE: a block z is y undone if each of its lines is y's line undone
    pub record Lined (y z : List ℤ) (l : ℕ) : Type 0 where
      pub line : List ℤ
      pub before : Holds r l y line
      pub after : Holds r l z (undo rule r.long (line_stage r.long f) line)

    forward-past : (s : Stage) (v : List ℤ) (k : ℕ) → N ≤ k → at (forward rule N s v) k ≡ at v k
    unfolding forward
    forward-past (move S p) v k b = fill-past N _ v k b
    forward-past (weigh S d w o) v k b = fill-past N _ v k b

    pub along-undo : Sound r.long f → (y z : List ℤ) → N ≤ length y → length z ≡ length y →
        ((k : ℕ) → N ≤ k → at z k ≡ at y k) →
        ((l : ℕ) → l < r.many → Lined y z l) → undo rule N (pass_stage r f) y ≡ z
    along-undo s y z room long past lines =
        ap (undo rule N (pass_stage r f)) (sym applied) ∙ undo-forward rule N (pass-good t f s) z (omega arith)
      where
        value : (l i : ℕ) → l < r.many → i < n → at (forward rule N (pass_stage r f) z) (r.join l i) ≡ at y (r.join l i)
        value l i a b =
            let h = lines l a in
            sym ((along-forward s z (omega arith) a _ h.after).each i b)
            ∙ ap (λ (w : List ℤ). at w i) (forward-undo rule n (line-good n f s) h.line h.before.wide)
            ∙ h.before.each i b

        applied : forward rule N (pass_stage r f) z ≡ y
        applied =
            same-list N _ y (length-forward rule N (pass_stage r f) z ∙ long)
            (λ k b.
            let e = t.join-of k b in
            ap (at (forward rule N (pass_stage r f) z)) (sym e)
            ∙ value (r.line k) (r.spot k) (t.line-below k b) (t.spot-below k b) ∙ ap (at y) e)
            (λ k b. forward-past (pass_stage r f) z k b ∙ past k b)
