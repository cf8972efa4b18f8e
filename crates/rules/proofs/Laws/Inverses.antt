-- ONE STAGE THERE AND BACK, in both orders, for any rounding rule: of the rounding nothing is used.
use Rattle.std.specs.Prelude.{Bool, true, ◌≢◌, ◌⊎◌, ◌≡◌, pos, ◌+ℤ◌, ◌-ℤ◌, ◌*ℤ◌, length, set}
use Rattle.std.proofs.Math.Bool.{false}
use mathlib.Core.List.{List, [], ◌∷◌, ◌++◌}
use Rattle.std.proofs.Common.{inl, inr, ◌∙◌, arith}
use Rattle.std.proofs.Math.Path.{refl, sym, ap}
use Prim.Native.Nat.{ℕ, zero, suc, ◌≤◌, ◌<◌}
use Rattle.std.proofs.Math.Decide.{ℕ_discrete}
use Rattle.std.proofs.Math.IntN.{ℤ, +ℤ-neg_ℤ_cancel, -ℤ-+ℤ_cancel}
use Rattle.std.proofs.Math.ListN.{length-set}
use Rattle.whole.specs.Stated.{Sign}
use Rattle.whole.specs.Laws.{sign-sign}
use Rattle.rules.specs.Numbers.{at}
use Rattle.rules.specs.declared.Rule.{Rule}
use Rattle.rules.specs.Stages.{R, fill, Stage, move, weigh, off, weighed, put_back, forward, recover, undo}
use Rattle.rules.specs.GoodStages.{Permutes, has, InOrder, end, next, Recovers, Good, moves, weighs}
use Rattle.rules.proofs.Laws.Membership.{true-false, has_first, has_rest, has_more}
use Rattle.rules.proofs.Laws.Lists.{length-fill, fill-past, fill-at, same-list, set_at, set_other, off_self, off_zero}
use Rattle.rules.proofs.Laws.Lists.{weighed-agree}

-- ---- a move
pub length-put : (n : ℕ) (p : ℕ → ℕ) (v : List ℤ) → length (put_back n p v) ≡ length v
unfolding put_back
length-put zero p v = refl
length-put (suc n) p v = length-set (put_back n p v) (p n) (at v n) ∙ length-put n p v

module _ (N : ℕ) (p : ℕ → ℕ) (h : Permutes N p) where
  apart : (i j : ℕ) → i < N → j < N → i ≢ j → p i ≢ p j
  apart i j a b q e = q (sym (h.from-to i a) ∙ ap h.from e ∙ h.from-to j b)

  put_other : (n : ℕ) (v : List ℤ) (k : ℕ) → ((i : ℕ) → i < n → k ≢ p i) → at (put_back n p v) k ≡ at v k
  unfolding put_back
  put_other zero v k q = refl
  put_other (suc n) v k q = set_other (put_back n p v) (p n) k _ (q n (omega arith)) ∙ put_other n v k (λ i l. q i (omega arith))

  put-at : (n : ℕ) (v : List ℤ) → n ≤ N → N ≤ length v → (i : ℕ) → i < n → at (put_back n p v) (p i) ≡ at v i
  unfolding put_back
  put-at zero v l room i b = absurd (omega arith)
  put-at (suc n) v l room i b = go (put-at n v (omega arith) room i) (ℕ_discrete i n)
    where
      go : (i < n → at (put_back n p v) (p i) ≡ at v i) → Dec (i ≡ n) → at (set (put_back n p v) (p n) (at v n)) (p i) ≡ at v i
      go ih (yes q) = rw q (set_at (put_back n p v) (p n) (at v n) (omega (arith, length-put n p v, h.below n l)))
      go ih (no q) = set_other (put_back n p v) (p n) (p i) (at v n) (apart i n (omega arith) l q) ∙ ih (omega arith)

  put-past : (v : List ℤ) (k : ℕ) → N ≤ k → at (put_back N p v) k ≡ at v k
  put-past v k l = put_other N v k (λ i b q. omega (arith, h.below i b))

-- ---- an order: what it says of its first place, of its rest, and of two parts

module _ (rule : Rule) where
  -- ---- a weighing
  module _ (N S : ℕ) (d : ℕ → ℤ) (w : ℕ → ℕ → ℤ) where
    abbrev rounded_sum : ℕ → List ℤ → ℤ
    rounded_sum e v = R rule S (weighed N (off w e) v)

    -- what is put at place e
    abbrev recovered : ℕ → List ℤ → ℤ
    recovered e v = d e *ℤ (at v e -ℤ rounded_sum e v)

    pub length-recover : (es : List ℕ) (u : List ℤ) → length (recover rule N S d w es u) ≡ length u
    unfolding recover
    length-recover [] u = refl
    length-recover (e ∷ es) u = length-recover es _ ∙ length-set u e _

    -- a place that is not on the list stays
    pub recover-other : (es : List ℕ) (u : List ℤ) (k : ℕ) → has k es ≡ false → at (recover rule N S d w es u) k ≡ at u k
    unfolding recover
    recover-other [] u k h = refl
    recover-other (e ∷ es) u k h = go (λ v f. recover-other es v k f) (ℕ_discrete k e)
      where
        go : ((v : List ℤ) → has k es ≡ false → at (recover rule N S d w es v) k ≡ at v k) → Dec (k ≡ e) →
            at (recover rule N S d w es (set u e (recovered e u))) k ≡ at u k
        go ih (yes q) = absurd (true-false (rw q (has_first e es)) h)
        go ih (no q) = ih (set u e (recovered e u)) (sym (has_rest k e es q) ∙ h) ∙ set_other u e k (recovered e u) q

    -- lists that agree at every place but e and the later ones have the same sum at e
    same-rounded-sum : (e : ℕ) (es : List ℕ) (u v : List ℤ) → ((k : ℕ) → has k es ≡ true → (k ≢ e) × (w e k ≡ pos 0)) →
        ((k : ℕ) → k < N → k ≢ e → has k es ≡ false → at u k ≡ at v k) → rounded_sum e u ≡ rounded_sum e v
    same-rounded-sum e es u v h a = ap (R rule S) (weighed-agree N (off w e) u v (λ k l. go k l (ℕ_discrete k e) (has k es) refl))
      where
        go : (k : ℕ) → k < N → Dec (k ≡ e) → (b : Bool) → has k es ≡ b → (off w e k ≡ pos 0) ⊎ (at u k ≡ at v k)
        go k l (yes q) b c = inl (rw q (off_self w e))
        go k l (no q) true c = inl (off_zero w e k (h k c).1)
        go k l (no q) false c = inr (a k l q c)

    -- places still to come hold the forward rule's numbers, the others the block's: the rest of the recovery ends in the block
    module _ (x : List ℤ) (room : N ≤ length x) (signs : (e : ℕ) → e < N → Sign (d e)) where
      record Midway (es : List ℕ) (u : List ℤ) : Type 0 where
        long : length u ≡ length x
        only : (e : ℕ) → has e es ≡ true → e < N
        wait : (e : ℕ) → has e es ≡ true → at u e ≡ (d e *ℤ at x e) +ℤ rounded_sum e x
        back : (e : ℕ) → e < N → has e es ≡ false → at u e ≡ at x e
        past : (e : ℕ) → N ≤ e → at u e ≡ at x e

      recovers-block : {es : List ℕ} → InOrder w es → (u : List ℤ) → Midway es u → recover rule N S d w es u ≡ x
      unfolding recover
      recovers-block end u m = same-list N u x m.long (λ k l. m.back k l (unfold has in refl)) m.past
      recovers-block (next {e} {es} h t) u m = recovers-block t (set u e a) (record {
        long = length-set u e a ∙ m.long;
        only = λ k b. m.only k (has_more k e es b);
        wait = λ k b. set_other u e k a (h k b).0 ∙ m.wait k (has_more k e es b);
        back = λ k l b. back' k l b (ℕ_discrete k e);
        past = λ k l. set_other u e k a (λ q. omega (arith, below)) ∙ m.past k l;
      })
        where
          below : e < N
          below = m.only e (has_first e es)

          a : ℤ
          a = recovered e u

          same : rounded_sum e u ≡ rounded_sum e x
          same = same-rounded-sum e es u x h (λ k l q c. m.back k l (has_rest k e es q ∙ c))

          value : a ≡ at x e
          value =
              rw (same, m.wait e (has_first e es), +ℤ-neg_ℤ_cancel (d e *ℤ at x e) (rounded_sum e x))
              (sign-sign (d e) (at x e) (signs e below))

          back' : (k : ℕ) → k < N → has k es ≡ false → Dec (k ≡ e) → at (set u e a) k ≡ at x k
          back' k l b (yes q) = rw q (set_at u e a (omega (arith, m.long, below)) ∙ value)
          back' k l b (no q) = set_other u e k a q ∙ m.back k l (has_rest k e es q ∙ b)

    -- every place of the list ends with what the inverse rule gives from the last list
    recovers-last : {es : List ℕ} → InOrder w es → (u : List ℤ) → ((k : ℕ) → has k es ≡ true → k < length u) →
        (k : ℕ) → has k es ≡ true → at (recover rule N S d w es u) k ≡ d k *ℤ (at u k -ℤ rounded_sum k (recover rule N S d w es u))
    unfolding recover
    recovers-last end u l k b = absurd (true-false b (unfold has in refl))
    recovers-last (next {e} {es} h t) u l k b =
        go (λ c. recovers-last t (set u e a) (λ i j. rw (length-set u e a) (l i (has_more i e es j))) k c) (ℕ_discrete k e)
      where
        a : ℤ
        a = recovered e u

        z : List ℤ
        z = recover rule N S d w es (set u e a)

        alone : (b : Bool) → has e es ≡ b → has e es ≡ false
        alone true c = absurd ((h e c).0 refl)
        alone false c = c

        same : rounded_sum e u ≡ rounded_sum e z
        same = same-rounded-sum e es u z h (λ i j q c. sym (recover-other es (set u e a) i c ∙ set_other u e i a q))

        go : (has k es ≡ true → at z k ≡ d k *ℤ (at (set u e a) k -ℤ rounded_sum k z)) → Dec (k ≡ e) →
            at z k ≡ d k *ℤ (at u k -ℤ rounded_sum k z)
        go ih (yes q) =
            rw q
            (recover-other es (set u e a) e (alone (has e es) refl)
            ∙ set_at u e a (l e (has_first e es))
            ∙ ap (λ (s : ℤ). d e *ℤ (at u e -ℤ s)) same)
        go ih (no q) = ih (sym (has_rest k e es q) ∙ b) ∙ ap (λ (s : ℤ). d k *ℤ (s -ℤ rounded_sum k z)) (set_other u e k a q)

  -- ---- a stage
  pub length-forward : (N : ℕ) (s : Stage) (v : List ℤ) → length (forward rule N s v) ≡ length v
  unfolding forward
  length-forward N (move S p) v = length-fill N _ v
  length-forward N (weigh S d w o) v = length-fill N _ v

  pub length-undo : (N : ℕ) (s : Stage) (v : List ℤ) → length (undo rule N s v) ≡ length v
  unfolding undo
  length-undo N (move S p) v = length-put N p v
  length-undo N (weigh S d w o) v = length-recover N S d w o v

  -- what was applied is undone
  pub undo-forward : (N : ℕ) {s : Stage} → Good N s → (v : List ℤ) → N ≤ length v → undo rule N s (forward rule N s v) ≡ v
  unfolding undo forward
  undo-forward N (moves {S} {p} b h) v room =
      same-list N _ v (length-put N p y ∙ length-fill N _ v) value (λ k l. put-past N p h y k l ∙ fill-past N _ v k l)
    where
      y : List ℤ
      y = fill N (λ e. at v (p e)) v

      value : (k : ℕ) → k < N → at (put_back N p y) k ≡ at v k
      value k l =
          let i = h.from k in
          let b = h.from-below k l in
          let e : at (put_back N p y) (p i) ≡ at v (p i) =
          put-at N p h N y (omega arith) (omega (arith, length-fill N (λ e. at v (p e)) v)) i b ∙ fill-at N _ v i b room in
          rw (h.to-from k l) at e
  undo-forward N (weighs {S} {d} {w} {o} b h) v room = recovers-block N S d w v room h.signs h.in_order _ (record {
    long = length-fill N _ v;
    only = h.only;
    wait = λ e c. fill-at N _ v e (h.only e c) room;
    back = λ e l c. absurd (true-false (h.all e l) c);
    past = λ e l. fill-past N _ v e l;
  })

  -- what was undone is applied
  pub forward-undo : (N : ℕ) {s : Stage} → Good N s → (v : List ℤ) → N ≤ length v → forward rule N s (undo rule N s v) ≡ v
  unfolding undo forward
  forward-undo N (moves {S} {p} b h) v room =
      let u = put_back N p v in
      let l = length-put N p v in
      same-list N _ v (length-fill N _ u ∙ l)
      (λ k c. fill-at N _ u k c (omega arith) ∙ put-at N p h N v (omega arith) room k c)
      (λ k c. fill-past N _ u k c ∙ put-past N p h v k c)
  forward-undo N (weighs {S} {d} {w} {o} b h) v room =
      same-list N _ v (length-fill N _ u ∙ long) value
      (λ k c. fill-past N _ u k c ∙ recover-other N S d w o v k (unlisted k c (has k o) refl))
    where
      u : List ℤ
      u = recover rule N S d w o v

      long : length u ≡ length v
      long = length-recover N S d w o v

      unlisted : (k : ℕ) → N ≤ k → (t : Bool) → has k o ≡ t → has k o ≡ false
      unlisted k c true e = absurd (omega (arith, h.only k e))
      unlisted k c false e = e

      value : (k : ℕ) → k < N → at (fill N (λ e. (d e *ℤ at u e) +ℤ R rule S (weighed N (off w e) u)) u) k ≡ at v k
      value k c =
          let g = R rule S (weighed N (off w k) u) in
          let f = recovers-last N S d w h.in_order v (λ i b. omega (arith, h.only i b)) k (h.all k c) in
          fill-at N _ u k c (omega (arith, long))
          ∙ rw f (rw (sign-sign (d k) (at v k -ℤ g) (h.signs k c)) (-ℤ-+ℤ_cancel (at v k) g))

  -- ---- for the code: one step more, another order, an early stop
  pub recover-append : (N S : ℕ) (d : ℕ → ℤ) (w : ℕ → ℕ → ℤ) (es ks : List ℕ) (u : List ℤ) →
      recover rule N S d w (es ++ ks) u ≡ recover rule N S d w ks (recover rule N S d w es u)
  unfolding recover
  recover-append N S d w [] ks u = refl
  recover-append N S d w (e ∷ es) ks u = recover-append N S d w es ks _

  -- any two orders that recover give the same list
  pub any_order : {N : ℕ} {d : ℕ → ℤ} {w : ℕ → ℕ → ℤ} {o k : List ℕ} (S : ℕ) → 0 < S → Recovers N d w o → Recovers N d w k →
      (v : List ℤ) → N ≤ length v → recover rule N S d w o v ≡ recover rule N S d w k v
  unfolding undo forward
  any_order {N} {d} {w} {o} {k} S c h g v room =
      let u = recover rule N S d w o v in
      let e : undo rule N (weigh S d w k) (forward rule N (weigh S d w o) u) ≡ u =
      undo-forward N (weighs c g) u (omega (arith, length-recover N S d w o v)) in
      sym e ∙ ap (recover rule N S d w k) (forward-undo N (weighs c h) v room)
