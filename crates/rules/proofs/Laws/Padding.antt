-- FOR THE CODE: a block in a longer array. N numbers with p behind them go through a run as the N numbers do, and p stays.
use Rattle.std.specs.Prelude.{Bool, ◌≡◌, ℤ, nat_abs, ◌-ℤ◌, ◌*ℤ◌, length, set, replicate}
use Rattle.std.proofs.Math.Bool.{true, false, cond}
use mathlib.Core.List.{List, [], ◌∷◌, ◌++◌}
use Rattle.std.proofs.Math.Path.{refl}
use Prim.Native.Nat.{ℕ, zero, suc, ◌≤◌, ◌<◌}
use Rattle.std.proofs.Common.{arith}
use Rattle.std.proofs.Math.IntN.{pos}
use Rattle.std.proofs.Math.ListN.{length-set, length-replicate, get_or-append}
use Rattle.std.proofs.Math.Seq.{set-append_left}
use Rattle.whole.specs.Sum.{sum-cong}
use Rattle.rules.specs.Numbers.{bound, most_allowance, at}
use Rattle.rules.specs.declared.Rule.{Rule}
use Rattle.rules.specs.Stages.{R, fill, inside, offender, Stage, off, weighed, put_back, forward, recover, undo, allow}
use Rattle.rules.specs.Stages.{Ran, done, beyond, later, run, first_read, first_recovered, run_forward, run_inverse}
use Rattle.rules.specs.Stages.{run_allowance}
use Rattle.rules.specs.GoodStages.{Permutes, has, Good, moves, weighs, AllGood}
use Rattle.rules.proofs.Laws.Membership.{has_first, has_more}
use Rattle.rules.proofs.Laws.Lists.{length-fill}
use Rattle.rules.proofs.Laws.Offenders.{read_below, recovered-below}
use Rattle.rules.proofs.Laws.Inverses.{length-put, length-forward, length-undo}
use Rattle.rules.proofs.Laws.Runs.{all-reverse}
use Rattle.rules.proofs.Laws.AllowanceLaw.{length-allow}

-- a run's list with p behind it
unfoldable pub padded_run : Ran → List ℤ → Ran
padded_run (done v) p = done (v ++ p)
padded_run (beyond s e) p = beyond s e

module _ (rule : Rule) (p : List ℤ) where
  at-pad : (v : List ℤ) (k : ℕ) → k < length v → at (v ++ p) k ≡ at v k
  at-pad v k l = get_or-append v p (pos 0) k l

  fill-pad : (n : ℕ) (f g : ℕ → ℤ) (v : List ℤ) → n ≤ length v → ((e : ℕ) → e < n → f e ≡ g e) →
      fill n f (v ++ p) ≡ fill n g v ++ p
  unfolding fill
  fill-pad zero f g v l h = refl
  fill-pad (suc n) f g v l h =
      rw (fill-pad n f g v (omega arith) (λ e m. h e (omega arith)), h n (omega arith))
      (set-append_left (fill n g v) p n (g n) (omega (arith, length-fill n g v)))

  weighed-pad : (N : ℕ) (u : ℕ → ℤ) (v : List ℤ) → N ≤ length v → weighed N u (v ++ p) ≡ weighed N u v
  unfolding weighed
  weighed-pad N u v l = sum-cong N _ _ (λ k m. rw (at-pad v k (omega arith)))

  inside-pad : (B n : ℕ) (v : List ℤ) → n ≤ length v → inside B n (v ++ p) ≡ inside B n v
  unfolding inside
  inside-pad B zero v l = refl
  inside-pad B (suc n) v l = rw (at-pad v n l, inside-pad B n v (omega arith))

  offender-pad : (B : ℕ) (es : List ℕ) (v : List ℤ) → ((e : ℕ) → has e es ≡ true → e < length v) →
      offender B es (v ++ p) ≡ offender B es v
  unfolding offender
  offender-pad B [] v h = refl
  offender-pad B (e ∷ es) v h = rw (at-pad v e (h e (has_first e es)), offender-pad B es v (λ k m. h k (has_more k e es m)))

  read-pad : (N : ℕ) (v : List ℤ) → N ≤ length v → first_read N (v ++ p) ≡ first_read N v
  read-pad N v l = offender-pad bound _ v (λ e h. omega (arith, read_below N e h))

  recovered-pad : (N : ℕ) {s : Stage} → Good N s → (v : List ℤ) → N ≤ length v →
      first_recovered N s (v ++ p) ≡ first_recovered N s v
  recovered-pad N g v l = offender-pad bound _ v (λ e h. omega (arith, recovered-below g e h))

  put-pad : (N n : ℕ) (q : ℕ → ℕ) (v : List ℤ) → Permutes N q → n ≤ N → N ≤ length v → put_back n q (v ++ p) ≡ put_back n q v ++ p
  unfolding put_back
  put-pad N zero q v h l m = refl
  put-pad N (suc n) q v h l m =
      rw (put-pad N n q v h (omega arith) m, at-pad v n (omega arith))
      (set-append_left (put_back n q v) p (q n) (at v n) (omega (arith, length-put n q v, h.below n l)))

  recover-pad : (N S : ℕ) (d : ℕ → ℤ) (w : ℕ → ℕ → ℤ) (es : List ℕ) (v : List ℤ) → N ≤ length v →
      ((e : ℕ) → has e es ≡ true → e < N) → recover rule N S d w es (v ++ p) ≡ recover rule N S d w es v ++ p
  unfolding recover
  recover-pad N S d w [] v l h = refl
  recover-pad N S d w (e ∷ es) v l h =
      let b : e < N = h e (has_first e es) in
      let a = d e *ℤ (at v e -ℤ R rule S (weighed N (off w e) v)) in
      rw (at-pad v e (omega arith), weighed-pad N (off w e) v l, set-append_left v p e a (omega arith))
      (recover-pad N S d w es (set v e a) (omega (arith, length-set v e a)) (λ k m. h k (has_more k e es m)))

  forward-pad : (N : ℕ) {s : Stage} → Good N s → (v : List ℤ) → N ≤ length v → forward rule N s (v ++ p) ≡ forward rule N s v ++ p
  unfolding forward
  forward-pad N (moves {S} {p = q} c h) v l = fill-pad N _ _ v l (λ e m. at-pad v (q e) (omega (arith, h.below e m)))
  forward-pad N (weighs {S} {d} {w} {o} c h) v l =
      fill-pad N _ _ v l (λ e m. rw (at-pad v e (omega arith), weighed-pad N (off w e) v l))

  undo-pad : (N : ℕ) {s : Stage} → Good N s → (v : List ℤ) → N ≤ length v → undo rule N s (v ++ p) ≡ undo rule N s v ++ p
  unfolding undo
  undo-pad N (moves {S} {p = q} c h) v l = put-pad N N q v h (omega arith) l
  undo-pad N (weighs {S} {d} {w} {o} c h) v l = recover-pad N S d w o v l h.only

  allow-pad : (N : ℕ) {s : Stage} → Good N s → (v : List ℤ) → N ≤ length v → allow rule N s (v ++ p) ≡ allow rule N s v ++ p
  unfolding allow
  allow-pad N (moves {S} {p = q} c h) v l = fill-pad N _ _ v l (λ e m. at-pad v (q e) (omega (arith, h.below e m)))
  allow-pad N (weighs {S} {d} {w} {o} c h) v l =
      fill-pad N _ _ v l (λ e m. rw (at-pad v e (omega arith), weighed-pad N (λ k. pos (nat_abs (off w e k))) v l))

  -- a way to name an element that looks at no number behind the first N
  abbrev Looks : ℕ → (List ℤ → ℕ) → Type 0
  Looks N name = (v : List ℤ) → N ≤ length v → name (v ++ p) ≡ name v

  module _ (N B : ℕ) (step : Stage → List ℤ → List ℤ) (names : Stage → List ℤ → ℕ)
      (long : (s : Stage) (v : List ℤ) → length (step s v) ≡ length v)
      (pads : (s : Stage) → Good N s → (v : List ℤ) → N ≤ length v → step s (v ++ p) ≡ step s v ++ p)
      (looks : (s : Stage) → Good N s → Looks N (names s)) where
    run-pad : {ss : List Stage} → AllGood N ss → (name : List ℤ → ℕ) → Looks N name → (v : List ℤ) → N ≤ length v →
        run (inside B N) step names name ss (v ++ p) ≡ padded_run (run (inside B N) step names name ss v) p
    unfolding run padded_run
    run-pad AllGood.none name h v l = rw (inside-pad B N v l, h v l) (go (inside B N v))
      where
        go : (b : Bool) → cond b (done (v ++ p)) (beyond 0 (name v)) ≡ padded_run (cond b (done v) (beyond 0 (name v))) p
        go true = refl
        go false = refl
    run-pad (AllGood.more {s} {ss} g a) name h v l =
        rw (inside-pad B N v l, h v l, pads s g v l, run-pad a (names s) (looks s g) (step s v) (omega (arith, long s v)))
        (go (inside B N v) (run (inside B N) step names (names s) ss (step s v)))
      where
        go : (b : Bool) (r : Ran) →
            cond b (later 1 (padded_run r p)) (beyond 0 (name v)) ≡ padded_run (cond b (later 1 r) (beyond 0 (name v))) p
        go true (done u) = unfold later in refl
        go true (beyond t e) = unfold later in refl
        go false r = refl

  pub forward-padded : {N : ℕ} {ss : List Stage} → AllGood N ss → (x : List ℤ) → N ≤ length x →
      run_forward rule N ss (x ++ p) ≡ padded_run (run_forward rule N ss x) p
  unfolding run_forward
  forward-padded {N} g x l =
      run-pad N bound (forward rule N) (λ s. first_read N) (length-forward rule N) (λ s q. forward-pad N q) (λ s q. read-pad N) g
      (first_read N) (read-pad N) x l

  pub inverse-padded : {N : ℕ} {ss : List Stage} → AllGood N ss → (y : List ℤ) → N ≤ length y →
      run_inverse rule N ss (y ++ p) ≡ padded_run (run_inverse rule N ss y) p
  unfolding run_inverse
  inverse-padded {N} g y l =
      run-pad N bound (undo rule N) (first_recovered N) (length-undo rule N) (λ s q. undo-pad N q) (λ s q. recovered-pad N q)
      (all-reverse g) (first_read N) (read-pad N) y l

  pub allowance-padded : {N : ℕ} {ss : List Stage} → AllGood N ss →
      run (inside most_allowance N) (allow rule N) (λ s v. 0) (λ v. 0) ss (replicate N (pos 0) ++ p)
      ≡ padded_run (run_allowance rule N ss) p
  unfolding run_allowance
  allowance-padded {N} g =
      run-pad N most_allowance (allow rule N) (λ s v. 0) (length-allow rule N) (λ s q. allow-pad N q) (λ s q v l. refl) g
      (λ v. 0) (λ v l. refl) (replicate N (pos 0)) (omega (arith, length-replicate N (pos 0)))
