-- THE LAWS OF RUNS: a run cut in two, and a run there and back. Nothing here looks into a stage.
use Rattle.std.specs.Prelude.{Bool, ℕ, suc, ◌+◌, ◌≤◌, ℤ, length}
use Rattle.std.proofs.Math.Bool.{true, false, cond}
use mathlib.Core.List.{List, [], ◌∷◌, ◌++◌, reverse, reverse-cons, reverse-append, reverse-reverse}
use Rattle.std.proofs.Math.Path.{◌≡◌, refl, sym}
use Rattle.std.proofs.Common.{ap, ◌∙◌}
use native.Mathlib.Omega.{arith}
use Rattle.std.proofs.Math.ListN.{length-reverse}
use Rattle.rules.specs.Numbers.{bound}
use Rattle.rules.specs.declared.Rule.{Rule}
use Rattle.rules.specs.Stages.{inside, first_read, first_recovered, Stage, forward, undo, Ran, done, beyond, later, run}
use Rattle.rules.specs.Stages.{through, run_forward, run_inverse}
use Rattle.rules.specs.GoodStages.{Good, AllGood}
use Rattle.rules.proofs.Laws.Inverses.{length-forward, length-undo, undo-forward, forward-undo}

-- a second run on what a first one of n stages gave: its refusal is n stages later
unfoldable pub follow : ℕ → Ran → (List ℤ → Ran) → Ran
follow n (done v) next = later n (next v)
follow n (beyond s e) next = beyond s e

-- ---- refusals later on
later-none : (r : Ran) → later 0 r ≡ r
unfolding later
later-none (done v) = refl
later-none (beyond s e) = ap (λ (t : ℕ). beyond t e) (omega arith)

later-later : (n m : ℕ) (r : Ran) → later n (later m r) ≡ later (n + m) r
unfolding later
later-later n m (done v) = refl
later-later n m (beyond s e) = ap (λ (t : ℕ). beyond t e) (omega arith)

pub later-done : (n : ℕ) (r : Ran) (v : List ℤ) → later n r ≡ done v → r ≡ done v
unfolding later
later-done n (done u) v h = h
later-done n (beyond s e) v h = cc

later-follow : (n : ℕ) (r : Ran) (next : List ℤ → Ran) → later 1 (follow n r next) ≡ follow (suc n) (later 1 r) next
unfolding later follow
later-follow n (done v) next = later-later 1 n (next v) ∙ ap (λ (m : ℕ). later m (next v)) (omega arith)
later-follow n (beyond s e) next = refl

-- ---- any test, any step and any names
module _ (ok : List ℤ → Bool) (step : Stage → List ℤ → List ℤ) (names : Stage → List ℤ → ℕ) where
  abbrev ran : (List ℤ → ℕ) → List Stage → List ℤ → Ran
  ran name ss v = run ok step names name ss v

  pub run-refused : (name : List ℤ → ℕ) (ss : List Stage) (v : List ℤ) → ok v ≡ false → ran name ss v ≡ beyond 0 (name v)
  unfolding run
  run-refused name [] v h = rw h
  run-refused name (s ∷ ss) v h = rw h

  pub run_none : (name : List ℤ → ℕ) (v : List ℤ) → ok v ≡ true → ran name [] v ≡ done v
  unfolding run
  run_none name v h = rw h

  pub run_step : (name : List ℤ → ℕ) (s : Stage) (ss : List Stage) (v : List ℤ) → ok v ≡ true →
      ran name (s ∷ ss) v ≡ later 1 (ran (names s) ss (step s v))
  unfolding run
  run_step name s ss v h = rw h

  -- no element of a list that passes is named
  run-any : (name other : List ℤ → ℕ) (ss : List Stage) (v : List ℤ) → ok v ≡ true → ran name ss v ≡ ran other ss v
  run-any name other [] v h = run_none name v h ∙ sym (run_none other v h)
  run-any name other (s ∷ ss) v h = run_step name s ss v h ∙ sym (run_step other s ss v h)

  -- the run of ss and then us is the run of us on what the run of ss gave, refusals included
  pub cut : (name other : List ℤ → ℕ) (ss us : List Stage) (v : List ℤ) →
      ran name (ss ++ us) v ≡ follow (length ss) (ran name ss v) (ran other us)
  unfolding run follow
  cut name other [] us v = go (ok v) refl
    where
      go : (b : Bool) → ok v ≡ b → ran name us v ≡ follow 0 (cond b (done v) (beyond 0 (name v))) (ran other us)
      go true h = run-any name other us v h ∙ sym (later-none (ran other us v))
      go false h = run-refused name us v h
  cut name other (s ∷ ss) us v = rw (cut (names s) other ss us (step s v)) (go (ok v) (ran (names s) ss (step s v)))
    where
      go : (b : Bool) (r : Ran) →
          cond b (later 1 (follow (length ss) r (ran other us))) (beyond 0 (name v)) ≡
          follow (suc (length ss)) (cond b (later 1 r) (beyond 0 (name v))) (ran other us)
      go true r = later-follow (length ss) r (ran other us)
      go false r = refl

  -- an accepted run: its first list passes the test, and the next stage's run is accepted
  pub run_in : (name : List ℤ → ℕ) (ss : List Stage) (v u : List ℤ) → ran name ss v ≡ done u → ok v ≡ true
  run_in name ss v u h = go (ok v) refl
    where
      go : (b : Bool) → ok v ≡ b → ok v ≡ true
      go true e = e
      go false e = let z : beyond 0 (name v) ≡ done u = sym (run-refused name ss v e) ∙ h in cc

  pub run-next : (name : List ℤ → ℕ) (s : Stage) (ss : List Stage) (v u : List ℤ) → ran name (s ∷ ss) v ≡ done u →
      ran (names s) ss (step s v) ≡ done u
  run-next name s ss v u h = later-done 1 _ u (sym (run_step name s ss v (run_in name (s ∷ ss) v u h)) ∙ h)

  -- the last list is what the steps give
  pub run-through : (name : List ℤ → ℕ) (ss : List Stage) (v u : List ℤ) → ran name ss v ≡ done u → through step ss v ≡ u
  unfolding through
  run-through name [] v u h = let e = run_none name v (run_in name [] v u h) in cc
  run-through name (s ∷ ss) v u h = run-through (names s) ss (step s v) u (run-next name s ss v u h)

  -- ---- for a loop over the stages: after t stages, with v in bound and the stages ss left, the run's answer is later t (ran
  -- name ss v), whatever the name
  pub loop-start : (name : List ℤ → ℕ) (ss : List Stage) (v : List ℤ) → ran name ss v ≡ later 0 (ran name ss v)
  loop-start name ss v = sym (later-none (ran name ss v))

  pub loop-step : (name : List ℤ → ℕ) (t : ℕ) (s : Stage) (ss : List Stage) (v : List ℤ) → ok v ≡ true →
      later t (ran name (s ∷ ss) v) ≡ later (t + 1) (ran (names s) ss (step s v))
  loop-step name t s ss v h = rw (run_step name s ss v h) (later-later t 1 (ran (names s) ss (step s v)))

  pub loop-any : (name other : List ℤ → ℕ) (t : ℕ) (ss : List Stage) (v : List ℤ) → ok v ≡ true →
      later t (ran name ss v) ≡ later t (ran other ss v)
  loop-any name other t ss v h = ap (later t) (run-any name other ss v h)

  pub loop-refused : (name : List ℤ → ℕ) (t : ℕ) (ss : List Stage) (v : List ℤ) → ok v ≡ false →
      later t (ran name ss v) ≡ beyond t (name v)
  unfolding later
  loop-refused name t ss v h = rw (run-refused name ss v h) (ap (λ (s : ℕ). beyond s (name v)) (omega arith))

  -- a run that is refused at the list v, which stands after t stages: the element is v's
  pub loop-here : (name : List ℤ → ℕ) (t : ℕ) (ss : List Stage) (v : List ℤ) {k : ℕ} → later t (ran name ss v) ≡ beyond t k →
      later t (ran name ss v) ≡ beyond t (name v)
  unfolding later
  loop-here name t ss v {k} h = go (ok v) refl
    where
      -- after v the run would be done, or refused later
      no-later : (r : Ran) → later t (later 1 r) ≡ beyond t k → ⊥
      no-later (done u) e = let z : ◌≡◌ {A = ℕ} 0 1 = cc in omega arith
      no-later (beyond s i) e = let z : t + (1 + s) ≡ t = cc in omega arith

      goes : (ss : List Stage) → ok v ≡ true → later t (ran name ss v) ≡ beyond t k → ⊥
      goes [] e i = let z : done v ≡ beyond t k = rw (run_none name v e) at i in let w : ◌≡◌ {A = ℕ} 0 1 = cc in omega arith
      goes (s ∷ ss) e i = no-later (ran (names s) ss (step s v)) (rw (run_step name s ss v e) at i)

      go : (b : Bool) → ok v ≡ b → later t (ran name ss v) ≡ beyond t (name v)
      go true e = absurd (goes ss e h)
      go false e = loop-refused name t ss v e

  pub loop-end : (name : List ℤ → ℕ) (t : ℕ) (v : List ℤ) → ok v ≡ true → later t (ran name [] v) ≡ done v
  unfolding later
  loop-end name t v h = rw (run_none name v h)

-- ---- steps f that g undoes at a good stage: an accepted run of f, run back by g, is accepted and gives the first list
module _ (N : ℕ) (ok : List ℤ → Bool) (f g : Stage → List ℤ → List ℤ) (a b : Stage → List ℤ → ℕ)
    (long : (s : Stage) (v : List ℤ) → length (f s v) ≡ length v)
    (undoes : (s : Stage) → Good N s → (v : List ℤ) → N ≤ length v → g s (f s v) ≡ v) where
  one-back : (m : List ℤ → ℕ) (s : Stage) → Good N s → (x : List ℤ) → N ≤ length x → ok x ≡ true → ok (f s x) ≡ true →
      run ok g b m (s ∷ []) (f s x) ≡ done x
  unfolding run later
  one-back m s q x room h k = rw (k, undoes s q x room, h)

  trip : {ss : List Stage} → AllGood N ss → (n m : List ℤ → ℕ) (x y : List ℤ) → N ≤ length x → run ok f a n ss x ≡ done y →
      run ok g b m (reverse ss) y ≡ done x
  unfolding follow later through
  trip AllGood.none n m x y room h =
      let e : x ≡ y = run-through ok f a n [] x y h in
      rw (← e) (run_none ok g b m x (run_in ok f a n [] x y h))
  trip (AllGood.more {s} {ss} q all) n m x y room h =
      let k = run-next ok f a n s ss x y h in
      let i : run ok g b m (reverse ss) y ≡ done (f s x) = trip all (a s) m (f s x) y (omega (arith, long s x)) k in
      let o = one-back m s q x room (run_in ok f a n (s ∷ ss) x y h) (run_in ok f a (a s) ss (f s x) y k) in
      rw (reverse-cons s ss, cut ok g b m m (reverse ss) (s ∷ []) y, i, o)

pub all_append : {N : ℕ} {ss us : List Stage} → AllGood N ss → AllGood N us → AllGood N (ss ++ us)
all_append AllGood.none b = b
all_append (AllGood.more q a) b = AllGood.more q (all_append a b)

pub all-reverse : {N : ℕ} {ss : List Stage} → AllGood N ss → AllGood N (reverse ss)
all-reverse AllGood.none = AllGood.none
all-reverse (AllGood.more {s} {ss} q a) = rw (reverse-cons s ss) (all_append (all-reverse a) (AllGood.more q AllGood.none))

module _ (rule : Rule) where
  -- THERE AND BACK: a block that the forward run accepts comes back, since the inverse run accepts its coefficients and gives the
  -- block
  pub there_and_back : {N : ℕ} {ss : List Stage} → AllGood N ss → (x y : List ℤ) → N ≤ length x →
      run_forward rule N ss x ≡ done y → run_inverse rule N ss y ≡ done x
  unfolding run_forward run_inverse
  there_and_back {N} g x y room h =
      trip N (inside bound N) (forward rule N) (undo rule N) (λ s. first_read N) (first_recovered N) (length-forward rule N)
      (λ s q. undo-forward rule N q) g _ _ x y room h

  -- BACK AND THERE: coefficients that the inverse run accepts come back, since the forward run accepts their block and gives them
  pub back-and-there : {N : ℕ} {ss : List Stage} → AllGood N ss → (y x : List ℤ) → N ≤ length y →
      run_inverse rule N ss y ≡ done x → run_forward rule N ss x ≡ done y
  unfolding run_forward run_inverse
  back-and-there {N} {ss} g y x room h =
      rw reverse-reverse at
      (trip N (inside bound N) (undo rule N) (forward rule N) (first_recovered N) (λ s. first_read N) (length-undo rule N)
      (λ s q. forward-undo rule N q) (all-reverse g) (first_read N) (first_read N) y x room h)

  -- CUTTING: a run of a recipe cut in two is the run of the second part on what the first part gave; a refusal of the second
  -- part stands as many stages later as the first part has
  pub cut-forward : (N : ℕ) (ss us : List Stage) (x : List ℤ) →
      run_forward rule N (ss ++ us) x ≡ follow (length ss) (run_forward rule N ss x) (run_forward rule N us)
  unfolding run_forward
  cut-forward N ss us x = cut (inside bound N) (forward rule N) (λ s. first_read N) (first_read N) (first_read N) ss us x

  -- the same of the inverse run, which undoes the second part first
  pub cut-inverse : (N : ℕ) (ss us : List Stage) (y : List ℤ) →
      run_inverse rule N (ss ++ us) y ≡ follow (length us) (run_inverse rule N us y) (run_inverse rule N ss)
  unfolding run_inverse
  cut-inverse N ss us y =
      rw (
        reverse-append ss us,
        cut (inside bound N) (undo rule N) (first_recovered N) (first_read N) (first_read N) (reverse us) (reverse ss) y,
        length-reverse us,
      )
