-- AN ORDER OF THE CODE'S OWN: elements p 0, p 1, .. are recovered one after another, in place. Where no weight looks at a later
-- element, that undoes the stage, whatever order the document names.
use Rattle.std.specs.Prelude.{List, [], ◌∷◌, ◌≢◌, ◌≡◌, ℤ, pos, ◌-ℤ◌, ◌*ℤ◌, length, set}
use Rattle.std.proofs.Math.Path.{refl, sym, ap}
use Rattle.std.proofs.Common.{◌∙◌, arith, length-set}
use Prim.Native.Nat.{ℕ, zero, suc, ◌≤◌, ◌<◌}
use Rattle.std.proofs.Math.Decide.{ℕ_discrete}
use Rattle.whole.specs.Stated.{Sign}
use Rattle.rules.specs.Numbers.{at}
use Rattle.rules.specs.declared.Rule.{Rule}
use Rattle.rules.specs.Stages.{R, off, weighed, recover}
use Rattle.rules.specs.Shapes.{by_turn}
use Rattle.rules.specs.GoodStages.{Permutes, Recovers}
use Rattle.rules.proofs.Laws.Lists.{set_at, set_other}
use Rattle.rules.proofs.Laws.RecoveryOrder.{Ranked, turns-recover, turn_one}
use Rattle.rules.proofs.Laws.Inverses.{recover-append, any_order}

-- the list after t turns; in a turn the element is made of the list as it stands
unfoldable pub in_place : (List ℤ → ℕ → ℤ) → (ℕ → ℕ) → ℕ → List ℤ → List ℤ
in_place step p zero y = y
in_place step p (suc t) y = set (in_place step p t y) (p t) (step (in_place step p t y) (p t))

pub length-in-place : (step : List ℤ → ℕ → ℤ) (p : ℕ → ℕ) (t : ℕ) (y : List ℤ) → length (in_place step p t y) ≡ length y
unfolding in_place
length-in-place step p zero y = refl
length-in-place step p (suc t) y = length-set (in_place step p t y) (p t) _ ∙ length-in-place step p t y

-- an element whose turn has not come is as it was
pub in-place-other : (step : List ℤ → ℕ → ℤ) (p : ℕ → ℕ) (t : ℕ) (y : List ℤ) (e : ℕ) → ((u : ℕ) → u < t → p u ≢ e) →
    at (in_place step p t y) e ≡ at y e
unfolding in_place
in-place-other step p zero y e h = refl
in-place-other step p (suc t) y e h =
    set_other (in_place step p t y) (p t) e _ (λ z. h t (omega arith) (sym z))
    ∙ in-place-other step p t y e (λ u l. h u (omega arith))

module _ {N : ℕ} {p : ℕ → ℕ} (h : Permutes N p) where
  pub apart : (t u : ℕ) → t < N → u < N → t ≢ u → p t ≢ p u
  apart t u a b q e = q (sym (h.from-to t a) ∙ ap h.from e ∙ h.from-to u b)

  -- an element once recovered stays
  pub in-place-stays :
      (step : List ℤ → ℕ → ℤ) (y : List ℤ) → N ≤ length y → (t m : ℕ) → t < m → m ≤ N →
      at (in_place step p m y) (p t) ≡ step (in_place step p t y) (p t)
  unfolding in_place
  in-place-stays step y room t zero l k = absurd (omega arith)
  in-place-stays step y room t (suc m) l k = go (in-place-stays step y room t m) (ℕ_discrete t m)
    where
      go : (t < m → m ≤ N → at (in_place step p m y) (p t) ≡ step (in_place step p t y) (p t)) → Dec (t ≡ m) →
          at (set (in_place step p m y) (p m) (step (in_place step p m y) (p m))) (p t) ≡ step (in_place step p t y) (p t)
      go ih (yes e) = rw e (set_at (in_place step p m y) (p m) _ (omega (arith, length-in-place step p m y, h.below m k)))
      go ih (no e) = set_other (in_place step p m y) (p m) (p t) _ (apart t m (omega arith) k e) ∙ ih (omega arith) (omega arith)

  module _ (rule : Rule) (S : ℕ) (d : ℕ → ℤ) (w : ℕ → ℕ → ℤ) (step : List ℤ → ℕ → ℤ)
      (is : (v : List ℤ) (e : ℕ) → e < N → step v e ≡ d e *ℤ (at v e -ℤ R rule S (weighed N (off w e) v))) where
    in-place-recover : (t : ℕ) → t ≤ N → (y : List ℤ) → recover rule N S d w (by_turn N t h.from) y ≡ in_place step p t y
    unfolding in_place by_turn recover
    in-place-recover zero l y = refl
    in-place-recover (suc t) l y =
        let e = turn_one N t h.from (p t) (h.below t l) (h.from-to t l) (λ k b z. sym (h.to-from k b) ∙ ap p z) in
        rw (
          e,
          recover-append rule N S d w (by_turn N t h.from) (p t ∷ []) y,
          in-place-recover t (omega arith) y,
          is
              (in_place step p t y) (p t) (h.below t l),
        )

    -- RECOVERED IN PLACE, THE STAGE IS UNDONE
    pub in-place-undoes :
        0 < S → ((e : ℕ) → e < N → Sign (d e)) → ((t u : ℕ) → t < u → u < N → w (p t) (p u) ≡ pos 0) →
        {o : List ℕ} → Recovers N d w o → (y : List ℤ) → N ≤ length y → in_place step p N y ≡ recover rule N S d w o y
    in-place-undoes c g blind r y room =
        sym (in-place-recover N (omega arith) y) ∙ any_order rule S c (turns-recover ranked g) r y room
      where
        later : (e k : ℕ) → e < N → k < N → e ≢ k → h.from e ≤ h.from k → h.from e < h.from k
        later e k a b q l = go (ℕ_discrete (h.from e) (h.from k))
          where
            go : Dec (h.from e ≡ h.from k) → h.from e < h.from k
            go (yes z) = absurd (q (sym (h.to-from e a) ∙ ap p z ∙ h.to-from k b))
            go (no z) = omega arith

        ranked : Ranked N N w h.from
        ranked = record {
          top = λ e l. h.from-below e l;
          blind = λ e k a b q l. let z = blind (h.from e) (h.from k) (later e k a b q l) (h.from-below k b) in
              rw (h.to-from e a, h.to-from k b) at z;
        }
