-- A BLOCK IN ITS ROOM: its numbers at the front of an array, 0 behind them, and the reply to a run over that array.
use Rattle.std.specs.Prelude.{true, ◌≡◌, refl, ℕ, zero, suc, ◌+◌, ◌-◌, ◌≤◌, ◌<◌, pos, take, drop}
use mathlib.Core.List.{List, ◌++◌}
use Rattle.std.proofs.Math.Path.{sym}
use Rattle.std.proofs.Common.{◌∙◌, ne_eqb, length-append, get_or-append-add, ext_get_or}
use Rattle.std.proofs.Math.Decide.{dec_lt}
use native.Mathlib.Omega.{arith}
use Rattle.std.proofs.Math.IntN.{ℤ}
use Rattle.std.proofs.Math.ListN.{length, replicate, length-replicate, get_or-append}
use Rattle.std.proofs.lemmas.List.{length-take-le, length-drop, get_or-take, get_or-drop}
use Rattle.whole.specs.Diff.{Within}
use Rattle.rules.specs.Numbers.{at}
use Rattle.rules.specs.Stages.{Ran, done, beyond, fill, inside}
use Rattle.rules.specs.Answers.{accepted, refused_at}
use Rattle.rules.specs.Calls.{Reply, reply, ran_answer, ran_memory}
use Rattle.rules.proofs.Laws.Lists.{length-fill, fill-at, fill-past, inside-at, same-list}
use Rattle.rules.proofs.Laws.Padding.{padded_run}
use Rattle.laws.specs.AnswersInTurn.{ran_reply}
use Rattle.factor.specs.SumBounds.{Bounded}

-- ---- the end of a run
-- the reply to a run over a block as long as the output or longer
unfoldable pub ended : Ran → ℕ → List ℤ → Reply ℤ
ended (done v) number y = record { answer = accepted; memory = fill (length y) (at v) y }
ended (beyond s e) number y = record { answer = refused_at number 0 s e; memory = y }

-- the numbers at the front of a block, written over a slice of their length
store_is : (v p y : List ℤ) → length v ≡ length y → fill (length y) (at (v ++ p)) y ≡ v
store_is v p y l =
    ext_get_or (pos 0) _ _ (length-fill (length y) (at (v ++ p)) y ∙ sym l)
    (λ k h.
    let q : k < length y = omega (arith, length-fill (length y) (at (v ++ p)) y) in
    fill-at (length y) (at (v ++ p)) y k q (omega arith) ∙ get_or-append v p (pos 0) k (omega arith))

-- the run over a block with p behind it ends as the run over the block
pub ended_is :
    (k : ℕ) (ran : Ran) (p y : List ℤ) → ((v : List ℤ) → ran ≡ done v → length v ≡ length y) →
    ended (padded_run ran p) (suc k) y ≡ ran_reply (suc k) ran y
unfolding ended padded_run reply ran_answer ran_memory
ended_is k (done v) p y h = rw (store_is v p y (h v refl))
ended_is k (beyond s e) p y h = rw (ne_eqb (suc k) 0 (λ z. omega arith))

-- n numbers of one list, and what another has behind n
pub front-filled : (n : ℕ) (x y : List ℤ) → n ≤ length x → n ≤ length y → take n x ++ drop n y ≡ fill n (at x) y
front-filled n x y l m =
    same-list n _ _ (omega (arith, front, length-append (take n x) (drop n y), length-drop n y, length-fill n (at x) y))
    (λ k h. get_or-append (take n x) (drop n y) (pos 0) k (omega (arith, front)) ∙ get_or-take n x k (pos 0) h
    ∙ sym (fill-at n (at x) y k h m))
    (λ k h. past k h ∙ sym (fill-past n (at x) y k h))
  where
    front : length (take n x) ≡ n
    front = length-take-le n x l

    past : (k : ℕ) → n ≤ k → at (take n x ++ drop n y) k ≡ at y k
    past k h =
        let e : n + (k - n) ≡ k = omega arith in
        let q = get_or-append-add (take n x) (drop n y) (k - n) (pos 0) ∙ get_or-drop n y (k - n) (pos 0) in rw (front, e) at q

at-zeros : (n k : ℕ) → at (replicate n (pos 0)) k ≡ pos 0
at-zeros zero k = refl
at-zeros (suc n) zero = refl
at-zeros (suc n) (suc k) = at-zeros n k

module _ (room : ℕ) where
  -- what stands behind n numbers
  abbrev pub padding : ℕ → List ℤ
  padding n = replicate (room - n) (pos 0)

  -- a block in its room
  unfoldable pub padded_block : List ℤ → List ℤ
  padded_block x = x ++ padding (length x)

  at-behind : (x : List ℤ) (k : ℕ) → length x ≤ k → at (x ++ padding (length x)) k ≡ pos 0
  at-behind x k h =
      let e : length x + (k - length x) ≡ k = omega arith in
      rw e at (get_or-append-add x (padding (length x)) (k - length x) (pos 0)) ∙ at-zeros (room - length x) (k - length x)

  -- loading, number by number
  pub load_is : (x : List ℤ) → length x ≤ room → fill (length x) (at x) (replicate room (pos 0)) ≡ padded_block x
  unfolding padded_block
  load_is x l =
      same-list (length x) _ _
      (length-fill (length x) (at x) zs ∙ length-replicate room (pos 0)
      ∙ sym (length-append x (padding (length x)) ∙ rw (length-replicate (room - length x) (pos 0)) (omega arith)))
      (λ k h. fill-at (length x) (at x) zs k h (rw (length-replicate room (pos 0)) l)
      ∙ sym (get_or-append x (padding (length x)) (pos 0) k h))
      (λ k h. fill-past (length x) (at x) zs k h ∙ at-zeros room k ∙ sym (at-behind x k h))
    where
      zs : List ℤ
      zs = replicate room (pos 0)

  -- a block that is in bound is so with what stands behind it
  pub padded-bounded : (B : ℕ) (x : List ℤ) → inside B (length x) x ≡ true → Bounded B (padded_block x)
  unfolding padded_block
  padded-bounded B x h = record { small = λ k. go k (dec_lt k (length x)) }
    where
      go : (k : ℕ) → Dec (k < length x) → Within B (at (x ++ padding (length x)) k)
      go k (yes l) = rw (get_or-append x (padding (length x)) (pos 0) k l) (inside-at B (length x) x h k l)
      go k (no l) = rw (at-behind x k (omega arith)) (record { within = omega arith })
