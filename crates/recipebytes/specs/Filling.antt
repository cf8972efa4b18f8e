-- A LENT SLICE, filled from its start: what was put into it so far, and the room after that as it was.
use Rattle.std.specs.Prelude.{List, [], ◌∷◌, ◌++◌, ◌≡◌, ℕ, ◌+◌, ◌≤◌, ◌<◌, length, get_or, set, take, drop}
use Rattle.std.proofs.Common.{append_assoc, subst, add-one, arith, length-append, length-drop, length-take-le, take-suc, take_at, drop-drop}
use Rattle.std.proofs.lemmas.List.Edits.{sets, sets-eq}
use Rattle.std.proofs.Math.Seq.{take-append_seam, drop-append-add}
use Rattle.rules.specs.Calls.{over}

module _ {A : Type 0} where
  pub over-long : (new room : List A) → length new ≤ length room → length (over new room) ≡ length room
  over-long new room h = rw (length-append, length-drop) (omega arith)

  -- the part that was filled
  pub over-front : (new room : List A) → take (length new) (over new room) ≡ new
  over-front new room = take-append_seam new (drop (length new) room)

  -- more is put behind what is there
  pub over-more : (new more room : List A) → length new + length more ≤ length room
      → sets (over new room) (length new) more ≡ over (new ++ more) room
  over-more new more room h =
      let fits : length new + length more ≤ length (over new room) = rw (length-append, length-drop) (omega arith) in
      rw (
        sets-eq more (over new room) (length new) fits,
        take-append_seam,
        drop-append-add,
        drop-drop,
        length-append,
        append_assoc,
      )

  -- the first k numbers of a list that is put there one by one
  pub front_long : (new room : List A) (k : ℕ) → k ≤ length new → k ≤ length room → length (over (take k new) room) ≡ length room
  front_long new room k h l = let e = length-take-le k new h in over-long (take k new) room (omega arith)

  pub front-is : (new room : List A) (k : ℕ) → k ≤ length new → take k (over (take k new) room) ≡ take k new
  front-is new room k h = take_at (take k new) (drop (length (take k new)) room) k (length-take-le k new h)

  pub over-next : (new room : List A) (k : ℕ) (d : A) → k < length new → k < length room
      → set (over (take k new) room) k (get_or new k d) ≡ over (take (k + 1) new) room
  over-next new room k d h l =
      let front = take k new in
      let v = get_or new k d in
      let long : length front ≡ k = length-take-le k new (omega arith) in
      rw (add-one, take-suc new k d h)
      (subst (λ (n : ℕ). set (over front room) n v ≡ over (front ++ (v ∷ [])) room) long
      (over-more front (v ∷ []) room (omega arith)))
