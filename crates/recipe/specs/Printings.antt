-- THE TWO PRINTINGS of the built-in recipe differ in the number at 27: one call goes through the other.
use mathlib.Core.List.{List}
use Rattle.std.specs.Prelude.{◌≡◌, refl, ◌<◌, ℤ, pos, length}
use Rattle.std.proofs.Math.Path.{sym, subst}
use Rattle.std.proofs.Common.{ap, ◌∙◌, arith}
use Rattle.std.proofs.Math.ListN.{set}
use Rattle.rules.specs.declared.Answer.{Answer}
use Rattle.rules.specs.Calls.{Gives, reply, fitting, over, built_in, first_printing, write_table}
use Rattle.laws.specs.AnswersInTurn.{keeps, fills}
use Rattle.recipe.specs.Calls.{fitting-fine}
use Rattle.recipebytes.specs.Filling.{over-long}

module _ (room : List ℤ) {x : Answer} {m : List ℤ} (g : Gives x m (write_table built_in room)) where
  answered : x ≡ fitting 45 (length room)
  unfolding write_table reply
  answered = g.0

  -- where one is refused, so is the other
  pub printing-refused : (x.number ≡ 0 → ⊥) → Gives x m (write_table first_printing room)
  unfolding write_table
  printing-refused h =
      subst (λ (l : List ℤ). Gives x l (write_table first_printing room)) (sym kept)
      (keeps (over first_printing room) room answered h)
    where
      kept : m ≡ room
      kept = g.1 ∙ sym (keeps (over built_in room) room answered h).1

  table-there : x.number ≡ 0 → m ≡ over built_in room
  unfolding write_table
  table-there h = g.1 ∙ sym (fills (over built_in room) room answered h refl).1

  pub printing-room : x.number ≡ 0 → 27 < length m
  printing-room h =
      let f = (fitting-fine 45 (length room) (ap (λ (a : Answer). a.number) (sym answered) ∙ h)).0 in
      rw (table-there h) (omega (arith, over-long built_in room f))

  pub printing-filled : x.number ≡ 0 → Gives x (set m 27 (pos 2484)) (write_table first_printing room)
  unfolding write_table
  printing-filled h = fills (over first_printing room) room answered h (ap (λ (l : List ℤ). set l 27 (pos 2484)) (table-there h))
