-- THERE AND BACK, over the calls: what the writer wrote is read as its sheet, what the reader read is written as its bytes,
-- and no other bytes are read so. Then the built-in recipe is an accepted sheet, in both printings.
use Rattle.std.specs.Prelude.{List, ◌≡◌, refl, ℕ, ◌^◌, ◌<◌, ℤ, length, take}
use Rattle.std.proofs.Common.{sym, ap, ◌∙◌}
use Rattle.rules.specs.Numbers.{at}
use Rattle.rules.specs.Sheets.{go, times, among, fault_of, one, kind_of, triangle, weights, body, factor, closed, head, reading}
use Rattle.rules.specs.Recipes.{code, packed, numbers_of}
use Rattle.rules.specs.Answers.{accepted, counted, checked}
use Rattle.rules.specs.Calls.{Reply, reply, fitting, over, spelling, read, write, built_in, first_printing}
use Rattle.laws.specs.Accepted.{accepted-read}
use Rattle.laws.specs.Low.{accepted-low}
use Rattle.recipebytes.specs.Codes.{small-codable}
use Rattle.recipebytes.specs.Stated.{Bytes}
use Rattle.recipebytes.specs.Packing.{Codables, read-packed, packed-read, one-spelling}
use Rattle.recipebytes.specs.Filling.{over-front}
use Rattle.laws.specs.AnswersInTurn.{answer-passes}
use Rattle.recipe.specs.Calls.{wrote, did_read}

-- every number of an accepted sheet has at most three groups of seven bits
pub accepted-codables : (s : List ℤ) → (checked s).number ≡ 0 → Codables s
accepted-codables s h = record { each = λ i. small-codable _ (accepted-low (accepted-read s h) i) }

pub three-groups : (s : List ℤ) → (checked s).number ≡ 0 → (i : ℕ) → code (at s i) < 2 ^ 21
three-groups s h i = ((accepted-codables s h).each i).fits

-- what stands in the front of the slice, as far as the answer says
front : {A : Type 0} (new room : List A) {r : Reply A} → r ≡ record { answer = counted (length new); memory = over new room }
    → take r.answer.place r.memory ≡ new
front new room e = rw e (over-front new room)

-- ---- there and back
read-packed-call : (s : List ℤ) (out : List ℤ) → (checked s).number ≡ 0
    → read (packed s) out ≡ reply (fitting (length s) (length out)) (over s out) out
unfolding read
read-packed-call s out h =
    let r = read-packed s (accepted-codables s h) in
    let e : spelling (packed s) ≡ accepted = rw r.1 in
    rw (e, r.0, answer-passes accepted _ refl, answer-passes (checked s) _ h)

-- reading what the writer wrote gives the sheet back, where there is room
pub read-of-write : (s : List ℤ) (room : List ℕ) (out : List ℤ) → (write s room).answer.number ≡ 0
    → read (take (write s room).answer.place (write s room).memory) out
    ≡ reply (fitting (length s) (length out)) (over s out) out
read-of-write s room out h =
    let w = wrote s room h in
    ap (λ (b : List ℕ). read b out) (front (packed s) room w.whole) ∙ read-packed-call s out w.sheet

-- writing what the reader read gives the bytes back, where there is room
pub write-of-read : (b : List ℕ) (out : List ℤ) (room : List ℕ) → Bytes b → (read b out).answer.number ≡ 0
    → write (take (read b out).answer.place (read b out).memory) room
    ≡ reply (fitting (length b) (length room)) (over b room) room
unfolding write
write-of-read b out room h k =
    let r = did_read b out k in
    rw (front (numbers_of b) out r.whole, packed-read b h r.all, answer-passes (checked (numbers_of b)) _ r.sheet)

-- no two byte strings are read as the same sheet
pub one-recipe : (a b : List ℕ) (out : List ℤ) → Bytes a → Bytes b → (read a out).answer.number ≡ 0
    → read a out ≡ read b out → a ≡ b
one-recipe a b out ha hb k e =
    let r = did_read a out k in
    let t = did_read b out (ap (λ (x : Reply ℤ). x.answer.number) (sym e) ∙ k) in
    let read_by : Reply ℤ → List ℤ = λ x. take x.answer.place x.memory in
    let s : numbers_of a ≡ numbers_of b =
    sym (front (numbers_of a) out r.whole) ∙ ap read_by e ∙ front (numbers_of b) out t.whole in
    one-spelling ha hb r.all t.all s

-- ---- the built-in recipe, corrected and as first printed
pub built-in-accepted : (checked built_in ≡ accepted) × (checked first_printing ≡ accepted)
unfolding reading head go times one fault_of among kind_of triangle weights body factor closed
built-in-accepted = (refl, refl)
