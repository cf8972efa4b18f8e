-- THE CALLS: what one gives that refuses, and what holds where one refuses nothing.
use Rattle.std.specs.Prelude.{List, [], ◌∷◌, ◌≡◌, refl, ℕ, ◌≤◌, ◌<◌, ℤ, length}
use Rattle.std.proofs.Common.{sym, ap, ◌∙◌, arith, le-leb, ne_eqb}
use Rattle.std.proofs.Math.Decide.{dec_lt, ℕ_discrete}
use Rattle.std.proofs.lemmas.Bool.{lt-leb}
use Rattle.rules.specs.declared.Answer.{Answer}
use Rattle.rules.specs.Recipes.{packed, numbers_of, left_of}
use Rattle.rules.specs.Answers.{counted, ◌or_else◌, checked}
use Rattle.rules.specs.Calls.{Reply, reply, fitting, over, spelling, read, write}
use Rattle.laws.specs.Accepted.{both-fine}
use Rattle.laws.specs.AnswersInTurn.{answer-passes}

-- ---- answers that are no refusal
pub fitting-fine : (n room : ℕ) → (fitting n room).number ≡ 0 → (n ≤ room) × (fitting n room ≡ counted n)
fitting-fine n room h = split (dec_lt room n)
  where
    split : Dec (room < n) → (n ≤ room) × (fitting n room ≡ counted n)
    split (yes l) = let z = rw (lt-leb n room l) at h in absurd (omega arith)
    split (no l) = (omega arith, rw (le-leb n room (omega arith)))

spelling-fine : (b : List ℕ) → (spelling b).number ≡ 0 → left_of b ≡ []
spelling-fine b h = none (left_of b) (zero_left (ℕ_discrete (length (left_of b)) 0))
  where
    zero_left : Dec (length (left_of b) ≡ 0) → length (left_of b) ≡ 0
    zero_left (yes e) = e
    zero_left (no e) = let z = rw (ne_eqb (length (left_of b)) 0 e) at h in absurd (omega arith)

    none : (l : List ℕ) → length l ≡ 0 → l ≡ []
    none [] e = refl
    none (x ∷ l) e = absurd (omega arith)

reply-fine : {A : Type 0} {a : Answer} (n : ℕ) (new old : List A) → a ≡ counted n
    → reply a new old ≡ record { answer = counted n; memory = new }
unfolding reply
reply-fine n new old e = rw e

-- ---- a sheet that was written
pub record Wrote (s : List ℤ) (room : List ℕ) : Type 0 where
  pub sheet : (checked s).number ≡ 0
  pub fits : length (packed s) ≤ length room
  pub whole : write s room ≡ record { answer = counted (length (packed s)); memory = over (packed s) room }

pub wrote : (s : List ℤ) (room : List ℕ) → (write s room).answer.number ≡ 0 → Wrote s room
unfolding write reply
wrote s room h =
    let f = both-fine (checked s) _ h in
    let g = fitting-fine (length (packed s)) (length room) f.1 in
    record {
      sheet = f.0;
      fits = g.0;
      whole = reply-fine (length (packed s)) (over (packed s) room) room (answer-passes (checked s) _ f.0 ∙ g.1);
    }

-- ---- bytes that were read
pub record DidRead (b : List ℕ) (room : List ℤ) : Type 0 where
  pub all : left_of b ≡ []
  pub sheet : (checked (numbers_of b)).number ≡ 0
  pub fits : length (numbers_of b) ≤ length room
  pub whole : read b room ≡ record { answer = counted (length (numbers_of b)); memory = over (numbers_of b) room }

pub did_read : (b : List ℕ) (room : List ℤ) → (read b room).answer.number ≡ 0 → DidRead b room
unfolding read reply
did_read b room h =
    let s = numbers_of b in
    let f = both-fine (spelling b) _ h in
    let g = both-fine (checked s) _ f.1 in
    let k = fitting-fine (length s) (length room) g.1 in
    record {
      all = spelling-fine b f.0;
      sheet = g.0;
      fits = k.0;
      whole = reply-fine (length s) (over s room) room (answer-passes (spelling b) _ f.0 ∙ answer-passes (checked s) _ g.0
          ∙ k.1);
    }

-- the same, where a reader's answer counted n
pub read-counted : (b : List ℕ) (room : List ℤ) {n m : ℕ} → m ≡ length (numbers_of b)
    → counted n ≡ spelling b or_else checked (numbers_of b) or_else fitting m (length room)
    → DidRead b room × (n ≡ length (numbers_of b))
unfolding read reply
read-counted b room {n} {m} many e =
    let f = rw many at e in
    let d = did_read b room (ap (λ (x : Answer). x.number) (sym f)) in
    (d, ap (λ (x : Answer). x.place) (f ∙ ap (λ (x : Reply ℤ). x.answer) d.whole))
