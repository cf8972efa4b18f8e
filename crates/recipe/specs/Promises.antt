-- ONE ANSWER AND ONE MEMORY of each call on recipe bytes, refusals too: what their contracts say leaves no other. x is the answer
-- of a call's result (`count_answered`), and tells it (`one-count`).
use Rattle.std.specs.Prelude.{List, ◌≡◌, ℕ, ℤ}
use Rattle.rules.specs.declared.Answer.{Answer}
use Rattle.rules.specs.Calls.{Gives, read, write, write_table}
use Rattle.laws.specs.Promises.{one_answer}

pub one-read : (b : List ℕ) (room : List ℤ) {x y : Answer} {m n : List ℤ} → Gives x m (read b room) → Gives y n (read b room) →
    (x ≡ y) × (m ≡ n)
one-read b room = one_answer (read b room)

pub one-write : (s : List ℤ) (room : List ℕ) {x y : Answer} {m n : List ℕ} → Gives x m (write s room) → Gives y n (write s room) →
    (x ≡ y) × (m ≡ n)
one-write s room = one_answer (write s room)

pub one_table : (table room : List ℤ) {x y : Answer} {m n : List ℤ} → Gives x m (write_table table room) →
    Gives y n (write_table table room) → (x ≡ y) × (m ≡ n)
one_table table room = one_answer (write_table table room)
