-- What the definitions of sheets and of recipe bytes speak of beside lists and numbers.
use Rattle.std.specs.Prelude.{ℕ}

-- where a reader stands: number 0 and the next place, or a fault's number and its place
pub record Mark : Type 0 where
  pub number : ℕ
  pub place : ℕ

-- the number that some bytes spell: how many bytes, and the code; size 0 if they spell none
pub record Spelt : Type 0 where
  pub size : ℕ
  pub code : ℕ
