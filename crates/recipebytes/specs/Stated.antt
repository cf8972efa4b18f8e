-- WHAT THE TRIPS OF A RECIPE ASK of a byte string.
use Rattle.std.specs.Prelude.{List, ℕ, ◌<◌, get_or}

-- each number of the list is a byte
pub record Bytes (l : List ℕ) : Type 0 where
  pub each : (i : ℕ) → get_or l i 0 < 256
