-- WHAT THE PROMISE OF `rest` SAYS: which references a program cannot tell apart.
use Rattle.std.specs.Prelude.{List, ◌≡◌, ℤ}
use Rattle.std.specs.Borrow.{Bor}

-- two references to the same memory, with the same numbers
pub record Same (q r : Bor (List ℤ)) : Type 0 where
  pub block : q.ref_ptr.0 ≡ r.ref_ptr.0
  pub offset : q.ref_ptr.1 ≡ r.ref_ptr.1
  pub list : q.now ≡ r.now
