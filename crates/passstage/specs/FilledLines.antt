-- A LINE FILLED: its first n numbers set in their places in the block, one after another.
use Rattle.std.specs.Prelude.{true, false, List, ◌≡◌, refl, ℕ, zero, suc, ◌+◌, ◌*◌, ◌≤◌, ◌<◌, leb, ℤ, nat_abs, length}
use Rattle.std.proofs.Common.{sym, ap, ◌∙◌, arith}
use Rattle.laws.specs.Tests.{apart}
use Rattle.rules.specs.Numbers.{most_order, most_cells}
use Rattle.rules.specs.Stages.{fill}
use Rattle.rules.proofs.Laws.Lists.{fill-at}
use Rattle.factor.specs.SumBounds.{Bounded, beyond-there}
use Rattle.factor.specs.MovedInPlace.{scattered, length-scattered}
use Rattle.passstage.specs.Lanes.{lane}
use Rattle.passstage.specs.LaneSteps.{LineMade}
use Rattle.passstage.specs.LaneLaws.{length-lane, lane-line, lane-beside}

-- the block x with n numbers of line l set to g
abbrev pub filled : ℕ → (ℕ → ℤ) → ℕ → List ℤ → List ℤ
filled l g n x = scattered n (λ m. l + m * most_order) g x

-- numbers set in order fill a list
in_order_lem : (n : ℕ) (g : ℕ → ℤ) (v : List ℤ) → scattered n (λ m. m) g v ≡ fill n g v
unfolding scattered fill
in_order_lem zero g v = refl
in_order_lem (suc n) g v = rw (in_order_lem n g v)

module _ (l : ℕ) (g : ℕ → ℤ) (x : List ℤ) (a : l < most_order) (long : length x ≡ most_cells) where
  filled-line : (n : ℕ) → n ≤ most_order → lane l (filled l g n x) ≡ fill n g (lane l x)
  filled-line n few = lane-line l n (λ m. m) g x a long (λ m b. omega arith) ∙ in_order_lem n g (lane l x)

  -- all in bound
  pub line-filled : {most n : ℕ} {y : List ℤ} → n ≤ most_order → y ≡ filled l g n x → Bounded most y →
      LineMade most n l (fill n g (lane l x)) x y true
  line-filled {n = n} few e h =
      let k = ap length e ∙ length-scattered n _ g x ∙ long in
      record {
        goes = λ _. record {
          line = rw e (filled-line n few);
          others = rw e (lane-beside l n (λ m. m) g x a);
          small = h;
          long = k;
        };
        stops = λ t. apart t;
        long = k;
      }

  -- one beyond it
  pub line-beyond : {most n m : ℕ} {y : List ℤ} → n ≤ most_order → m < n → leb (nat_abs (g m)) most ≡ false →
      length y ≡ most_cells → LineMade most n l (fill n g (lane l x)) x y false
  line-beyond {most} {n} {m} few b far whole = record {
    goes = λ t. apart (sym t);
    stops = λ _.
        beyond-there most n (fill n g (lane l x)) m (g m) b (fill-at n g (lane l x) m b (omega (arith, length-lane l x))) far;
    long = whole;
  }
