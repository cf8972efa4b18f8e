-- A LINE OF FOUR, element by element, as the code goes through it: which entries stand in a row is said by their numbers, from 1
-- on, 0 for none.
use Rattle.std.specs.Prelude.{Bool, true, false, cond, List, ◌≡◌, Option, IfSome, ℕ, ◌+◌, ◌-◌, ◌≤◌, ◌<◌, eqb, ltb, ℤ, pos, ◌+ℤ◌, ◌-ℤ◌, ◌*ℤ◌, length, set}
use Rattle.whole.specs.Diff.{Within}
use Rattle.whole.specs.Stated.{Sign}
use Rattle.rules.specs.declared.Rule.{Rule}
use Rattle.rules.specs.Numbers.{unit, bound, most_entry, at}
use Rattle.rules.specs.Stages.{Stage, R, forward, undo}
use Rattle.factor.specs.SumBounds.{Bounded}
use Rattle.four.specs.declared.Four.{Four}

-- entry c of a factor whose entries start at place e
unfoldable pub entry_at : List ℤ → ℕ → ℕ → ℤ
entry_at s e c = cond (eqb c 0) (pos 0) (at s (e + (c - 1)))

pub record EntryIn (s : List ℤ) (e c : ℕ) : Type 0 where
  pub there : (c ≡ 0 → ⊥) → e + (c - 1) < length s
  pub small : Within most_entry (entry_at s e c)

-- element m of a factor whose signs start at place p: its sign, and the entries a to d of its row
pub record ElementIn (s : List ℤ) (p m a b c d : ℕ) : Type 0 where
  pub place : m < 4
  pub room : p + 4 ≤ length s
  pub sign : Sign (at s (p + m))
  pub first : EntryIn s (p + 4) a
  pub second : EntryIn s (p + 4) b
  pub third : EntryIn s (p + 4) c
  pub fourth : EntryIn s (p + 4) d

module _ (rule : Rule) (s : List ℤ) (p : ℕ) where
  unfoldable pub row_sum : ℕ → ℕ → ℕ → ℕ → List ℤ → ℤ
  row_sum a b c d x =
      let w = entry_at s (p + 4) in
      (((pos 0 +ℤ (w a *ℤ at x 0)) +ℤ (w b *ℤ at x 1)) +ℤ (w c *ℤ at x 2)) +ℤ (w d *ℤ at x 3)

  abbrev pub rounded_sum : ℕ → ℕ → ℕ → ℕ → List ℤ → ℤ
  rounded_sum a b c d x = R rule unit (row_sum a b c d x)

  -- what element m becomes, and what it was: its own number from the block x, the others from the block v
  unfoldable pub element_by : Bool → ℕ → ℕ → ℕ → ℕ → ℕ → List ℤ → List ℤ → ℤ
  element_by false m a b c d x v = (at s (p + m) *ℤ at x m) +ℤ rounded_sum a b c d x
  element_by true m a b c d x v = at s (p + m) *ℤ (at x m -ℤ rounded_sum a b c d v)

  -- a turn: that element into the block v
  abbrev pub turn : Bool → ℕ → ℕ → ℕ → ℕ → ℕ → List ℤ → List ℤ → List ℤ
  turn back m a b c d x v = set v m (element_by back m a b c d x v)

  -- the three kinds, applied or back: the order of turns is that of undoing
  abbrev pub lower_by : Bool → List ℤ → List ℤ
  lower_by back x = let t = turn back in t 3 4 5 6 0 x (t 2 2 3 0 0 x (t 1 1 0 0 0 x (t 0 0 0 0 0 x x)))

  abbrev pub upper_by : Bool → List ℤ → List ℤ
  upper_by back x = let t = turn back in t 0 0 1 2 3 x (t 1 0 0 4 5 x (t 2 0 0 0 6 x (t 3 0 0 0 0 x x)))

  -- all signs first, then row r: which of its entries stands in a column
  abbrev pub signs_by : Bool → List ℤ → List ℤ
  signs_by back x = let t = turn back in t 3 0 0 0 0 x (t 2 0 0 0 0 x (t 1 0 0 0 0 x (t 0 0 0 0 0 x x)))

  abbrev pub across : ℕ → ℕ → ℕ
  across r k = cond (eqb k r) 0 (cond (ltb k r) (k + 1) k)

  abbrev pub single_by : Bool → ℕ → List ℤ → List ℤ
  single_by back r x = turn back r (across r 0) (across r 1) (across r 2) (across r 3) x (signs_by back x)

-- the document's stage, applied or undone
unfoldable pub stage_on : Bool → Rule → ℕ → Stage → List ℤ → List ℤ
stage_on false rule n stage x = forward rule n stage x
stage_on true rule n stage x = undo rule n stage x

-- what a turn makes of a block, if all is well
pub record Turned (r v : Four) (g : List ℤ → List ℤ) : Type 0 where
  pub small : Bounded bound r.block
  pub took : r.ok ≡ true → (v.ok ≡ true) × (r.block ≡ g v.block)

-- a block in bound which is the new one, if all is well
pub record Became (r : Four) (new : List ℤ) : Type 0 where
  pub small : Bounded bound r.block
  pub became : r.ok ≡ true → r.block ≡ new

-- what a stage gives is the new block, in bound
abbrev pub Given : Option (List ℤ) → List ℤ → Type 0
Given r new = IfSome r (λ y. Bounded bound y × (y ≡ new))
