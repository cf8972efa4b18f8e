-- "WHAT COMES BACK" of document 01: the calls that fill a lent slice. Each gives an answer, and what the slice holds then.
use Rattle.std.specs.Prelude.{cond, List, [], ◌∷◌, ◌++◌, ◌≡◌, ℕ, ◌-◌, ◌*◌, eqb, leb, ℤ, pos, neg_ℤ, length, drop}
use Rattle.rules.specs.declared.Answer.{Answer}
use Rattle.rules.specs.Numbers.{most_order, count}
use Rattle.rules.specs.Factors.{factors}
use Rattle.rules.specs.declared.Rule.{Rule}
use Rattle.rules.specs.declared.Rule.TheVariants.{Nearest, Down, Even}
use Rattle.rules.specs.Stages.{Stage, Ran, done, beyond, run_forward, run_inverse, run_allowance}
use Rattle.rules.specs.Sheets.{reading}
use Rattle.rules.specs.Shapes.{line_stages, joint_stages, columns, rows, pass_stages}
use Rattle.rules.specs.Recipes.{packed, numbers_of, left_of}
use Rattle.rules.specs.Answers.{accepted, counted, refused, refused_at, ◌or_else◌, read_answer, checked, pair_checked}

pub record Reply (A : Type 0) : Type 0 where
  pub answer : Answer
  pub memory : List A

-- what a contract says of an answer and of the lent slice when the call returns
abbrev pub Gives : {A : Type 0} → Answer → List A → Reply A → Type 0
Gives answer memory reply = (answer ≡ reply.answer) × (memory ≡ reply.memory)

-- "Refused calls leave lent memory untouched"
unfoldable pub reply : {A : Type 0} → Answer → List A → List A → Reply A
reply a new old = record { answer = a; memory = cond (eqb a.number 0) new old }

-- ---- calls that can answer 15
-- 15, "the count needed"
abbrev pub fitting : ℕ → ℕ → Answer
fitting n room = cond (leb n room) (counted n) (refused 15 0 n)

-- "leaves the room after its output untouched"
abbrev pub over : {A : Type 0} → List A → List A → List A
over new room = new ++ drop (length new) room

-- 14: "number cut, too long or not shortest", at "its first byte"
abbrev pub spelling : List ℕ → Answer
spelling b = cond (eqb (length (left_of b)) 0) accepted (refused 14 0 (length b - length (left_of b)))

-- "The reader answers 14 for the whole byte string first, then 1 to 9, then 15"
unfoldable pub read : List ℕ → List ℤ → Reply ℤ
read b room =
    reply (spelling b or_else checked (numbers_of b) or_else fitting (length (numbers_of b)) (length room))
    (over (numbers_of b) room) room

-- "the writer 1 to 9, then 15"
unfoldable pub write : List ℤ → List ℕ → Reply ℕ
write s room = reply (checked s or_else fitting (length (packed s)) (length room)) (over (packed s) room) room

-- "BUILT-IN RECIPE": "It is a table of 45 numbers"; u is U's entry in row 1, column 3
abbrev neg : ℕ → ℤ
neg n = neg_ℤ (pos n)

abbrev table_with : ℤ → List ℤ
table_with u =
    pos 4 ∷ pos 5
    ∷ pos 1 ∷ pos 3 ∷ pos 2 ∷ pos 0 ∷ pos 1
    ∷ pos 2 ∷ pos 1 ∷ pos 1 ∷ pos 1 ∷ pos 1 ∷ pos 1612 ∷ pos 0 ∷ neg 4096 ∷ neg 815 ∷ pos 3281 ∷ pos 0
    ∷ pos 3 ∷ neg 1 ∷ pos 1 ∷ pos 1 ∷ pos 1 ∷ pos 6238 ∷ pos 2048 ∷ neg 2676 ∷ pos 3101 ∷ u ∷ pos 0
    ∷ pos 2 ∷ pos 1 ∷ pos 1 ∷ pos 1 ∷ pos 1 ∷ neg 2106 ∷ pos 2106 ∷ neg 4096 ∷ neg 872 ∷ pos 3281 ∷ pos 0
    ∷ pos 1 ∷ pos 3 ∷ pos 2 ∷ pos 1 ∷ pos 0
    ∷ []

-- as corrected (R-2): "the table's 2484 becomes -2484"
abbrev pub built_in : List ℤ
built_in = table_with (neg 2484)

-- "the old table stays as 'first printing'"
abbrev pub first_printing : List ℤ
first_printing = table_with (pos 2484)

-- "A call writes it into a lent slice, or answers 15"
unfoldable pub write_table : List ℤ → List ℤ → Reply ℤ
write_table table room = reply (fitting (length table) (length room)) (over table room) room

-- ---- runs: what they take from their sheets
pub record Plan : Type 0 where
  -- the sheets' own answer, 1 to 9 and 12; before it 16, where the rule is a number
  pub sheets : Answer
  -- how many numbers a block has
  pub size : ℕ
  pub stages : List Stage

unfoldable pub line : List ℤ → Plan
line s = record { sheets = checked s; size = count s 0; stages = line_stages (count s 0) (factors s) }

unfoldable pub joint : List ℤ → List ℤ → Plan
joint c r = record {
  sheets = pair_checked c r;
  size = count c 0 * count r 0;
  stages = joint_stages (count c 0) (count r 0) (factors c) (factors r);
}

-- request R-4, "a two-pass run: the column sheet down each column, then the row sheet along each row"; "Refusals: as for the
-- joint run, without 12"
unfoldable pub two_pass : List ℤ → List ℤ → Plan
two_pass c r = record {
  sheets = read_answer 0 (reading c) or_else read_answer 1 (reading r);
  size = count c 0 * count r 0;
  stages = pass_stages (columns (count c 0) (count r 0)) (factors c) ++ pass_stages (rows (count c 0) (count r 0)) (factors r);
}

-- "the other order given as a number (refused 2, place 0, after the sheet's own faults)"
abbrev pub order_checked : ℕ → Answer
order_checked n = cond (leb 1 n) (cond (leb n most_order) accepted (refused 2 0 0)) (refused 2 0 0)

-- "One pass alone .. is a call too": n2 columns of a column sheet's order, n1 rows of a row sheet's
unfoldable pub column_pass : List ℤ → ℕ → Plan
column_pass c n2 = record {
  sheets = checked c or_else order_checked n2;
  size = count c 0 * n2;
  stages = pass_stages (columns (count c 0) n2) (factors c);
}

unfoldable pub row_pass : List ℤ → ℕ → Plan
row_pass r n1 = record {
  sheets = checked r or_else order_checked n1;
  size = n1 * count r 0;
  stages = pass_stages (rows n1 (count r 0)) (factors r);
}

-- request R-5: "0 as today, 1 floor, 2 nearest with halves to even": the number of each rule
unfoldable pub rule_number : Rule → ℕ
rule_number Nearest = 0
rule_number Down = 1
rule_number Even = 2

-- and the rule of each number; of a number that is no rule's it does not matter, since 16 refuses it
unfoldable pub rule_of : ℕ → Rule
rule_of k = cond (eqb k 1) Down (cond (eqb k 2) Even Nearest)

-- "16 for a rule not 0, 1 or 2, place 0, before all others"
abbrev pub rule_checked : ℕ → Answer
rule_checked k = cond (leb k 2) accepted (refused 16 0 0)

-- the plan of a call by the number k of a rule
abbrev pub under : ℕ → Plan → Plan
under k p = record { sheets = rule_checked k or_else p.sheets; size = p.size; stages = p.stages }

-- "Each run and allowance takes the rule as a number beside the sheets": a call over that plan by that rule
abbrev pub ruled : {X : Type 0} → ℕ → (Rule → Plan → X) → Plan → X
ruled k call p = call (rule_of k) (under k p)

-- 10: "slice length is not n, or n1·n2"; "Side is 1 .. for the output"
abbrev pub sized : {A : Type 0} → ℕ → ℕ → List A → Answer
sized side n v = cond (eqb (length v) n) accepted (refused 10 side 0)

-- 11 and 13, at the first stage, with its element
unfoldable pub ran_answer : ℕ → Ran → Answer
ran_answer number (done v) = accepted
ran_answer number (beyond s e) = refused_at number 0 s e

unfoldable pub ran_memory : Ran → List ℤ → List ℤ
ran_memory (done v) y = v
ran_memory (beyond s e) y = y

-- "12, 10 for the input, 10 for the output, then 11"; the output is written at the end
unfoldable pub run_reply : Plan → Ran → List ℤ → List ℤ → Reply ℤ
run_reply p ran x y =
    reply (p.sheets or_else sized 0 p.size x or_else sized 1 p.size y or_else ran_answer 11 ran) (ran_memory ran y) y

module _ (rule : Rule) (p : Plan) where
  -- x lent as the input, y as the output
  unfoldable pub forward_call : List ℤ → List ℤ → Reply ℤ
  forward_call x y = run_reply p (run_forward rule p.size p.stages x) x y

  unfoldable pub inverse_call : List ℤ → List ℤ → Reply ℤ
  inverse_call x y = run_reply p (run_inverse rule p.size p.stages x) x y

  -- an allowance call lends only an output
  unfoldable pub allowance_call : List ℤ → Reply ℤ
  allowance_call y =
      let ran = run_allowance rule p.size p.stages in
      reply (p.sheets or_else sized 1 p.size y or_else ran_answer 13 ran) (ran_memory ran y) y
