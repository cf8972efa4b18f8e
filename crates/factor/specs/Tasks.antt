-- THE THREE TASKS: what a run does by its task and its rule. Definitions for the code, over those of the document.
use Rattle.std.specs.Prelude.{Bool, true, false, cond, List, reverse, ℕ, suc, ◌-◌, ◌≤◌, ◌<◌, ℤ}
use Rattle.std.proofs.Common.{arith}
use Rattle.rules.specs.declared.Rule.{Rule}
use Rattle.rules.specs.Numbers.{bound, most_allowance}
use Rattle.rules.specs.Stages.{Stage, Ran, forward, undo, allow, inside, first_read, first_recovered, run}
use Rattle.rules.specs.Stages.{run_forward, run_inverse, run_allowance}
use Rattle.rules.specs.Calls.{Reply, Plan, forward_call, inverse_call, allowance_call}
use Rattle.factor.specs.declared.run.Task.{Task}
use Rattle.factor.specs.declared.run.Task.TheVariants.{Forward, Inverse, Allowance}
use Rattle.factor.specs.declared.run.Run.{Run}

-- whether numbers go back
unfoldable pub is_inverse : Task → Bool
is_inverse Forward = false
is_inverse Inverse = true
is_inverse Allowance = false

-- the limit of the numbers on the way
unfoldable pub limit_of : Task → ℕ
limit_of Forward = bound
limit_of Inverse = bound
limit_of Allowance = most_allowance

-- how many numbers are lent for a block of n
unfoldable pub inputs_of : Task → ℕ → ℕ
inputs_of Forward n = n
inputs_of Inverse n = n
inputs_of Allowance n = 0

-- the number of a refusal on the way
unfoldable pub number_of : Task → ℕ
number_of Forward = 11
number_of Inverse = 11
number_of Allowance = 13

-- which of K stages comes after t others, and the stages in that order
unfoldable pub nth_stage : Task → ℕ → ℕ → ℕ
nth_stage task K t = cond (is_inverse task) (K - suc t) t

unfoldable pub in_order : Task → List Stage → List Stage
in_order Forward ss = ss
in_order Inverse ss = reverse ss
in_order Allowance ss = ss

-- what a stage makes of n numbers
unfoldable pub stage_by : Task → Rule → ℕ → Stage → List ℤ → List ℤ
stage_by Forward rule n stage v = forward rule n stage v
stage_by Inverse rule n stage v = undo rule n stage v
stage_by Allowance rule n stage v = allow rule n stage v

-- the element that is named where the numbers before the first stage are refused, and where those after a stage are
unfoldable pub name_first : Task → ℕ → List ℤ → ℕ
name_first Forward n v = first_read n v
name_first Inverse n v = first_read n v
name_first Allowance n v = 0

unfoldable pub name_after : Task → ℕ → Stage → List ℤ → ℕ
name_after Forward n stage v = first_read n v
name_after Inverse n stage v = first_recovered n stage v
name_after Allowance n stage v = 0

abbrev pub taken_by : Run → ℕ → Stage → List ℤ → List ℤ
taken_by r n stage v = stage_by r.task r.rule n stage v

-- all stages, over the block as the code holds it
abbrev pub run_by : Run → ℕ → List Stage → List ℤ → Ran
run_by r n ss v =
    run (inside (limit_of r.task) n) (taken_by r n) (name_after r.task n) (name_first r.task n) (in_order r.task ss) v

-- the document's run of the lent numbers
unfoldable pub ran_by : Task → Rule → ℕ → List Stage → List ℤ → Ran
ran_by Forward rule n ss x = run_forward rule n ss x
ran_by Inverse rule n ss x = run_inverse rule n ss x
ran_by Allowance rule n ss x = run_allowance rule n ss

abbrev pub ran : Run → ℕ → List Stage → List ℤ → Ran
ran r n ss x = ran_by r.task r.rule n ss x

-- the document's call
unfoldable pub call_by : Task → Rule → Plan → List ℤ → List ℤ → Reply ℤ
call_by Forward rule p x y = forward_call rule p x y
call_by Inverse rule p x y = inverse_call rule p x y
call_by Allowance rule p x y = allowance_call rule p y

abbrev pub call_of : Run → Plan → List ℤ → List ℤ → Reply ℤ
call_of r p x y = call_by r.task r.rule p x y

-- the stage in turn is one of K
pub stage-below : (task : Task) (K t : ℕ) → t < K → nth_stage task K t < K
unfolding nth_stage is_inverse
stage-below Forward K t l = l
stage-below Inverse K t l = omega arith
stage-below Allowance K t l = l

-- no more numbers are lent than the block has
pub inputs-most : (task : Task) (n : ℕ) → inputs_of task n ≤ n
unfolding inputs_of
inputs-most Forward n = omega arith
inputs-most Inverse n = omega arith
inputs-most Allowance n = omega arith
