-- The tests in turn, then the run of the block (`ran-is`).
use Rattle.std.proofs.Common.{List, ◌≢◌, ◌≡◌, sym, ◌∙◌, ℤ}
use Rattle.std.proofs.lemmas.Option.{IfSome_then}
use Rattle.factor.specs.declared.run.Task.TheVariants.{Allowance}
use Rattle.factor.specs.Tasks.{ran, run_by}
use Rattle.linerun.specs.Fours.{inputs_are, inside-bounded, ran-is}
use Rattle.linerun.specs.Runs.{line_stages_of}
use Rattle.rules.specs.Numbers.{bound, count}
use Rattle.rules.specs.Stages.{done}
use Rattle.linerun.proofs.fours.run_four.Goals as goal
use Rattle.linerun.proofs.fours.run_four.Goals.{Else-not-is_four}

-- four numbers, and no allowances
four : (c : Else-not-is_four) → (count c.args.sheet.now.numbers.now 0 ≡ 4) × (c.args.run.task ≢ Allowance)
four c = let h = c.is_four.ensures c.if-not-is_four.false in (sym c.order.ensures ∙ h.0, h.1)

pub load_four-v-requires : goal.load_four-v-requires
load_four-v-requires c =
    let f = four (goal.at.load_four-v-requires c).Else-not-is_four in
    c.requires ∙ inputs_are c.args.run.task (count c.args.sheet.now.numbers.now 0) f.1 ∙ f.0

pub run_stages_of_four-requires : goal.run_stages_of_four-requires
run_stages_of_four-requires c =
    let f = four (goal.at.run_stages_of_four-requires c).Else-not-is_four in (
      f.0,
      f.1,
      sym c.is_even.ensures ∙ c.if-is_even.false,
      inside-bounded bound _ (sym c.is_inside.ensures ∙ c.if-not-is_inside.false),
    )

pub returns : goal.returns
returns c =
    let f = four (goal.at.returns c).Else-not-is_four in
    let r = c.args.run in
    let n = count c.args.sheet.now.numbers.now 0 in
    let ss = line_stages_of c.args.sheet.now.numbers.now in
    let both : (v : List ℤ) → run_by r n ss c.load_four-v.result ≡ done v → (n ≡ 4) × (ran r n ss c.args.x.now ≡ done v) =
    λ v e. (f.0, ran-is r.task r.rule n ss c.args.x.now f.1 ∙ (rw c.load_four-v.ensures at e)) in
    IfSome_then _ c.run_stages_of_four.ensures both
