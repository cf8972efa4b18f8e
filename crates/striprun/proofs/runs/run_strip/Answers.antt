-- 10 of the lengths (`lengths-refuse`), or all blocks (`strip-goes`).
use Rattle.std.proofs.Common.{◌≡◌, refl, sym, ap}
use Rattle.factor.specs.Tasks.{call_of}
use Rattle.laws.specs.Results.{passed}
use Rattle.laws.specs.Strips.{strip-fits}
use Rattle.rules.specs.Answers.{accepted}
use Rattle.rules.specs.Strips.{strip_answer}
use Rattle.rules.specs.declared.Answer.{Answer}
use Rattle.striprun.specs.Lengths.{lengths-then, lengths-refuse, strip-goes}
use Rattle.striprun.specs.Plans.{plan_of, some-numbers}
use Rattle.striprun.proofs.runs.run_strip.Goals as goal
use Rattle.striprun.proofs.runs.run_strip.Goals.{In_ok-check_strip}

pub check_strip-requires : goal.check_strip-requires
check_strip-requires c = rw c.size-n.ensures (some-numbers c.args.sheets.now c.requires.1)

pub returns-in_err-check_strip : goal.returns-in_err-check_strip
returns-in_err-check_strip c =
    let a = c.args in
    let p = plan_of a.sheets.now in
    rw (passed c.from_residual.ensures.1)
    (lengths-refuse p a.x.now a.y.now a.bytes.now (call_of a.run p) c.in_err-check_strip.field-0.0 c.requires.1
    (rw c.size-n.ensures at c.in_err-check_strip.ensures))

-- no check refuses
fine : (c : In_ok-check_strip) →
    accepted ≡ strip_answer (plan_of c.args.sheets.now) c.args.x.now c.args.y.now c.args.bytes.now
fine c =
    lengths-then (plan_of c.args.sheets.now) c.args.x.now c.args.y.now c.args.bytes.now c.requires.1
    (rw c.size-n.ensures at c.in_ok-check_strip.ensures)

pub run_blocks-requires : goal.run_blocks-requires
run_blocks-requires c =
    let a = c.args in
    let z = fine (goal.at.run_blocks-requires c).In_ok-check_strip in
    let f = strip-fits (plan_of a.sheets.now) a.x.now a.y.now a.bytes.now (ap (λ (q : Answer). q.number) (sym z)) in
    (c.requires.0, c.requires.1, c.size-n.ensures, rw c.size-n.ensures f.input, rw c.size-n.ensures f.output)

pub returns : goal.returns
returns c =
    let a = c.args in
    let p = plan_of a.sheets.now in
    strip-goes p a.x.now a.y.now a.bytes.now (call_of a.run p) (fine (goal.at.returns c).In_ok-check_strip) refl
    c.run_blocks.ensures
