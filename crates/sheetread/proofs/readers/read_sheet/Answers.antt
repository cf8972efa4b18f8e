-- The head; if it has no fault the factors; then the end. Assumes nothing.
use Rattle.std.proofs.Common.{◌≡◌, refl, sym, ap, ◌∙◌, List, ℤ, ℕ}
use Rattle.laws.specs.Accepted.{Headed, headed, head-next, up_to_end}
use Rattle.laws.specs.Readers.{stops, then-on}
use Rattle.laws.specs.Results.{some-fault, passed, on-any, read-stops, read-goes}
use Rattle.rules.specs.Numbers.{count}
use Rattle.rules.specs.Results.{marked}
use Rattle.rules.specs.Sheets.{on, ◌then◌, times, factor, head, reading}
use Rattle.rules.specs.Marks.{Mark}
use Rattle.sheetread.proofs.readers.read_sheet.Goals as goal
use Rattle.sheetread.proofs.readers.read_sheet.Goals.{After-read_factors}

headed-by : {s : List ℤ} {i : ℕ} → on i ≡ head s → Headed s
headed-by {s} e = headed s (ap (λ (m : Mark). m.number) (sym e))

pub returns-in_err-read_head : goal.returns-in_err-read_head
unfolding reading
returns-in_err-read_head c =
    let h = stops _ c.in_err-read_head.ensures (λ z. some-fault _ z) in
    rw (passed c.from_residual.ensures.1) (stops _ h (λ z. some-fault _ z), tt)

pub read_factors-requires : goal.read_factors-requires
read_factors-requires c = (headed-by c.in_ok-read_head.ensures, c.requires)

-- the head ends at place 2, where the factors begin
read :
    (c : After-read_factors) → marked c.read_factors.result ≡ up_to_end c.args.sheet.now
read c =
    let s = c.args.sheet.now in
    let k = times (count s 1) (factor s (count s 0)) in
    let e = head-next (headed-by c.in_ok-read_head.ensures) in
    c.read_factors.ensures.0 ∙ sym (ap (λ (m : Mark). m then k) e ∙ then-on (on 2) k refl)

pub returns-in_err-end : goal.returns-in_err-end
unfolding reading
returns-in_err-end c =
    rw (passed c.from_residual-in_err-end.ensures.1)
    (read-stops (read (goal.at.returns-in_err-end c).After-read_factors) _ c.in_err-end.was, tt)

pub returns : goal.returns
unfolding reading
returns c = (
  read-goes (read (goal.at.returns c).After-read_factors) _ c.in_ok-end.was c.read_end.ensures,
  on-any c.read_end.result c.in_ok-end.ensures.1,
)
