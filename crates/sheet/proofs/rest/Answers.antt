-- No place of a reading lies past the end, so the part exists; from the place to the end it is the sheet without its first
-- numbers. A reading without fault ends where the sheet does. Assumes nothing.
use Rattle.std.specs.Borrow.{Bor}
use Rattle.std.proofs.lemmas.List.{take_rest}
use Rattle.std.proofs.Common.{subst, ◌≡◌, sym, ap, ◌∙◌, List, ℕ, ◌≤◌, ℤ, length, rules, arith}
use Rattle.laws.specs.Accepted.{reading-inside, accepted-reading, reading-accepted}
use Rattle.rules.specs.Answers.{IsTail, IsRest}
use Rattle.rules.specs.Sheets.{on, stop, reading}
use Rattle.rules.specs.Marks.{Mark}
use Rattle.sheet.proofs.rest.Goals as goal

placed : (s : List ℤ) {n p : ℕ} → stop n p ≡ reading s → p ≤ length s
placed s e = rw (ap (λ (m : Mark). m.place) e) (reading-inside s)

ended : (s : List ℤ) {i : ℕ} → on i ≡ reading s → i ≡ length s
ended s e =
    ap (λ (m : Mark). m.place) (e ∙ reading-accepted (accepted-reading s (ap (λ (m : Mark). m.number) (sym e))))

tail-at : {r s : Bor (List ℤ)} {a b : ℕ} → a ≡ b → IsTail r s a → IsTail r s b
tail-at {r} {s} e h = subst (λ (j : ℕ). IsTail r s j) e h

pub offset_bounds-col-found : goal.offset_bounds-col-found
offset_bounds-col-found c = let h = placed c.args.col.now c.in-Err.ensures in search rules

pub slice_bounds-result-count : goal.slice_bounds-result-count
slice_bounds-result-count c = placed c.args.col.now c.in-Err.ensures

pub slice_bounds-result-start : goal.slice_bounds-result-start
slice_bounds-result-start c = let h = placed c.args.col.now c.in-Err.ensures in search rules

pub offset_bounds-row-found : goal.offset_bounds-row-found
offset_bounds-row-found c = let h = placed c.args.row.now c.in-Err-read_whole.ensures in search rules

pub slice_bounds-result-count-in-Err-read_whole : goal.slice_bounds-result-count-in-Err-read_whole
slice_bounds-result-count-in-Err-read_whole c = placed c.args.row.now c.in-Err-read_whole.ensures

pub slice_bounds-result-start-in-Err-read_whole : goal.slice_bounds-result-start-in-Err-read_whole
slice_bounds-result-start-in-Err-read_whole c =
    let h = placed c.args.row.now c.in-Err-read_whole.ensures in search rules

pub offset_bounds-col-end : goal.offset_bounds-col-end
offset_bounds-col-end c = let h = ended c.args.col.now c.in-Ok.ensures in search rules

pub slice_bounds-result-count-in-Ok-read_whole : goal.slice_bounds-result-count-in-Ok-read_whole
slice_bounds-result-count-in-Ok-read_whole c = let h = ended c.args.col.now c.in-Ok.ensures in omega arith

pub slice_bounds-result-start-in-Ok-read_whole : goal.slice_bounds-result-start-in-Ok-read_whole
slice_bounds-result-start-in-Ok-read_whole c = let h = ended c.args.col.now c.in-Ok.ensures in search rules

pub returns-in-Ok-read_whole : goal.returns-in-Ok-read_whole
unfolding IsRest
returns-in-Ok-read_whole c =
    let h = ended c.args.col.now c.in-Ok.ensures in
    rw (sym c.in-Ok.ensures, sym c.in-Ok-read_whole.ensures) (tail-at h (search (rules, take_rest)))
