-- Two answers: a refusal keeps the slice; else the sheet is accepted, so `Codables`, and its bytes fit (`wrote`).
use Rattle.recipe.specs.Calls.{wrote}
use Rattle.recipe.specs.Results.{count-fine}
use Rattle.recipe.specs.Trips.{accepted-codables}
use Rattle.rules.specs.Calls.{reply, write}
use Rattle.recipe.proofs.writing.write.Goals as goal

pub encode-requires : goal.encode-requires
unfolding write reply
encode-requires c =
    let s = c.args in
    let w = wrote s.sheet.now s.out.now (count-fine c.write_answer.ensures c.in_ok-count.was) in
    (accepted-codables s.sheet.now w.sheet, w.fits)
