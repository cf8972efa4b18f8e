-- A line is a pass along one row (`one-row`).
use Rattle.std.proofs.Common.{◌∙◌}
use Rattle.laws.specs.Sound.{factor-sound}
use Rattle.offender.specs.OneRow.{one-row}
use Rattle.rules.specs.Factors.{factor_at}
use Rattle.offender.proofs.stage.line_element.Goals as goal

pub returns : goal.returns
returns c =
    let a = c.args in
    c.pass_element.ensures
    ∙ one-row a.n (factor_at a.sheet.now a.n a.i) (factor-sound c.requires.2) a.run.task a.run.rule c.requires.3
