use Rattle.std.proofs.Common.{sym, ◌∙◌, w64}
use Rattle.trianglerows.specs.TrianglesUndone.{recent-none, recent-some}
use Rattle.whole.specs.Machine.{reads}
use Rattle.trianglerows.proofs.lower.left_of.Goals as goal

pub returns-then-j-eq0 : goal.returns-then-j-eq0
returns-then-j-eq0 c = sym (recent-none _ _ c.if-j-eq0.true)

pub returns : goal.returns
returns c =
    reads w64 (c.requires.1.small _) tt ∙ sym (recent-some _ _ c.args.j c.if-j-eq0.false)
