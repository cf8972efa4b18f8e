use Rattle.std.proofs.Common.{◌≡◌, sym, ap, ◌∙◌, suc, ◌-◌, arith, w64}
use Rattle.rules.specs.Numbers.{at}
use Rattle.trianglerows.specs.TrianglesUndone.{recent-none, recent-some}
use Rattle.whole.specs.Machine.{reads}
use Rattle.trianglerows.proofs.upper.right_of.Goals as goal

pub returns-then-t-eq0 : goal.returns-then-t-eq0
returns-then-t-eq0 c = sym (recent-none _ _ c.if-t-eq0.true)

pub returns : goal.returns
returns c =
    let n = c.if-t-eq0.false in
    let e : c.args.n - c.args.t ≡ c.args.n - suc (c.args.t - 1) = omega arith in
    reads w64 (c.requires.2.small _) tt ∙ ap (at c.args.v.now) e ∙ sym (recent-some _ _ c.args.t n)
