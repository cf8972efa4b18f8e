-- Below zero `Below` has the code by how far below -1 the number is; else `Above` has it twice the number.
use Rattle.std.proofs.Common.{sym, to_z-of_z}
use Rattle.recipebytes.specs.Codes.{below-zero, above_zero}
use Rattle.recipebytes.proofs.number.code_of.Goals as goal

pub returns-then-v-lt0 : goal.returns-then-v-lt0
returns-then-v-lt0 c =
    let f = to_z-of_z c.ranges.v in
    rw (c.unsigned_abs.ensures.value, f) (sym (below-zero c.args.v (rw f at c.if-v-lt0.true)).code_is)

pub returns-else-v-lt0 : goal.returns-else-v-lt0
returns-else-v-lt0 c =
    let f = to_z-of_z c.ranges.v in
    rw (c.unsigned_abs-else-v-lt0.ensures.value, f) (sym (above_zero c.args.v (rw f at c.if-v-lt0.false)).code_is)
