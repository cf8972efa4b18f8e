-- The loop: `Encoded`, that the first numbers are written, up to place i. A turn is `encode-on`.
use Rattle.std.proofs.Common.{◌≡◌, arith, rules, w32, FitsSigned, to_z-of_z}
use Rattle.rules.specs.Numbers.{at}
use Rattle.rules.specs.Recipes.{code}
use Rattle.recipebytes.specs.Writing.{encode-none, encode-code, encode-fits, encode-on}
use Rattle.recipebytes.proofs.stream.encode.Goals as goal
use Rattle.recipebytes.proofs.stream.encode.Goals.{After-code_of}

read : (c : After-code_of) → c.code_of.result ≡ code (at c.args.sheet.now c.loop-v.v-index)
read c =
    let f : FitsSigned w32 (at c.args.sheet.now c.loop-v.v-index) = search rules in
    rw (to_z-of_z f) at c.code_of.ensures

pub loop-v-init : goal.loop-v-init
loop-v-init c = encode-none _ _

pub write_code-i-requires : goal.write_code-i-requires
write_code-i-requires c =
    let l = c.loop-v in
    let e = read (goal.at.write_code-i-requires c).After-code_of in
    (encode-code c.requires.0 l.v-index e, encode-fits c.requires.1 l.invariant (omega arith) e)

pub loop-v-preserved : goal.loop-v-preserved
loop-v-preserved c =
    let l = c.loop-v in
    let e = c.write_code-i.ensures in
    encode-on c.requires.1 l.invariant (omega arith) (read (goal.at.loop-v-preserved c).After-code_of) e.0 e.1
