-- The loop: `Decoded`, that k numbers are in the front of the slice, and that the rest of the numbers starts at place i.
-- A turn is `decode-on`.
use Rattle.std.proofs.Common.{ap, ◌+◌, arith, set, w32, FitsSigned, to_z-of_z, rules}
use Rattle.recipebytes.specs.Reading.{decode-on, there, inside-by}
use Rattle.recipebytes.specs.Spelled.{spelled-some}
use Rattle.rules.specs.Marks.{Spelt}
use Rattle.rules.specs.Recipes.{value}
use Rattle.recipebytes.proofs.stream.decode.Goals as goal

pub unwrap-r-requires : goal.unwrap-r-requires
unwrap-r-requires c = spelled-some c.read_number.result c.read_number.ensures (there (omega arith) c.loop-k.invariant)

pub overflow_add-i : goal.overflow_add-i
overflow_add-i c =
    let e = rw c.unwrap-r.ensures at c.read_number.ensures in
    let h = inside-by c.args.bytes.now c.loop-k.i e c.loop-k.invariant.inside in
    omega arith

pub loop-k-preserved : goal.loop-k-preserved
loop-k-preserved c =
    let l = c.loop-k in
    let e = rw c.unwrap-r.ensures at c.read_number.ensures in
    let f : FitsSigned w32 c.value_of.result = search rules in
    decode-on (omega arith) l.invariant (omega arith) (ap (λ (s : Spelt). l.i + s.size) e)
    (rw (to_z-of_z f, c.value_of.ensures) (ap (λ (s : Spelt). set l.out l.k (value s.code)) e))
