-- Writing the bytes of a code: one, two or three stores, which are the groups that `spell-1`, `spell-2`, `spell-3` name.
use Rattle.std.proofs.Common.{◌≡◌, refl, suc, ◌+◌, add-one, arith, length-set}
use Rattle.recipebytes.specs.Spelling.{spell-1, spell-2, spell-3, spell-least}
use Rattle.recipebytes.proofs.number.write_code.Goals as goal

pub bounds-out-i : goal.bounds-out-i
bounds-out-i c = let e = rw (spell-1 _ c.if-u-lt-GROUP.true) at c.requires.1 in omega arith

pub returns-then-u-lt-GROUP : goal.returns-then-u-lt-GROUP
returns-then-u-lt-GROUP c = rw (spell-1 _ c.if-u-lt-GROUP.true) (refl, refl)

pub bounds-out-i-2 : goal.bounds-out-i-2
bounds-out-i-2 c = let e = spell-least c.args.u in let h = c.requires.1 in omega arith

pub bounds-out-i-then-w-lt-GROUP : goal.bounds-out-i-then-w-lt-GROUP
bounds-out-i-then-w-lt-GROUP c =
    let e = rw (spell-2 _ c.if-u-lt-GROUP.false c.if-w-lt-GROUP.true) at c.requires.1 in
    rw length-set (omega arith)

pub returns-then-w-lt-GROUP : goal.returns-then-w-lt-GROUP
returns-then-w-lt-GROUP c = rw (spell-2 _ c.if-u-lt-GROUP.false c.if-w-lt-GROUP.true) (refl, rw add-one)

pub bounds-out-i-3 : goal.bounds-out-i-3
bounds-out-i-3 c =
    let e = rw (spell-3 _ c.if-u-lt-GROUP.false c.if-w-lt-GROUP.false) at c.requires.1 in
    rw length-set (omega arith)

pub bounds-out-i-4 : goal.bounds-out-i-4
bounds-out-i-4 c =
    let e = rw (spell-3 _ c.if-u-lt-GROUP.false c.if-w-lt-GROUP.false) at c.requires.1 in
    rw (length-set, length-set) (omega arith)

pub returns : goal.returns
returns c =
    let i = c.args.i in
    let p : i + 1 ≡ suc i = omega arith in
    let q : i + 2 ≡ suc (suc i) = omega arith in
    rw (spell-3 _ c.if-u-lt-GROUP.false c.if-w-lt-GROUP.false) (refl, rw (p, q))
