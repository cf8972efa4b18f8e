-- The products of the first c lines are made, all others are still 0 (`raised-next`).
use Rattle.std.proofs.Common.{◌≡◌, sym, ◌∙◌, ◌+◌, ◌<◌, arith, ℤ, to_z-of_z, w32, to_z, of_z}
use lib.IntN.{+ℤ_idl}
use Rattle.joint.specs.Sums.{zero-at}
use Rattle.passstage.specs.Parts.{whole, rest, whole-small, rest-small, raised-next}
use Rattle.rules.specs.Numbers.{bound, at}
use Rattle.whole.specs.Diff.{Within}
use Rattle.whole.specs.Machine.{fits, reads, back, within-*}
use Rattle.passstage.proofs.sums.products.Goals as goal
use Rattle.passstage.proofs.sums.products.Goals.{After-rest_part, After-whole_part, In-loop-c, Start}

room : (i : In-loop-c) →
    (i.args.k + i.loop-c.c < 256) × (i.loop-c.c < 16)
room i =
    let g = i.requires.0 in
    let h = i.requires.1 in
    let l = i.loop-c-test.true in (omega arith, omega arith)

-- the number whose turn it is
abbrev Z : In-loop-c → ℤ
Z i = at i.args.x.now (i.args.k + i.loop-c.c)

number : (i : In-loop-c) → Within bound (Z i)
number i = i.requires.3.small (i.args.k + i.loop-c.c)

-- the products
entry : (s : Start) → to_z w32 (of_z w32 s.args.a) ≡ s.args.a
entry s = to_z-of_z s.ranges.a

whole-there : (c : After-whole_part) → to_z w32 (of_z w32 c.whole_part.result) ≡ whole (at c.args.x.now (c.args.k + c.loop-c.c))
whole-there c =
    back w32 _ c.whole_part.type_inv ∙ c.whole_part.ensures
    ∙ rw (reads w32 (c.requires.3.small (c.args.k + c.loop-c.c)) tt)

pub overflow_mul-t : goal.overflow_mul-t
overflow_mul-t c =
    let i = (goal.at.overflow_mul-t c).In-loop-c in
    rw (entry (goal.at.overflow_mul-t c).Start, whole-there (goal.at.overflow_mul-t c).After-whole_part)
    (fits (within-* c.requires.2 (whole-small (Z i) (number i))) tt)

rest-there : (c : After-rest_part) → to_z w32 (of_z w32 c.rest_part.result) ≡ rest (at c.args.x.now (c.args.k + c.loop-c.c))
rest-there c =
    back w32 _ c.rest_part.type_inv ∙ c.rest_part.ensures
    ∙ rw (reads w32 (c.requires.3.small (c.args.k + c.loop-c.c)) tt)

pub overflow_mul-t-in-loop-c : goal.overflow_mul-t-in-loop-c
overflow_mul-t-in-loop-c c =
    rw (entry (goal.at.overflow_mul-t-in-loop-c c).Start, rest-there (goal.at.overflow_mul-t-in-loop-c c).After-rest_part)
    (fits (within-* c.requires.2 (rest-small (Z (goal.at.overflow_mul-t-in-loop-c c).In-loop-c))) tt)

pub loop-c-preserved : goal.loop-c-preserved
loop-c-preserved c =
    let l = c.loop-c in
    let a = c.requires.2 in
    let i = (goal.at.loop-c-preserved c).In-loop-c in
    let e = entry (goal.at.loop-c-preserved c).Start in (
      omega arith,
      raised-next l.c (room i).1 l.invariant.1
          (rw (
            e,
            whole-there (goal.at.loop-c-preserved c).After-whole_part,
            reads w32 (within-* a (whole-small (Z i) (number i))) tt,
            c.requires.4,
            zero-at 32 l.c,
          ) (sym (+ℤ_idl _)))
          (rw (
            e,
            rest-there (goal.at.loop-c-preserved c).After-rest_part,
            reads w32 (within-* a (rest-small (Z i))) tt,
            c.requires.4,
            zero-at 32 (16 + l.c),
          ) (sym (+ℤ_idl _))),
    )
