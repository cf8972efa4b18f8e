-- The first l numbers are made, and it is known whether they are all in bound (`Judged`).
use Rattle.std.proofs.Common.{◌≡◌, ◌∙◌, ℕ, ◌+◌, arith, ℤ, to_z-of_z, w32, w64, to_z, of_z}
use Rattle.factor.specs.Rounding.{rule_by}
use Rattle.passstage.specs.LaneSteps.{made_by}
use Rattle.passstage.specs.Parts.{joined}
use Rattle.passstage.specs.RowLaws.{row-ahead, row_next, judged-next, row-judged}
use Rattle.rules.specs.Numbers.{unit, at}
use Rattle.rules.specs.Stages.{R}
use Rattle.whole.specs.Machine.{back, reads}
use Rattle.passstage.proofs.numbers.make_numbers.Goals as goal
use Rattle.passstage.proofs.numbers.make_numbers.Goals.{After-made-z, After-rounded, In-loop-l, Start}

-- the numbers that are made
abbrev Z : Start → ℕ → ℤ
Z s l =
    made_by s.args.back s.args.d (at s.args.x.now (s.args.k + l))
    (R (rule_by s.args.down s.args.even) unit (joined s.args.v.now l))

-- the number, which is not made yet
number : (c : In-loop-l) → let l = c.loop-l in
    to_z w32 (of_z w32 (at l.x (c.args.k + l.l))) ≡ at c.args.x.now (c.args.k + l.l)
number c =
    let l = c.loop-l in
    rw (row-ahead c.args.k l.l _ c.args.x.now l.invariant.1)
    (reads w32 (c.requires.0.small.small (c.args.k + l.l)) tt)

-- a sum of parts
part : (c : In-loop-l) (e : ℕ) → to_z w32 (of_z w32 (at c.args.v.now e)) ≡ at c.args.v.now e
part c e = reads w32 (c.requires.1.small e) tt

abbrev turn : After-rounded → In-loop-l
turn c = c.before.before.before.before

rounded : (c : After-rounded) →
    to_z w32 (of_z w32 c.rounded.result) ≡ R (rule_by c.args.down c.args.even) unit
    (joined c.args.v.now c.loop-l.l)
rounded c =
    let l = c.loop-l.l in
    back w32 _ c.rounded.type_inv ∙ c.rounded.ensures.0 ∙ rw (part (turn c) l, part (turn c) (16 + l))

pub made-z-requires : goal.made-z-requires
made-z-requires c =
    let i = (goal.at.made-z-requires c).In-loop-l in
    rw (back w32 c.rounded.result c.rounded.type_inv, number i, to_z-of_z c.ranges.d) (
      c.requires.0.sign,
      c.requires.0.small.small (c.args.k + c.loop-l.l),
      c.rounded.ensures.1,
    )

value : (c : After-made-z) →
    to_z w32 (of_z w32 c.made-z.result) ≡ Z (turn c.before).before.before c.loop-l.l
value c =
    back w32 _ c.made-z.type_inv ∙ c.made-z.ensures ∙ rw (rounded c.before, number (turn c.before), to_z-of_z c.ranges.d)

pub loop-l-preserved : goal.loop-l-preserved
loop-l-preserved c =
    let l = c.loop-l in
    let v = value (goal.at.loop-l-preserved c).After-made-z in
    let told = rw (back w64 _ c.wide.type_inv, c.wide.ensures, v) at c.is_within-fine.ensures in (
      omega arith,
      rw (v, to_z-of_z c.ranges.d)
          (row_next c.args.k l.l (Z (goal.at.loop-l-preserved c).Start) c.args.x.now (rw (to_z-of_z c.ranges.d) at l.invariant.1)),
      rw (to_z-of_z c.ranges.d) (judged-next l.l (rw (to_z-of_z c.ranges.d) at l.invariant.2) told),
    )

pub returns-then-fine : goal.returns-then-fine
returns-then-fine c =
    let l = c.loop-l in
    let e : l.l ≡ c.args.w = omega arith in
    rw c.if-fine.true at
    (row-judged c.requires.0.long c.requires.0.small (rw (e, to_z-of_z c.ranges.d) at l.invariant.1)
    (rw (e, to_z-of_z c.ranges.d) at l.invariant.2))

pub returns-else-fine : goal.returns-else-fine
returns-else-fine c =
    let l = c.loop-l in
    let e : l.l ≡ c.args.w = omega arith in
    rw c.if-fine.false at
    (row-judged c.requires.0.long c.requires.0.small (rw (e, to_z-of_z c.ranges.d) at l.invariant.1)
    (rw (e, to_z-of_z c.ranges.d) at l.invariant.2))
