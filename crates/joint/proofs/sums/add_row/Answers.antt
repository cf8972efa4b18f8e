-- The first c sums have their number more, the others are as they were.
use Rattle.std.proofs.Common.{List, ◌≡◌, ap, ◌∙◌, ◌+◌, le_refl, add-one, arith, ℤ, to_z-of_z, w32, w64, to_z, of_z}
use Rattle.rules.proofs.Laws.Lists.{fill-past}
use Rattle.rules.specs.Numbers.{at}
use Rattle.rules.specs.Stages.{fill}
use Rattle.whole.specs.Machine.{fits, reads, back, within-+, within-*}
use Rattle.joint.proofs.sums.add_row.Goals as goal
use Rattle.joint.proofs.sums.add_row.Goals.{In-loop-c}

-- the sum whose turn it is
still : (i : In-loop-c) →
    to_z w64 (of_z w64 (at i.loop-c.v i.loop-c.c)) ≡ at i.args.v.now i.loop-c.c
still i =
    let l = i.loop-c in
    let e : at l.v l.c ≡ at i.args.v.now l.c = ap (λ (w : List ℤ). at w l.c) l.invariant.1
    ∙ fill-past l.c _ i.args.v.now l.c (le_refl l.c) in
    rw e (reads w64 (i.requires.4.small l.c) tt)

pub with_term-requires : goal.with_term-requires
with_term-requires c =
    let j = c.loop-c.c in
    let a = c.requires.2 in
    let x = c.requires.3.small (c.args.k + j) in
    rw (still (goal.at.with_term-requires c).In-loop-c, to_z-of_z c.ranges.a, reads w32 x tt)
    (fits a tt, fits x tt, fits (within-* a x) tt, fits (within-+ (c.requires.4.small j) (within-* a x)) tt)

pub loop-c-preserved : goal.loop-c-preserved
unfolding fill
loop-c-preserved c =
    let l = c.loop-c in (
      omega arith,
      rw (
        add-one,
        back w64 _ c.with_term.type_inv,
        c.with_term.ensures,
        still (goal.at.loop-c-preserved c).In-loop-c,
        reads w32
            (c.requires.3.small (c.args.k + l.c)) tt,
        l.invariant.1,
      ),
    )
