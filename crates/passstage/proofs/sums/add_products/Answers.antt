-- The first c sums of either row have their product, the others are as they were (`raised-next`).
use Rattle.std.proofs.Common.{◌≡◌, ℕ, ◌+◌, ◌*◌, ◌<◌, le_refl, arith, ℤ, ◌+ℤ◌, set, w32, to_z, of_z}
use Rattle.passstage.specs.Parts.{most_part, raised-next}
use Rattle.rules.proofs.Laws.Lists.{set_other}
use Rattle.rules.specs.Numbers.{at}
use Rattle.whole.specs.Diff.{Within}
use Rattle.whole.specs.Machine.{fits, reads, within-le, within-+}
use Rattle.passstage.proofs.sums.add_products.Goals as goal
use Rattle.passstage.proofs.sums.add_products.Goals.{In-loop-c}

room : (i : In-loop-c) → i.loop-c.c < 16
room i = let g = i.requires.0 in let l = i.loop-c-test.true in omega arith

-- the sums whose turn it is, and their products
sum-there : (i : In-loop-c) → let l = i.loop-c in
    to_z w32 (of_z w32 (at l.v l.c)) ≡ at i.args.v.now l.c
sum-there i =
    let l = i.loop-c in
    rw (l.invariant.1.others l.c (le_refl l.c) (room i)) (reads w32 (i.requires.2.small l.c) tt)

product-there : (i : In-loop-c) (e : ℕ) → to_z w32 (of_z w32 (at i.args.t.now e)) ≡ at i.args.t.now e
product-there i e = reads w32 (i.requires.1.small e) tt

small : (i : In-loop-c) (e : ℕ) → Within (16 * most_part) (at i.args.v.now e +ℤ at i.args.t.now e)
small i e = within-le (omega arith) (within-+ (i.requires.2.small e) (i.requires.1.small e))

rest-there : (i : In-loop-c) (z : ℤ) → let l = i.loop-c in
    to_z w32 (of_z w32 (at (set l.v l.c z) (16 + l.c))) ≡ at i.args.v.now (16 + l.c)
rest-there i z =
    let l = i.loop-c in
    rw (set_other l.v l.c (16 + l.c) z (λ e. omega arith), l.invariant.1.beyond l.c (le_refl l.c))
    (reads w32 (i.requires.2.small (16 + l.c)) tt)

pub overflow_add-v-in-loop-c-3 : goal.overflow_add-v-in-loop-c-3
overflow_add-v-in-loop-c-3 c =
    rw (rest-there (goal.at.overflow_add-v-in-loop-c-3 c).In-loop-c _, product-there (goal.at.overflow_add-v-in-loop-c-3 c).In-loop-c (16 + c.loop-c.c)) (fits (small (goal.at.overflow_add-v-in-loop-c-3 c).In-loop-c (16 + c.loop-c.c)) tt)

pub loop-c-preserved : goal.loop-c-preserved
loop-c-preserved c =
    let l = c.loop-c in (
      omega arith,
      raised-next l.c (room (goal.at.loop-c-preserved c).In-loop-c) l.invariant.1
          (rw (sum-there (goal.at.loop-c-preserved c).In-loop-c, product-there (goal.at.loop-c-preserved c).In-loop-c l.c) (reads w32 (small (goal.at.loop-c-preserved c).In-loop-c l.c) tt))
          (rw (rest-there (goal.at.loop-c-preserved c).In-loop-c _, product-there (goal.at.loop-c-preserved c).In-loop-c (16 + l.c)) (reads w32 (small (goal.at.loop-c-preserved c).In-loop-c (16 + l.c)) tt)),
    )
