-- The sum so far is the sum of the first k terms; each term and each sum is small (`term-small`, `partial-small`).
use Rattle.std.proofs.Common.{◌≡◌, ◌∙◌, ◌+◌, ◌*◌, ◌<◌, add-one, arith, ◌+ℤ◌, ◌*ℤ◌, w32, w64, to_z, of_z}
use Rattle.offender.specs.RefusedBounds.{most_weight, most_sum, term-small, partial-small}
use Rattle.offender.specs.RefusedStages.{cells, weight_of}
use Rattle.rules.specs.Numbers.{bound, at}
use Rattle.rules.specs.Stages.{off}
use Rattle.whole.specs.Diff.{Within}
use Rattle.whole.specs.Machine.{fits, reads, back, within-+}
use Rattle.whole.specs.Stated.{sum}
use Rattle.offender.proofs.elements.off_sum.Goals as goal
use Rattle.offender.proofs.elements.off_sum.Goals.{After-from, In-loop-k}

-- k is an element
turn : (c : In-loop-k) → c.loop-k.k < cells c.args.q
turn c = let l = c.loop-k-test.true in omega (arith, c.loop-k.invariant.0)

-- the term, as it was read
value :
    (c : After-from) →
    to_z w64 (of_z w64 c.off_at.result) *ℤ to_z w64 (of_z w64 c.from.result)
    ≡ off (weight_of c.args.q c.args.col.now c.args.row.now) c.args.e c.loop-k.k *ℤ at c.args.x.now c.loop-k.k
value c =
    let v : to_z w64 (of_z w64 c.from.result) ≡ at c.args.x.now c.loop-k.k =
    back w64 _ c.from.type_inv ∙ c.from.ensures ∙ back w32 _ c.from-arg-1.given in
    rw (back w64 _ c.off_at.type_inv ∙ c.off_at.ensures, v)

term : (c : In-loop-k) →
    Within (most_weight * bound)
    (off (weight_of c.args.q c.args.col.now c.args.row.now) c.args.e c.loop-k.k *ℤ at c.args.x.now c.loop-k.k)
term c = term-small c.requires.0 c.args.e c.requires.1 c.loop-k.k (turn c)

-- one term more
more : (c : In-loop-k) →
    Within (most_sum + most_weight * bound)
    (sum c.loop-k.k (λ k. off (weight_of c.args.q c.args.col.now c.args.row.now) c.args.e k *ℤ at c.args.x.now k)
    +ℤ (off (weight_of c.args.q c.args.col.now c.args.row.now) c.args.e c.loop-k.k *ℤ at c.args.x.now c.loop-k.k))
more c =
    let h = turn c in
    within-+ (partial-small c.requires.0 c.args.e c.requires.1 c.loop-k.k (omega arith)) (term c)

pub overflow_mul-sum : goal.overflow_mul-sum
overflow_mul-sum c =
    rw (value (goal.at.overflow_mul-sum c).After-from) (fits (term (goal.at.overflow_mul-sum c).In-loop-k) tt)

pub overflow_add-sum : goal.overflow_add-sum
overflow_add-sum c =
    let i = (goal.at.overflow_add-sum c).In-loop-k in
    rw (value (goal.at.overflow_add-sum c).After-from, reads w64 (term i) tt, c.loop-k.invariant.1) (fits (more i) tt)

pub loop-k-preserved : goal.loop-k-preserved
unfolding sum
loop-k-preserved c =
    let i = (goal.at.loop-k-preserved c).In-loop-k in (
      c.loop-k.invariant.0,
      rw (add-one, value (goal.at.loop-k-preserved c).After-from, reads w64 (term i) tt, c.loop-k.invariant.1) (reads w64 (more i) tt),
    )
