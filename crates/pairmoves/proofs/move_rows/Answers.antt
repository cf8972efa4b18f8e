-- The first i rows are moved (`next_row`); `r` is where row i goes, and where it comes from.
use Rattle.std.proofs.Common.{◌≡◌, ℕ, ◌+◌, ◌*◌, ◌≤◌, ◌<◌, refl, arith, mul-le-mul_right}
use Rattle.factor.specs.MovedInPlace.{to_of, from_of, to-permutes, from-permutes}
use Rattle.pairmoves.specs.MovedAside.{place_at, next_row}
use Rattle.pairmoves.proofs.move_rows.Goals as goal
use Rattle.pairmoves.proofs.move_rows.Goals.{then-back, else-back}

-- a row of the block ends inside it
row-in : (n1 n2 i : ℕ) → i < n1 → i * n2 + n2 ≤ n1 * n2
row-in n1 n2 i l = let k : i + 1 ≤ n1 = omega arith in omega (arith, mul-le-mul_right n2 k)

pub move_row-requires : goal.move_row-requires
move_row-requires c =
    let r : (c.if-back.to.0 ≡ to_of c.args.back (place_at c.args.col.now c.args.p) c.loop-i.i)
    × (c.if-back.to.1 ≡ from_of c.args.back (place_at c.args.col.now c.args.p) c.loop-i.i) =
    elim c.if-back.branch [
      | then-back w ↦ rw (w.to-is, w.if-back.true) (c.count_at-place.ensures, refl)
      | else-back w ↦ rw (w.to-is, w.if-back.false) (refl, c.count_at-place.ensures)
    ] in
    let p = c.requires in
    let l = c.loop-i-test.true in
    let t = row-in c.args.n1 c.args.n2 _ ((to-permutes c.args.back p.0.permutes).below c.loop-i.i l) in
    let f = row-in c.args.n1 c.args.n2 _ ((from-permutes c.args.back p.0.permutes).below c.loop-i.i l) in
    rw (r.0, r.1) (p.1, omega arith, omega arith)

pub loop-i-preserved : goal.loop-i-preserved
loop-i-preserved c =
    let r : (c.if-back.to.0 ≡ to_of c.args.back (place_at c.args.col.now c.args.p) c.loop-i.i)
    × (c.if-back.to.1 ≡ from_of c.args.back (place_at c.args.col.now c.args.p) c.loop-i.i) =
    elim c.if-back.branch [
      | then-back w ↦ rw (w.to-is, w.if-back.true) (c.count_at-place.ensures, refl)
      | else-back w ↦ rw (w.to-is, w.if-back.false) (refl, c.count_at-place.ensures)
    ] in
    let p = c.requires in
    let m = c.loop-i.invariant.1 in
    let moved = rw (r.0, r.1) at c.move_row.ensures in
    (omega arith, next_row c.args.back p.0.permutes p.1.permutes c.loop-i-test.true p.3 m moved)
