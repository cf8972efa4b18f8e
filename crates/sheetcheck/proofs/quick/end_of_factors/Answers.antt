-- Invariant: the first f factors have no fault and their starts are in the table, and i is the next (`FactorsMet`).
-- Assumes nothing.
use Rattle.std.proofs.Common.{◌≡◌, ◌∙◌, ◌<◌, arith, length-set}
use Rattle.laws.specs.Accepted.{order-ranged, count-ranged}
use Rattle.rules.specs.Numbers.{count}
use Rattle.sheetread.specs.Starts.{none-met, one_more, place-low}
use Rattle.sheetcheck.proofs.quick.end_of_factors.Goals as goal
use Rattle.sheetcheck.proofs.quick.end_of_factors.Goals.{In-loop-f}

pub count_at-n-requires : goal.count_at-n-requires
count_at-n-requires c = let h = c.requires.0.order in (h.there, (order-ranged h).natural)

pub count_at-many-requires : goal.count_at-many-requires
count_at-many-requires c = let h = c.requires.0.count in (h.there, (count-ranged h).natural)

pub loop-f-init : goal.loop-f-init
loop-f-init c = record {
  order = c.count_at-n.ensures;
  many = c.count_at-many.ensures;
  room = c.requires.1;
  met = none-met;
}

-- the table has room
few : (c : In-loop-f) → c.loop-f.f < 32
few c =
    let m = (count-ranged c.requires.0.count).most in omega (arith, c.loop-f.invariant.many)

pub overflow_cast-starts : goal.overflow_cast-starts
overflow_cast-starts c =
    let l = place-low c.requires.0 c.loop-f.invariant.met (few (goal.at.overflow_cast-starts c).In-loop-f) in omega arith

pub offset_bounds-starts-f : goal.offset_bounds-starts-f
offset_bounds-starts-f c = let l = few (goal.at.offset_bounds-starts-f c).In-loop-f in omega arith

pub bounds-starts-f : goal.bounds-starts-f
bounds-starts-f c = few (goal.at.bounds-starts-f c).In-loop-f

pub end_of_factor-requires : goal.end_of_factor-requires
end_of_factor-requires c =
    let o = order-ranged c.requires.0.order in
    rw c.loop-f.invariant.order (o.least, o.most)

pub returns-in_err-i : goal.returns-in_err-i
returns-in_err-i c =
    rw c.from_residual.ensures (length-set c.loop-f.starts c.loop-f.f _ ∙ c.loop-f.invariant.room, tt)

pub loop-f-preserved : goal.loop-f-preserved
loop-f-preserved c =
    let l = c.loop-f in
    let p = rw l.invariant.order at c.in_ok-i.ensures.next in
    record {
      order = l.invariant.order;
      many = l.invariant.many;
      room = length-set l.starts l.f l.i ∙ l.invariant.room;
      met = one_more l.f (rw l.invariant.room (few (goal.at.loop-f-preserved c).In-loop-f)) l.invariant.met p;
    }

pub returns : goal.returns
returns c =
    let l = c.loop-f in
    let e : l.f ≡ count c.args.sheet.now 1 = omega (arith, l.invariant.many) in
    (l.invariant.room, rw e at l.invariant.met)
