-- One run of entries is all of them (`upper-entries`).
use Rattle.std.proofs.Common.{◌≡◌, ◌∙◌, ◌+◌, ◌-◌, suc, le_refl, add-zero, arith, w32, w64, to_z, of_z}
use Rattle.factor.specs.Layouts.{row_of}
use Rattle.joint.specs.Elements.{sign_at, most_joint, band-at}
use Rattle.joint.specs.Sums.{Wide, entries_sum, right-wide, wide-small}
use Rattle.joint.specs.Triangles.{upper-left, upper-right, upper-entries}
use Rattle.rules.specs.Numbers.{at}
use Rattle.whole.specs.Diff.{Within}
use Rattle.whole.specs.Machine.{reads, back, within-le}
use Rattle.trianglerows.proofs.upper.UpperTriangle.total.Goals as goal
use Rattle.trianglerows.proofs.upper.UpperTriangle.total.Goals.{After-sign_at, After-wide_sum, Start}

-- the entries of the row, and the sums that they meet
run :
    (s : Start) → Wide s.args.row.now s.args.p s.args.v.now (s.args.j + 1) (s.args.f.order - suc s.args.j)
run s =
    let f = s.args.f in
    let j = s.args.j in
    let w = right-wide (band-at s.requires.0.0 j s.requires.0.1) s.requires.0.2 in
    rw (← s.requires.3, upper-right f j s.requires.1) at (rw (upper-left f j s.requires.1, add-zero) at w)

-- the code counts them in two steps
many : (s : Start) → s.args.n - 1 - s.args.j ≡ s.args.f.order - suc s.args.j
many s = let e = s.requires.2 in omega arith

pub wide_sum-requires : goal.wide_sum-requires
wide_sum-requires c = rw (many (goal.at.wide_sum-requires c).Start) (run (goal.at.wide_sum-requires c).Start)

sign : (c : After-sign_at) →
    to_z w32 (of_z w32 c.sign_at.result) ≡ sign_at c.args.row.now c.args.f
    c.args.j
sign c = back w32 _ c.sign_at.type_inv ∙ c.sign_at.ensures

-- the entries' part
entries : (c : After-wide_sum) →
    to_z w64 (of_z w64 c.wide_sum.result) ≡ entries_sum c.args.row.now (row_of c.args.f c.args.j)
    c.args.j (at c.args.v.now)
entries c =
    back w64 _ c.wide_sum.type_inv ∙ c.wide_sum.ensures
    ∙ upper-entries c.args.f c.args.j c.requires.1 c.requires.3 (many c.before) c.args.row.now c.args.v.now

small : (c : After-wide_sum) → Within most_joint (to_z w64 (of_z w64 c.wide_sum.result))
small c =
    rw (back w64 _ c.wide_sum.type_inv, c.wide_sum.ensures, many c.before)
    (within-le (omega arith) (wide-small (run c.before) _ (le_refl _)))

pub with_diagonal-requires : goal.with_diagonal-requires
with_diagonal-requires c =
    let g = goal.at.with_diagonal-requires c in
    let v = c.requires.0.2.small c.args.j in
    rw (sign g.After-sign_at, reads w64 v tt) (small g.After-wide_sum, c.requires.0.0.sign c.args.j c.requires.0.1, v)

pub returns : goal.returns
returns c =
    let g = goal.at.returns c in
    back w64 _ c.with_diagonal.type_inv ∙ c.with_diagonal.ensures
    ∙ rw (sign g.After-sign_at, entries g.After-wide_sum, reads w64 (c.requires.0.2.small c.args.j) tt)
