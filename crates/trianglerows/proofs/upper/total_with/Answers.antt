-- One run of entries is all of them (`upper-entries`).
use Rattle.std.proofs.Common.{◌≡◌, sym, ◌∙◌, suc, ◌+◌, ◌-◌, ◌*◌, add-zero, arith, ℤ, pos, ◌+ℤ◌, ◌*ℤ◌, to_z-of_z, w32, w64, to_z, of_z}
use Rattle.factor.specs.Layouts.{row_of}
use Rattle.joint.specs.Elements.{sign_at, diagonal_of, band-at}
use Rattle.joint.specs.Sums.{Wide, entries_sum, right-wide}
use Rattle.joint.specs.Triangles.{upper-left, upper-right, upper-entries}
use Rattle.rules.specs.Numbers.{unit, at}
use Rattle.trianglerows.specs.TrianglesUndone.{most_own}
use Rattle.whole.specs.Diff.{lia, Within}
use Rattle.whole.specs.Machine.{reads, back, within-le, within-*, within-pos, sign-within}
use Rattle.whole.specs.Stated.{sum}
use Rattle.trianglerows.proofs.upper.total_with.Goals as goal
use Rattle.trianglerows.proofs.upper.total_with.Goals.{After-sign_at, After-with_diagonal-own, Start}

-- the entries of the row, and the sums that they meet
run : (s : Start) → Wide s.args.row.now s.args.p s.args.v.now (s.args.j + 1) s.args.m
run s =
    let f = s.args.f in
    let j = s.args.j in
    let w = right-wide (band-at s.requires.0.0 j s.requires.0.1) s.requires.0.2 in
    rw (← s.requires.2, upper-right f j s.requires.1, many s) at (rw (upper-left f j s.requires.1, add-zero) at w)
  where
    many : (s : Start) → s.args.f.order - suc s.args.j ≡ s.args.m
    many s = let e = s.requires.3 in omega arith

sign : (c : After-sign_at) →
    to_z w32 (of_z w32 c.sign_at.result) ≡ sign_at c.args.row.now c.args.f c.args.j
sign c = back w32 _ c.sign_at.type_inv ∙ c.sign_at.ensures

-- the own term
abbrev O : Start → ℤ
O s = diagonal_of (sign_at s.args.row.now s.args.f s.args.j) *ℤ at s.args.v.now s.args.j

own_is : (c : After-with_diagonal-own) → to_z w64 (of_z w64 c.with_diagonal-own.result) ≡ O c.before.before.before
own_is c =
    back w64 _ c.with_diagonal-own.type_inv ∙ c.with_diagonal-own.ensures
    ∙ rw (sign c.before.before, reads w64 (c.requires.0.2.small c.args.j) tt) (none _)
  where
    none : (z : ℤ) → pos 0 +ℤ z ≡ z
    none z = simp lia (omega arith)

own-small : (s : Start) → Within most_own (O s)
own-small s =
    within-* {A = unit}
    (within-le {A = unit * 1} (omega arith)
    (within-* (within-pos unit) (sign-within (s.requires.0.0.sign s.args.j s.requires.0.1))))
    (s.requires.0.2.small s.args.j)

pub sum_starting-requires : goal.sum_starting-requires
sum_starting-requires c =
    let g = goal.at.sum_starting-requires c in (
      run g.Start,
      rw (own_is g.After-with_diagonal-own) (own-small g.Start),
      rw (to_z-of_z c.ranges.last) c.requires.4,
    )

many : (s : Start) → s.args.f.order - suc s.args.j ≡ s.args.m
many s = let e = s.requires.3 in omega arith

entries : (s : Start) →
    sum s.args.m (λ t. at s.args.row.now (s.args.p + t) *ℤ at s.args.v.now (s.args.j + 1 + t))
    ≡ entries_sum s.args.row.now (row_of s.args.f s.args.j) s.args.j (at s.args.v.now)
entries s = upper-entries s.args.f s.args.j s.requires.1 s.requires.2 (sym (many s)) s.args.row.now s.args.v.now

either_way : (o a : ℤ) → o +ℤ a ≡ a +ℤ o
either_way o a = simp lia (omega arith)

pub returns : goal.returns
returns c =
    let g = goal.at.returns c in
    back w64 _ c.sum_starting.type_inv ∙ c.sum_starting.ensures
    ∙ rw (own_is g.After-with_diagonal-own, entries g.Start) (either_way (O g.Start) _)
