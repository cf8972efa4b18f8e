-- A sign turns a number within its bound, and the sum is far from 64 bits.
use Rattle.std.proofs.Common.{◌≡◌, ◌∙◌, ◌*◌, arith, ℤ, pos, ◌+ℤ◌, ◌*ℤ◌, to_z-of_z, w64, to_z, of_z}
use Rattle.joint.specs.Elements.{diagonal_of}
use Rattle.joint.specs.Sums.{most_column}
use Rattle.rules.specs.Numbers.{unit}
use Rattle.whole.specs.Diff.{lia, Within}
use Rattle.whole.specs.Machine.{reads, back, within-le, within-+, within-*, within-pos, sign-within}
use Rattle.whole.specs.Stated.{Sign}
use Rattle.joint.proofs.elements.with_diagonal.Goals as goal
use Rattle.joint.proofs.elements.with_diagonal.Goals.{After-turned}

small : {d w : ℤ} → Sign d → Within most_column w → Within most_column (d *ℤ w)
small g h = within-le {A = 1 * most_column} (omega arith) (within-* (sign-within g) h)

value : (c : After-turned) → to_z w64 (of_z w64 c.turned.result) ≡ c.args.d *ℤ c.args.w
value c = back w64 _ c.turned.type_inv ∙ c.turned.ensures ∙ rw (to_z-of_z c.ranges.d, to_z-of_z c.ranges.w)

product : (c : After-turned) → Within (unit * most_column) (pos unit *ℤ (c.args.d *ℤ c.args.w))
product c = within-* (within-pos unit) (small c.requires.1 c.requires.2)

pub returns : goal.returns
returns c =
    rw (value (goal.at.returns c).After-turned, reads w64 (product (goal.at.returns c).After-turned) tt, to_z-of_z c.ranges.sum)
    (reads w64 (within-+ c.requires.0 (product (goal.at.returns c).After-turned)) tt ∙ sides c.args.sum c.args.d c.args.w)
  where
    sides : (s d w : ℤ) → s +ℤ (pos 4096 *ℤ (d *ℤ w)) ≡ s +ℤ (diagonal_of d *ℤ w)
    sides s d w = simp lia (omega arith)
