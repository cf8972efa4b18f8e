-- "FACTOR RULES IN ONE DIMENSION" and "TWO DIMENSIONS" of document 01: the stages of a line and of a rectangle.
use Rattle.std.specs.Prelude.{cond, List, [], ◌∷◌, ◌++◌, ℕ, zero, suc, ◌+◌, ◌-◌, ◌*◌, ◌/◌, ◌%◌, eqb, ℤ, pos, ◌*ℤ◌}
use Rattle.rules.specs.declared.Kind.{Kind}
use Rattle.rules.specs.declared.Kind.TheVariants.{Permutation, Lower, Upper, Single}
use Rattle.rules.specs.Numbers.{unit, unit²}
use Rattle.rules.specs.Factors.{Factor, matrix}
use Rattle.rules.specs.Stages.{those, Stage, move, weigh}

-- ---- the recovery order
-- the elements below N of turn 0, then those of turn 1, .. those of turn T - 1; of one turn in reading order
unfoldable pub by_turn : ℕ → ℕ → (ℕ → ℕ) → List ℕ
by_turn N zero turn = []
by_turn N (suc t) turn = by_turn N t turn ++ those (λ e. eqb (turn e) t) N

-- kind 2 "row by row from (0,0)", "kind 3 the reverse", kind 4 by what an element shares with the single rows
unfoldable pub turn : Kind → ℕ → ℕ → ℕ → ℕ
turn Permutation N shared e = e
turn Lower N shared e = e
turn Upper N shared e = N - suc e
turn Single N shared e = shared

-- no turn is later than N + 3
unfoldable pub order : Kind → ℕ → (ℕ → ℕ) → List ℕ
order kind N shared = by_turn N (N + 4) (λ e. turn kind N (shared e) e)

-- 1 in the single row, 0 in the others
unfoldable pub in_row : Factor → ℕ → ℕ
in_row f m = cond (eqb m f.row) 1 0

unfoldable pub stage_of : Kind → Stage → Stage → Stage
stage_of Permutation moved weighed = moved
stage_of Lower moved weighed = weighed
stage_of Upper moved weighed = weighed
stage_of Single moved weighed = weighed

-- ---- a line of n numbers: kind 4 "the others first, then r"
unfoldable pub line_stage : ℕ → Factor → Stage
line_stage n f = stage_of f.kind (move unit f.place) (weigh unit f.sign (matrix f) (order f.kind n (in_row f)))

unfoldable pub line_stages : ℕ → List Factor → List Stage
line_stages n [] = []
line_stages n (f ∷ fs) = line_stage n f ∷ line_stages n fs

-- ---- a rectangle "of n1 rows by n2 numbers, row by row": element e is in row e / n2, column e % n2
module _ (n1 n2 : ℕ) (A B : Factor) where
  -- "Y(i,j) = X(p(i), q(j))"
  unfoldable pub joint_source : ℕ → ℕ
  joint_source e = A.place (e / n2) * n2 + B.place (e % n2)

  -- "A(i,i)·B(j,j)·X(i,j)"
  unfoldable pub joint_sign : ℕ → ℤ
  joint_sign e = A.sign (e / n2) *ℤ B.sign (e % n2)

  -- "A(i,l)·B(j,k)·X(l,k)"
  unfoldable pub joint_weight : ℕ → ℕ → ℤ
  joint_weight e k = matrix A (e / n2) (k / n2) *ℤ matrix B (e % n2) (k % n2)

  -- "first elements in neither, then row r from the left, column q from the top, and (r,q) last"
  unfoldable pub joint_shared : ℕ → ℕ
  joint_shared e = in_row A (e / n2) + 2 * in_row B (e % n2)

  unfoldable pub joint_stage : Stage
  joint_stage =
      stage_of A.kind (move unit² joint_source) (weigh unit² joint_sign joint_weight (order A.kind (n1 * n2) joint_shared))

-- sheets that match, factor by factor
unfoldable pub joint_stages : ℕ → ℕ → List Factor → List Factor → List Stage
joint_stages n1 n2 [] bs = []
joint_stages n1 n2 (a ∷ fs) [] = []
joint_stages n1 n2 (a ∷ fs) (b ∷ bs) = joint_stage n1 n2 a b ∷ joint_stages n1 n2 fs bs

-- ---- R-4: a factor along each line of a rectangle. An element is number `spot` of line `line`, and `join` makes it of the two
pub record Lines : Type 0 where
  pub many : ℕ
  pub long : ℕ
  pub line : ℕ → ℕ
  pub spot : ℕ → ℕ
  pub join : ℕ → ℕ → ℕ

-- "the column sheet down each column, then the row sheet along each row"
abbrev pub columns : ℕ → ℕ → Lines
columns n1 n2 = record { many = n2; long = n1; line = λ e. e % n2; spot = λ e. e / n2; join = λ l i. i * n2 + l }

abbrev pub rows : ℕ → ℕ → Lines
rows n1 n2 = record { many = n1; long = n2; line = λ e. e / n2; spot = λ e. e % n2; join = λ l i. l * n2 + i }

module _ (r : Lines) (f : Factor) where
  unfoldable pub pass_source : ℕ → ℕ
  pass_source e = r.join (r.line e) (f.place (r.spot e))

  unfoldable pub pass_sign : ℕ → ℤ
  pass_sign e = f.sign (r.spot e)

  unfoldable pub pass_weight : ℕ → ℕ → ℤ
  pass_weight e k = cond (eqb (r.line e) (r.line k)) (matrix f (r.spot e) (r.spot k)) (pos 0)

  -- "line after line by number", each line in the factor's recovery order
  unfoldable pub pass_turn : ℕ → ℕ
  pass_turn e = r.line e * (r.long + 4) + turn f.kind r.long (in_row f (r.spot e)) (r.spot e)

  -- "A stage is one factor over the whole rectangle"
  unfoldable pub pass_stage : Stage
  pass_stage =
      stage_of f.kind (move unit pass_source)
      (weigh unit pass_sign pass_weight (by_turn (r.many * r.long) (r.many * (r.long + 4)) pass_turn))

unfoldable pub pass_stages : Lines → List Factor → List Stage
pass_stages r [] = []
pass_stages r (f ∷ fs) = pass_stage r f ∷ pass_stages r fs
