-- "Exact products" of document 01 as matrices: "scale every factor by 4096 .., permutations and signs too, without rounding".
-- A matrix gives the number in row m, column k. `exact_product` (Stages) is proved to be the product of the factors' matrices.
use Rattle.std.specs.Prelude.{cond, List, [], ◌∷◌, ℕ, eqb, ℤ, pos, ◌*ℤ◌}
use Rattle.whole.specs.Stated.{sum}
use Rattle.rules.specs.declared.Kind.{Kind}
use Rattle.rules.specs.declared.Kind.TheVariants.{Permutation, Lower, Upper, Single}
use Rattle.rules.specs.Numbers.{unit}
use Rattle.rules.specs.Factors.{Factor, matrix}

abbrev pub Matrix : Type 0
Matrix = ℕ → ℕ → ℤ

-- "output i takes input p(i)": 4096 in column p(m) of row m
unfoldable pub moving : Factor → Matrix
moving f m k = cond (eqb k (f.place m)) (pos unit) (pos 0)

-- the matrix of a factor, by its kind
unfoldable pub matrix_of : Kind → Factor → Matrix
matrix_of Permutation f = moving f
matrix_of Lower f = matrix f
matrix_of Upper f = matrix f
matrix_of Single f = matrix f

-- of no factor at all
unfoldable pub unchanged : Matrix
unchanged m k = cond (eqb m k) (pos 1) (pos 0)

-- the product of two matrices of n rows and columns: M is applied first, then P
unfoldable pub after : ℕ → Matrix → Matrix → Matrix
after n P M m k = sum n (λ l. P m l *ℤ M l k)

-- "K factors in the order in which they are applied (the matrix product is read from the right)"
unfoldable pub product : ℕ → List Factor → Matrix
product n [] = unchanged
product n (f ∷ fs) = after n (product n fs) (matrix_of f.kind f)
