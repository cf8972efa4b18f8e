-- REQUEST R-4, THE EXACT PRODUCTS: E of a pass is the sheet's matrix on each of its lines, and E of a two-pass run is
-- A·X·B-transposed, where the sheets need not match. Assumes nothing.
use mathlib.Core.List.{List}
use Rattle.std.specs.Prelude.{◌≡◌, ℕ, ◌+◌, ◌*◌, ◌≤◌, ◌<◌, ℤ, ◌*ℤ◌, length}
use Rattle.std.proofs.Math.Path.{sym, ap}
use Rattle.std.proofs.Common.{◌∙◌, arith}
use Rattle.whole.specs.Diff.{lia}
use Rattle.whole.specs.Stated.{sum}
use Rattle.whole.specs.Sum.{sum-cong, sum-scale, sum-swap}
use Rattle.rules.specs.Numbers.{at, count}
use Rattle.rules.specs.Factors.{Factor, factors}
use Rattle.rules.specs.Stages.{Stage, exact, exact_product}
use Rattle.rules.specs.Shapes.{Lines, columns, rows, pass_stages}
use Rattle.rules.specs.Matrices.{product}
use Rattle.rules.specs.Calls.{two_pass, column_pass, row_pass}
use Rattle.rules.proofs.Laws.SoundFactors.{AllSound}
use Rattle.rules.proofs.Laws.AllowanceLaw.{length-exact}
use Rattle.rules.proofs.Laws.ExactProducts.{exact-of-line}
use Rattle.rules.proofs.Laws.Passes.{Tiles, columns-tile, rows-tile}
use Rattle.rules.proofs.Laws.PassProducts.{along-product, product-append}
use Rattle.laws.specs.Stated.Calls.{E}
use Rattle.laws.specs.Stated.Passes.{line_of}
use Rattle.laws.specs.Accepted.{two-read}
use Rattle.laws.specs.Sound.{sheet-sound}
use Rattle.laws.specs.Plans.{through-length}
use Rattle.laws.specs.Passes.{alone-read}
use Rattle.laws.specs.PassLines.{line-long, line_at, line-holds}

pass-product :
    {N : ℕ} {r : Lines} → Tiles N r → {fs : List Factor} → AllSound r.long fs → (x : List ℤ) → N ≤ length x → (l i : ℕ) →
    l < r.many → i < r.long →
    at (exact_product N (pass_stages r fs) x) (r.join l i)
    ≡ sum r.long (λ k. product r.long fs i k *ℤ at x (r.join l k))
pass-product {N} {r} t {fs} s x room l i a b =
    sym ((along-product t a s x room (line_of r l x) (line-holds r l x)).each i b)
    ∙ exact-of-line s (line_of r l x) (omega (arith, line-long r l x)) i b
    ∙ sum-cong r.long _ _ (λ k p. ap (λ (z : ℤ). product r.long fs i k *ℤ z) (line_at r l x k p))

-- ---- a pass alone: element (i, j) from column j, or from row i
pub column-product : (c : List ℤ) (n2 : ℕ) → (column_pass c n2).sheets.number ≡ 0 → (x : List ℤ) → length x ≡ count c 0 * n2 →
    (i j : ℕ) → i < count c 0 → j < n2 →
    at (E (column_pass c n2) x) (i * n2 + j) ≡ sum (count c 0) (λ l. product (count c 0) (factors c) i l *ℤ at x (l * n2 + j))
unfolding column_pass
column-product c n2 h x long i j a b =
    pass-product (columns-tile (count c 0) n2) (sheet-sound (alone-read c n2 h).0) x (omega arith) j i b a

pub row-product : (r : List ℤ) (n1 : ℕ) → (row_pass r n1).sheets.number ≡ 0 → (x : List ℤ) → length x ≡ n1 * count r 0 →
    (i j : ℕ) → i < n1 → j < count r 0 →
    at (E (row_pass r n1) x) (i * count r 0 + j)
    ≡ sum (count r 0) (λ k. product (count r 0) (factors r) j k *ℤ at x (i * count r 0 + k))
unfolding row_pass
row-product r n1 h x long i j a b =
    pass-product (rows-tile n1 (count r 0)) (sheet-sound (alone-read r n1 h).0) x (omega arith) i j a b

-- ---- both passes
module _ (c r : List ℤ) (h : (two_pass c r).sheets.number ≡ 0) (x : List ℤ) (long : length x ≡ count c 0 * count r 0) where
  abbrev n1 : ℕ
  n1 = count c 0

  abbrev n2 : ℕ
  n2 = count r 0

  abbrev down : List Stage
  down = pass_stages (columns n1 n2) (factors c)

  abbrev along : List Stage
  along = pass_stages (rows n1 n2) (factors r)

  turn-round : (p q z : ℤ) → q *ℤ (p *ℤ z) ≡ (p *ℤ q) *ℤ z
  turn-round p q z = simp lia (omega arith)

  pub two-pass-product : (i j : ℕ) → i < count c 0 → j < count r 0 →
      at (E (two_pass c r) x) (i * count r 0 + j) ≡
      sum (count c 0) (λ l. sum (count r 0) (λ k.
      (product (count c 0) (factors c) i l *ℤ product (count r 0) (factors r) j k) *ℤ at x (l * count r 0 + k)))
  unfolding two_pass exact_product
  two-pass-product i j a b =
      let s = two-read c r h in
      let u = exact_product (n1 * n2) down x in
      let P = product n1 (factors c) i in
      let Q = product n2 (factors r) j in
      let w = through-length (exact (n1 * n2)) (length-exact (n1 * n2)) down x in
      ap (λ (v : List ℤ). at v (i * n2 + j)) (product-append (n1 * n2) down along x)
      ∙ pass-product (rows-tile n1 n2) (sheet-sound s.1) u (omega arith) i j a b
      ∙ sum-cong n2 _ _ (λ k p.
      ap (λ (z : ℤ). Q k *ℤ z) (pass-product (columns-tile n1 n2) (sheet-sound s.0) x (omega arith) k i p a)
      ∙ sym (sum-scale n1 (Q k) (λ l. P l *ℤ at x (l * n2 + k)))
      ∙ sum-cong n1 _ _ (λ l q. turn-round (P l) (Q k) (at x (l * n2 + k))))
      ∙ sym (sum-swap n1 n2 (λ l k. (P l *ℤ Q k) *ℤ at x (l * n2 + k)))
