-- A BLOCK AND ITS LINES: copied in and out, turned, closed up; each is the rectangle in reading order.
use Rattle.std.specs.Prelude.{Bool, true, false, List, ◌≢◌, ◌≡◌, refl, ℕ, ◌+◌, ◌*◌, ◌/◌, ◌%◌, ◌≤◌, ◌<◌, min, max, ℤ, pos, length, replicate, take}
use Rattle.std.proofs.Common.{sym, ap, ◌∙◌, mul-le-mul, arith, ext_get_or, get_or-take, length-take-le}
use Rattle.std.proofs.Math.Nat as NatL
use Rattle.std.proofs.lemmas.List.{length-replicate}
use Rattle.rules.specs.Numbers.{most_order, most_cells, at}
use Rattle.rules.specs.Stages.{fill}
use Rattle.rules.specs.Shapes.{Lines, columns, rows}
use Rattle.rules.proofs.Laws.Lists.{length-fill, fill-at}
use Rattle.rules.proofs.Laws.Passes.{Tiles, columns-tile, rows-tile}
use Rattle.laws.specs.Accepted.{Accepted, accepted-order}
use Rattle.factor.specs.PassLines.{lines_by, lines-many, lines_long}
use Rattle.joint.specs.Sums.{zero-at}
use Rattle.passrun.specs.Laid.{place_in, laid, Fits, length-laid, laid-at}
use Rattle.passrun.specs.Layout.{copied, Apart, copied_at, length-copied, turned, turning-at}
use Rattle.passrun.specs.BlockRuns.{other, size_by, one_size, one_lines, start_block}
use Rattle.passrun.specs.PassRuns.{LinesOf}

-- ---- the lines fit into the block
pub fit-by : (down : Bool) (many long : ℕ) → many ≤ most_order → long ≤ most_order →
    Fits (size_by down many long) (lines_by down many long)
unfolding size_by lines_by
fit-by true many long a b = record { tiles = columns-tile long many; many = a; long = b }
fit-by false many long a b = record { tiles = rows-tile many long; many = a; long = b }

pub lines_of : (down : Bool) (many : ℕ) {s : List ℤ} → Accepted s → many ≤ most_order →
    LinesOf (one_size down many s) (one_lines down many s) s many
unfolding lines_by
lines_of true many a l = record { fits = fit-by true many _ l (accepted-order a).most; many = refl; long = refl }
lines_of false many a l = record { fits = fit-by false many _ l (accepted-order a).most; many = refl; long = refl }

-- the same rectangle by its other lines
pub sizes-turn : (down : Bool) (many long : ℕ) → size_by (other down) long many ≡ size_by down many long
unfolding size_by other
sizes-turn true many long = refl
sizes-turn false many long = refl

pub size-most : (down : Bool) {many long : ℕ} → many ≤ most_order → long ≤ most_order → size_by down many long ≤ most_cells
unfolding size_by
size-most true a b = mul-le-mul b a
size-most false a b = mul-le-mul a b

-- ---- two lists of N numbers
same : {N : ℕ} {u v : List ℤ} → length u ≡ N → length v ≡ N → ((e : ℕ) → e < N → at u e ≡ at v e) → u ≡ v
same {u = u} {v = v} a b h = ext_get_or (pos 0) u v (a ∙ sym b) (λ e l. h e (omega arith))

-- the lent numbers, all of them or none
pub start-all : (N : ℕ) (x : List ℤ) → length x ≡ N → start_block N x ≡ x
unfolding start_block
start-all N x l =
    same (length-fill (length x) (at x) (replicate N (pos 0)) ∙ length-replicate N (pos 0)) l
    (λ e b. fill-at (length x) (at x) (replicate N (pos 0)) e (omega arith) (omega (arith, length-replicate N (pos 0))))

pub start_none : (N : ℕ) (x : List ℤ) → length x ≡ 0 → start_block N x ≡ replicate N (pos 0)
unfolding start_block fill
start_none N x l = rw l

-- ---- copied: number m of line l stands at place m·k + l·s in reading order
pub record Joins (r : Lines) (k s : ℕ) : Type 0 where
  pub joins : (l m : ℕ) → m * k + l * s ≡ r.join l m

pub columns-join : (n many : ℕ) → Joins (columns n many) many 1
columns-join n many = record { joins = λ l m. omega arith }

pub rows_join : (many n : ℕ) → Joins (rows many n) 1 n
rows_join many n = record { joins = λ l m. omega arith }

-- side by side
pub side-apart : (many n : ℕ) → many ≤ most_order → Apart many n (λ m l. m * most_order + l * 1)
side-apart many n w = record {
  lines = λ m i j a b c d e. d (omega arith);
  rows = λ a b i j c d e f g. omega arith;
}

module _ {N : ℕ} {r : Lines} (h : Fits N r) {k s : ℕ} (j : Joins r k s) where
  abbrev t : Tiles N r
  t = h.tiles

  -- in reading order
  joins-apart : Apart r.many r.long (λ m l. m * k + l * s)
  joins-apart = record {
    lines = λ m a b c d e f g.
        f (sym (t.line-join a m d c) ∙ ap r.line (sym (j.joins a m) ∙ g ∙ j.joins b m) ∙ t.line-join b m e c);
    rows = λ a b c d e f g i z.
        let q = sym (t.spot-join c a g (omega arith)) ∙ ap r.spot (sym (j.joins c a) ∙ z ∙ j.joins d b)
        ∙ t.spot-join d b i f in
        omega arith;
  }

  -- COPIED IN
  pub laid_in : (x b : List ℤ) → length x ≡ N → length b ≡ most_cells →
      laid N r (copied r.many (λ m l. m * most_order + l * 1) (λ m l. at x (m * k + l * s)) r.long b) ≡ x
  laid_in x b lx lb =
      let c = copied r.many (λ m l. m * most_order + l * 1) (λ m l. at x (m * k + l * s)) r.long b in
      let w = h.many in
      let n = h.long in
      same (length-laid N r c) lx
      (λ e l.
      let p : r.line e + r.spot e * most_order ≡ r.spot e * most_order + r.line e * 1 = omega arith in
      laid-at N r c e l ∙ ap (at c) p
      ∙ copied_at r.many (λ m i. m * most_order + i * 1) (λ m i. at x (m * k + i * s)) r.long b
      (side-apart r.many r.long w)
      (λ m i a d. omega arith) (r.spot e) (r.line e) (t.spot-below e l) (t.line-below e l)
      ∙ ap (at x) (j.joins (r.line e) (r.spot e) ∙ t.join-of e l))

  -- COPIED OUT
  pub laid_out : (b y : List ℤ) → length y ≡ N →
      copied r.many (λ m l. m * k + l * s) (λ m l. at b (m * most_order + l * 1)) r.long y ≡ laid N r b
  laid_out b y ly =
      let c = copied r.many (λ m l. m * k + l * s) (λ m l. at b (m * most_order + l * 1)) r.long y in
      same (length-copied r.many (λ m l. m * k + l * s) (λ m l. at b (m * most_order + l * 1)) r.long y ∙ ly)
      (length-laid N r b)
      (λ e l.
      let p : r.spot e * most_order + r.line e * 1 ≡ r.line e + r.spot e * most_order = omega arith in
      ap (at c) (sym (j.joins (r.line e) (r.spot e) ∙ t.join-of e l))
      ∙ copied_at r.many (λ m i. m * k + i * s) (λ m i. at b (m * most_order + i * 1)) r.long y joins-apart
      (λ m i a d. rw (j.joins i m, ly) (t.join-below i m d a)) (r.spot e) (r.line e) (t.spot-below e l) (t.line-below e l)
      ∙ ap (at b) p ∙ sym (laid-at N r b e l))

-- ---- TURNED: the lines are the other lines
line-turned : (down : Bool) (many long e : ℕ) → place_in (lines_by (other down) long many) e
    ≡ (lines_by down many long).line e * most_order + (lines_by down many long).spot e
unfolding lines_by other
line-turned true many long e = omega arith
line-turned false many long e = omega arith

pub turned-laid : (down : Bool) (many long : ℕ) (b : List ℤ) → length b ≡ most_cells → many ≤ most_order → long ≤ most_order →
    laid (size_by down many long) (lines_by (other down) long many) (turned many long b)
    ≡ laid (size_by down many long) (lines_by down many long) b
turned-laid down many long b lb w n =
    let N = size_by down many long in
    let r = lines_by down many long in
    let f = fit-by down many long w n in
    let q = turned many long b in
    same (length-laid N (lines_by (other down) long many) q) (length-laid N r b)
    (λ e l.
    let p : r.spot e * most_order + r.line e ≡ r.line e + r.spot e * most_order = omega arith in
    let y : r.line e < many = let z = f.tiles.line-below e l in omega (arith, lines-many down many long) in
    let z : r.spot e < long = let z = f.tiles.spot-below e l in omega (arith, lines_long down many long) in
    laid-at N (lines_by (other down) long many) q e l ∙ ap (at q) (line-turned down many long e)
    ∙ turning-at (min many long) (max many long) b lb (omega arith) (r.line e) (r.spot e) (omega arith) (omega arith)
    (λ d. omega arith)
    ∙ ap (at b) p ∙ sym (laid-at N r b e l))

-- a number of a row stands before those of the rows after it
below : (a c n d e : ℕ) → a < c → d < n → a * n + d ≢ c * n + e
below a c n d e f h z = let k : (a + 1) * n ≤ c * n = NatL.mul-le-mul_right n (omega arith) in omega arith

-- ---- CLOSED UP: rows 16 apart, in reading order
pub closed-laid : (m n : ℕ) (b : List ℤ) → length b ≡ most_cells → m ≤ most_order → n ≤ most_order →
    take (m * n) (copied n (λ i j. i * n + j) (λ i j. at b (i * most_order + j)) m b) ≡ laid (m * n) (columns m n) b
closed-laid m n b lb x y =
    let N = m * n in
    let t = columns-tile m n in
    let q = copied n (λ i j. i * n + j) (λ i j. at b (i * most_order + j)) m b in
    let w : length q ≡ most_cells = length-copied n (λ i j. i * n + j) (λ i j. at b (i * most_order + j)) m b ∙ lb in
    let z : N ≤ most_cells = mul-le-mul x y in
    same (length-take-le N q (omega arith)) (length-laid N (columns m n) b)
    (λ e l.
    let p : e / n * most_order + e % n ≡ e % n + e / n * most_order = omega arith in
    get_or-take N q e (pos 0) l ∙ ap (at q) (sym (t.join-of e l))
    ∙ copied_at n (λ i j. i * n + j) (λ i j. at b (i * most_order + j)) m b
    (record { lines = λ a c d e f g h i. h (omega arith); rows = λ a c d e f g h i z. below a c n d e f h z })
    (λ a c d i. let u = t.join-below c a i d in omega (arith, mul-le-mul x y)) (e / n) (e % n) (t.spot-below e l)
    (t.line-below e l)
    ∙ ap (at b) p ∙ sym (laid-at N (columns m n) b e l))

-- a block of zeros
pub laid_none : (N : ℕ) (r : Lines) → laid N r (replicate most_cells (pos 0)) ≡ replicate N (pos 0)
laid_none N r =
    same (length-laid N r (replicate most_cells (pos 0))) (length-replicate N (pos 0))
    (λ e l. laid-at N r (replicate most_cells (pos 0)) e l ∙ zero-at most_cells (place_in r e) ∙ sym (zero-at N e))
