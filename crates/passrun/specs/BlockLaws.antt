-- THE PARTS OF A RUN: a block copied in and out and read off, as the code does it.
use Rattle.std.specs.Prelude.{Bool, true, false, List, ◌≡◌, ℕ, ◌+◌, ◌*◌, ◌≤◌, ℤ, pos, length, replicate, take}
use Rattle.std.proofs.Common.{inl, inr, sym, ap, ◌∙◌, mul-le-mul, arith}
use Rattle.std.proofs.lemmas.List.{length-replicate}
use Rattle.rules.specs.Numbers.{most_order, most_cells, at}
use Rattle.rules.specs.Shapes.{columns, rows}
use Rattle.factor.specs.PassLines.{lines_by}
use Rattle.factor.specs.SumBounds.{Bounded}
use Rattle.joint.specs.Sums.{nothing}
use Rattle.passrun.specs.Laid.{laid}
use Rattle.passrun.specs.Layout.{CopiesLines, copied, length-copied, copied-bounded}
use Rattle.passrun.specs.Layout.{turned, length-turning, turning-bounded}
use Rattle.passrun.specs.Blocks.{fit-by, start-all, start_none, columns-join, rows_join, laid_in, laid_out}
use Rattle.passrun.specs.Blocks.{laid_none, turned-laid, closed-laid}
use Rattle.passrun.specs.BlockRuns.{other, size_by, Lent, LaidIn, ReadOff}

-- ---- copied in
pub lent-all : (x : List ℤ) {N : ℕ} → Lent x N → (length x ≡ 0 → ⊥) → length x ≡ N
lent-all x (inl z) h = absurd (h z)
lent-all x (inr z) h = z

-- zeros
pub laid-nothing : (down : Bool) (many long : ℕ) (x : List ℤ) {b : List ℤ} → length x ≡ 0 → b ≡ replicate most_cells (pos 0) →
    LaidIn down many long x b
laid-nothing down many long x l e =
    rw e (record {
      holds = laid_none (size_by down many long) (lines_by down many long) ∙ sym (start_none (size_by down many long) x l);
      small = λ B h. nothing most_cells;
      wide = length-replicate most_cells (pos 0);
    })

-- the numbers of every line
module _ (many long k s : ℕ) (x : List ℤ) {b c : List ℤ} (zeros : b ≡ replicate most_cells (pos 0))
    (made : c ≡ copied many (λ m l. m * most_order + l * 1) (λ m l. at x (m * k + l * s)) long b) where
  made-long : length c ≡ most_cells
  made-long = ap length made ∙ length-copied many _ _ long b ∙ ap length zeros ∙ length-replicate most_cells (pos 0)

  made-small : (B : ℕ) → Bounded B x → Bounded B c
  made-small B h = rw made (copied-bounded many _ _ long (rw zeros (nothing most_cells)) (λ m l. h.small (m * k + l * s)))

pub laid-columns : (many long : ℕ) (x : List ℤ) {b c : List ℤ} → many ≤ most_order → long ≤ most_order →
    length x ≡ size_by true many long → b ≡ replicate most_cells (pos 0) →
    c ≡ copied many (λ m l. m * most_order + l * 1) (λ m l. at x (m * many + l * 1)) long b →
    LaidIn true many long x c
unfolding lines_by size_by
laid-columns many long x {b} {c} w n l z e = record {
  holds = ap (laid (long * many) (columns long many)) e
      ∙ laid_in (fit-by true many long w n) (columns-join long many) x b l (ap length z ∙ length-replicate most_cells (pos 0))
      ∙ sym (start-all (long * many) x l);
  small = made-small many long many 1 x z e;
  wide = made-long many long many 1 x z e;
}

pub laid-rows : (many long : ℕ) (x : List ℤ) {b c : List ℤ} → many ≤ most_order → long ≤ most_order →
    length x ≡ size_by false many long → b ≡ replicate most_cells (pos 0) →
    c ≡ copied many (λ m l. m * most_order + l * 1) (λ m l. at x (m * 1 + l * long)) long b →
    LaidIn false many long x c
unfolding lines_by size_by
laid-rows many long x {b} {c} w n l z e = record {
  holds = ap (laid (many * long) (rows many long)) e
      ∙ laid_in (fit-by false many long w n) (rows_join many long) x b l (ap length z ∙ length-replicate most_cells (pos 0))
      ∙ sym (start-all (many * long) x l);
  small = made-small many long 1 long x z e;
  wide = made-long many long 1 long x z e;
}

-- ---- the places of a copy
pub from-columns : (many long : ℕ) {x : List ℤ} → many ≤ most_order → long ≤ most_order → length x ≡ size_by true many long →
    CopiesLines many long many 1 x
unfolding lines_by size_by
from-columns many long w n l = record {
  few = w;
  short = n;
  near = omega arith;
  there = λ m i a b. rw l (rw ((columns-join long many).joins i m) ((fit-by true many long w n).tiles.join-below i m b a));
  small = rw l (mul-le-mul n w);
}

pub from-rows : (many long : ℕ) {x : List ℤ} → many ≤ most_order → long ≤ most_order → length x ≡ size_by false many long →
    CopiesLines many long 1 long x
unfolding lines_by size_by
from-rows many long w n l = record {
  few = w;
  short = n;
  near = omega arith;
  there = λ m i a b. rw l (rw ((rows_join many long).joins i m) ((fit-by false many long w n).tiles.join-below i m b a));
  small = rw l (mul-le-mul w n);
}

pub into-lines : (many long : ℕ) {b : List ℤ} → many ≤ most_order → long ≤ most_order → length b ≡ most_cells →
    CopiesLines many long most_order 1 b
into-lines many long w n l = record {
  few = w;
  short = n;
  near = omega arith;
  there = λ m i a b. omega arith;
  small = omega arith;
}

-- ---- copied out
pub out-columns : (many long : ℕ) (b y : List ℤ) → many ≤ most_order → long ≤ most_order → length y ≡ size_by true many long →
    copied many (λ m l. m * many + l * 1) (λ m l. at b (m * most_order + l * 1)) long y
    ≡ laid (size_by true many long) (lines_by true many long) b
unfolding lines_by size_by
out-columns many long b y w n l = laid_out (fit-by true many long w n) (columns-join long many) b y l

pub out-rows : (many long : ℕ) (b y : List ℤ) → many ≤ most_order → long ≤ most_order → length y ≡ size_by false many long →
    copied many (λ m l. m * 1 + l * long) (λ m l. at b (m * most_order + l * 1)) long y
    ≡ laid (size_by false many long) (lines_by false many long) b
unfolding lines_by size_by
out-rows many long b y w n l = laid_out (fit-by false many long w n) (rows_join many long) b y l

-- ---- read off
module _ (m n : ℕ) (b : List ℤ) {c : List ℤ} (l : length b ≡ most_cells)
    (made : c ≡ copied n (λ i j. i * n + j) (λ i j. at b (i * most_order + j)) m b) where
  closed-long : length c ≡ most_cells
  closed-long = ap length made ∙ length-copied n _ _ m b ∙ l

  closed-small : (B : ℕ) → Bounded B b → Bounded B c
  closed-small B h = rw made (copied-bounded n _ _ m h (λ i j. h.small (i * most_order + j)))

pub read-columns : (many long : ℕ) {b c : List ℤ} → many ≤ most_order → long ≤ most_order → length b ≡ most_cells →
    c ≡ copied many (λ i j. i * many + j) (λ i j. at b (i * most_order + j)) long b → ReadOff true many long b c
unfolding lines_by size_by
read-columns many long {b} w n l e = record {
  front = ap (take (long * many)) e ∙ closed-laid long many b l n w;
  small = closed-small long many b l e;
  wide = closed-long long many b l e;
}

pub read-rows : (many long : ℕ) {b c d : List ℤ} → many ≤ most_order → long ≤ most_order → length b ≡ most_cells →
    d ≡ turned many long b →
    c ≡ copied long (λ i j. i * long + j) (λ i j. at d (i * most_order + j)) many d → ReadOff false many long b c
unfolding lines_by size_by other
read-rows many long {b} {c} {d} w n l t e =
    let q : length d ≡ most_cells = ap length t ∙ length-turning _ _ b ∙ l in
    record {
      front = ap (take (many * long)) e ∙ closed-laid many long d q w n
          ∙ ap (laid (many * long) (columns many long)) t ∙ turned-laid false many long b l w n;
      small = λ B h. closed-small many long d q e B (rw t (turning-bounded _ _ h));
      wide = closed-long many long d q e;
    }
