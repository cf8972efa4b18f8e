-- The block is as j turns leave it, and all of it is in bound; each turn makes the element from the tests and sums of row i
-- (`link`).
use Rattle.std.proofs.Common.{rules, is_ok, Bool, List, ◌≡◌, sym, ap, ◌∙◌, ℕ, ◌+◌, ◌*◌, ◌<◌, add-one, arith, ℤ, length, w32, w64, to_z, of_z, ◌%◌}
use Rattle.factor.specs.InPlace.{in_place, length-in-place}
use Rattle.std.proofs.lemmas.Result.{err_from_is_err_and}
use Rattle.factor.specs.SumBounds.{Bounded, bounded-set, kept-no, kept-yes}
use Rattle.joint.specs.Allowances.{allowed_at, allowed_of, magnitude-sums-small}
use Rattle.joint.specs.RowsInPlace.{in_row, steps-same, row-ahead, allowed-here}
use Rattle.factor.specs.declared.Layout.{Layout}
use Rattle.rules.specs.declared.Rule.{Rule}
use Rattle.rules.proofs.Laws.Rectangles.{col-of}
use Rattle.rules.specs.Numbers.{most_allowance, at}
use Rattle.whole.specs.Machine.{reads, back}
use Rattle.joint.proofs.rows.allow_row.Goals as goal
use Rattle.joint.proofs.rows.allow_row.Goals.{After-allowed_at-z, After-keep, After-magnitude_sums_at}

-- element e by the test and the sums of its row
abbrev G : Rule → List ℤ → Layout → Bool → List ℤ → List ℤ → ℕ → ℤ
G rule row fb whole v x e = allowed_at rule row fb (e % fb.order) whole v (at x e)

link :
    (c : After-magnitude_sums_at) (j : ℕ) → j < c.args.fb.order →
    allowed_of c.args.rule c.args.col.now c.args.fa c.args.row.now c.args.fb c.args.x.now (c.args.i * c.args.fb.order + j)
    ≡ G c.args.rule c.args.row.now c.args.fb c.is_whole_row-whole.result c.magnitude_sums_at.new.v c.args.x.now
    (c.args.i * c.args.fb.order + j)
link c j l =
    let s = c.args in
    allowed-here s.rule s.col.now s.fa s.row.now s.fb s.x.now s.i j l
    ∙ rw (col-of 0 s.fb.order s.i j l, c.is_whole_row-whole.ensures, c.magnitude_sums_at.ensures)

-- the element, which this row has not written yet
unwritten :
    (step : List ℤ → ℕ → ℤ) (n i j : ℕ) (x : List ℤ) {y : List ℤ} →
    y ≡ in_place step (in_row n i) j x → Bounded most_allowance y →
    to_z w32 (of_z w32 (at y (i * n + j))) ≡ at x (i * n + j)
unwritten step n i j x e b = reads w32 (b.small (i * n + j)) tt ∙ row-ahead step n i j x e

pub allowed_at-z-requires : goal.allowed_at-z-requires
allowed_at-z-requires c =
    let a = c.args in
    let l = c.loop-j in
    rw (c.magnitude_sums_at.ensures, unwritten _ a.fb.order a.i l.j a.x.now l.invariant.1 l.invariant.2) (
      c.requires.1,
      c.loop-j-test.true,
      magnitude-sums-small c.requires.0 a.i c.requires.2 a.fb.order c.requires.3,
      c.requires.3.small (a.i * a.fb.order + l.j),
    )

value :
    (c : After-allowed_at-z) →
    to_z w64 (of_z w64 c.allowed_at-z.result)
    ≡ G c.args.rule c.args.row.now c.args.fb c.is_whole_row-whole.result c.magnitude_sums_at.new.v c.args.x.now
    (c.args.i * c.args.fb.order + c.loop-j.j)
value c =
    let a = c.args in
    let l = c.loop-j in
    back w64 _ c.allowed_at-z.type_inv ∙ c.allowed_at-z.ensures
    ∙ rw (
      unwritten _ a.fb.order a.i l.j a.x.now l.invariant.1 l.invariant.2,
      col-of 0 a.fb.order a.i l.j c.loop-j-test.true,
    )

-- the block stays as long as it was
long : (c : After-keep) → length c.keep.new.x ≡ length c.args.x.now
long c = search rules

pub returns-in_err-keep : goal.returns-in_err-keep
returns-in_err-keep c =
    let a = goal.at.returns-in_err-keep c in
    let p = err_from_is_err_and c.from_residual.result c.from_residual.ensures.1 in
    let q = rw (value a.After-allowed_at-z) at c.keep.ensures in
    rw p.1 (record {
      through = λ e. let z : ◌≡◌ {A = ℕ} 0 1 = cc in absurd (omega arith);
      stopped = λ e. record {
        turn = c.loop-j.j;
        before = c.loop-j-test.true;
        far =
            rw (link a.After-magnitude_sums_at c.loop-j.j c.loop-j-test.true) (kept-no q (ap is_ok c.in_err-keep.was));
      };
      keeps = long a.After-keep;
    })

pub loop-j-preserved : goal.loop-j-preserved
unfolding in_place
loop-j-preserved c =
    let l = c.loop-j in
    let q = rw (value (goal.at.loop-j-preserved c).After-allowed_at-z) at c.keep.ensures in
    let o = ap is_ok c.in_ok-keep.was in (
      omega arith,
      q.put o ∙ rw (add-one, l.invariant.1),
      rw (q.put o) (bounded-set l.x (c.args.i * c.args.fb.order + l.j) l.invariant.2 (kept-yes q o)),
    )

pub returns : goal.returns
returns c =
    let l = c.loop-j in
    let e : l.j ≡ c.args.fb.order = omega arith in
    record {
      through = λ t. (
        l.invariant.1
            ∙ rw e
            (sym (steps-same _ _ _ c.args.fb.order _ (λ j g v. link (goal.at.returns c).After-magnitude_sums_at j g))),
        l.invariant.2,
      );
      stopped = λ t. let z : ◌≡◌ {A = ℕ} 0 1 = cc in absurd (omega arith);
      keeps = ap length l.invariant.1 ∙ length-in-place _ _ l.j _;
    }
