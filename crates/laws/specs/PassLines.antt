-- REQUEST R-4: A PASS IS THE LINE'S CALL ON EACH LINE, and a two-pass run is that of each column, then of each row: such a call
-- is accepted exactly if the line's calls all are. The same undone. Assumes nothing.
use Rattle.std.specs.Prelude.{true, ◌↔◌, ◌≡◌, refl, ℕ, ◌*◌, ◌<◌, ℤ, pos, length, replicate}
use mathlib.Core.List.{List, []}
use Rattle.std.proofs.Common.{sym, ◌∙◌, arith, ext_get_or}
use Rattle.std.proofs.Math.Path.{ap}
use Rattle.std.proofs.Math.ListN.{length-replicate}
use Rattle.rules.specs.declared.Answer.{Answer}
use Rattle.rules.specs.declared.Rule.{Rule}
use Rattle.rules.specs.Numbers.{bound, at, count}
use Rattle.rules.specs.Factors.{Factor, factors}
use Rattle.rules.specs.Stages.{inside, Stage, forward, Ran, done, beyond, later, through, run_forward, run_inverse}
use Rattle.rules.specs.Shapes.{line_stage, line_stages, Lines, columns, rows, pass_stage, pass_stages}
use Rattle.rules.specs.Answers.{accepted}
use Rattle.rules.specs.Calls.{Gives, Plan, line, two_pass, column_pass, row_pass, forward_call, inverse_call}
use Rattle.rules.proofs.Laws.SoundFactors.{Sound, AllSound}
use Rattle.rules.proofs.Laws.Lists.{length-fill, fill-at, inside-yes, inside-at}
use Rattle.rules.proofs.Laws.Inverses.{length-forward}
use Rattle.rules.proofs.Laws.Kinds.{lines-good}
use Rattle.rules.proofs.Laws.Runs.{follow, later-done, run_in, run_none, run-next, run_step, run-through, there_and_back}
use Rattle.rules.proofs.Laws.Runs.{back-and-there, cut-forward, cut-inverse}
use Rattle.rules.proofs.Laws.Passes.{Tiles, columns-tile, rows-tile, passes-good}
use Rattle.rules.proofs.Laws.Along.{Holds, along-forward}
use Rattle.laws.specs.Stated.Passes.{line_of, EachLine, DownThenAlong, RowsFirst}
use Rattle.laws.specs.Accepted.{Accepted, checked-accepted, two-read}
use Rattle.laws.specs.Sound.{sheet-sound}
use Rattle.laws.specs.Plans.{forward-gives, inverse-gives, forward-length, inverse-length}
use Rattle.laws.specs.Passes.{alone-read}

-- ---- the lines of a block
module _ (r : Lines) (l : ℕ) (v : List ℤ) where
  pub line-long : length (line_of r l v) ≡ r.long
  unfolding line_of
  line-long = length-fill r.long _ (replicate r.long (pos 0)) ∙ length-replicate r.long (pos 0)

  pub line_at : (i : ℕ) → i < r.long → at (line_of r l v) i ≡ at v (r.join l i)
  unfolding line_of
  line_at i b = fill-at r.long _ (replicate r.long (pos 0)) i b (omega (arith, length-replicate r.long (pos 0)))

  pub line-holds : Holds r l v (line_of r l v)
  line-holds = record { wide = omega (arith, line-long); each = line_at }

  line-is : (u : List ℤ) → length u ≡ r.long → Holds r l v u → u ≡ line_of r l v
  line-is u long h =
      ext_get_or (pos 0) u (line_of r l v) (long ∙ sym line-long)
      (λ i b. let a : i < r.long = omega arith in h.each i a ∙ sym (line_at i a))

module _ {N : ℕ} {r : Lines} (t : Tiles N r) where
  at-line : (v : List ℤ) (k : ℕ) → k < N → at (line_of r (r.line k) v) (r.spot k) ≡ at v k
  at-line v k b = line_at r (r.line k) v (r.spot k) (t.spot-below k b) ∙ ap (at v) (t.join-of k b)

  same_block : (v w : List ℤ) → length v ≡ N → length w ≡ N → ((l : ℕ) → l < r.many → line_of r l v ≡ line_of r l w) → v ≡ w
  same_block v w m n h =
      ext_get_or (pos 0) v w (m ∙ sym n)
      (λ k b.
      let a : k < N = omega arith in
      sym (at-line v k a) ∙ ap (λ (u : List ℤ). at u (r.spot k)) (h (r.line k) (t.line-below k a)) ∙ at-line w k a)

  line-inside : (B : ℕ) (v : List ℤ) → inside B N v ≡ true → (l : ℕ) → l < r.many → inside B r.long (line_of r l v) ≡ true
  line-inside B v h l a =
      inside-yes B r.long (line_of r l v)
      (λ i b. rw (line_at r l v i b) (inside-at B N v h (r.join l i) (t.join-below l i a b)))

  lines-inside : (B : ℕ) (v : List ℤ) → ((l : ℕ) → l < r.many → inside B r.long (line_of r l v) ≡ true) → inside B N v ≡ true
  lines-inside B v h =
      inside-yes B N v
      (λ k b.
      rw (at-line v k b) at
      (inside-at B r.long (line_of r (r.line k) v) (h (r.line k) (t.line-below k b)) (r.spot k) (t.spot-below k b)))

  -- ---- stage by stage
  module _ (rule : Rule) where
    line-steps : {f : Factor} → Sound r.long f → (v : List ℤ) → length v ≡ N → (l : ℕ) → l < r.many →
        forward rule r.long (line_stage r.long f) (line_of r l v) ≡ line_of r l (forward rule N (pass_stage r f) v)
    line-steps {f} s v long l a =
        line-is r l (forward rule N (pass_stage r f) v) _
        (length-forward rule r.long (line_stage r.long f) (line_of r l v) ∙ line-long r l v)
        (along-forward t f rule s v (omega arith) a (line_of r l v) (line-holds r l v))

    -- accepted line by line, so accepted as a whole
    lines-pass : {fs : List Factor} → AllSound r.long fs → (v w : List ℤ) → length v ≡ N → length w ≡ N →
        ((l : ℕ) → l < r.many → run_forward rule r.long (line_stages r.long fs) (line_of r l v) ≡ done (line_of r l w)) →
        run_forward rule N (pass_stages r fs) v ≡ done w
    unfolding run_forward through line_stages pass_stages later
    lines-pass AllSound.none v w m n h =
        let e = same_block v w m n (λ l a. run-through _ _ _ _ [] (line_of r l v) (line_of r l w) (h l a)) in
        run_none _ _ _ _ v (lines-inside bound v (λ l a. run_in _ _ _ _ [] (line_of r l v) (line_of r l w) (h l a))) ∙ ap done e
    lines-pass (AllSound.more {f} {fs} s q) v w m n h =
        let i = lines-inside bound v (λ l a. run_in _ _ _ _ _ (line_of r l v) (line_of r l w) (h l a)) in
        let u = forward rule N (pass_stage r f) v in
        let k = lines-pass q u w (length-forward rule N (pass_stage r f) v ∙ m) n
        (λ l a. rw (← (line-steps s v m l a)) (run-next _ _ _ _ _ _ (line_of r l v) (line_of r l w) (h l a))) in
        run_step _ _ _ _ (pass_stage r f) (pass_stages r fs) v i ∙ ap (later 1) k

    -- accepted as a whole, so accepted line by line
    pass-lines : {fs : List Factor} → AllSound r.long fs → (v w : List ℤ) → length v ≡ N →
        run_forward rule N (pass_stages r fs) v ≡ done w → (l : ℕ) → l < r.many →
        run_forward rule r.long (line_stages r.long fs) (line_of r l v) ≡ done (line_of r l w)
    unfolding run_forward through line_stages pass_stages later
    pass-lines AllSound.none v w m h l a =
        let e = run-through _ _ _ _ [] v w h in
        run_none _ _ _ _ (line_of r l v) (line-inside bound v (run_in _ _ _ _ [] v w h) l a)
        ∙ ap (λ (u : List ℤ). done (line_of r l u)) e
    pass-lines (AllSound.more {f} {fs} s q) v w m h l a =
        let i = line-inside bound v (run_in _ _ _ _ _ v w h) l a in
        let u = forward rule N (pass_stage r f) v in
        let k = pass-lines q u w (length-forward rule N (pass_stage r f) v ∙ m) (run-next _ _ _ _ _ _ v w h) l a in
        run_step _ _ _ _ (line_stage r.long f) (line_stages r.long fs) (line_of r l v) i
        ∙ ap (later 1) (rw (← (line-steps s v m l a)) at k)

    -- the same undone: a pass and a line both go there and back
    lines-undone : {fs : List Factor} → AllSound r.long fs → (y x : List ℤ) → length y ≡ N → length x ≡ N →
        ((l : ℕ) → l < r.many → run_inverse rule r.long (line_stages r.long fs) (line_of r l y) ≡ done (line_of r l x)) →
        run_inverse rule N (pass_stages r fs) y ≡ done x
    lines-undone s y x m n h =
        there_and_back rule (passes-good t s) x y (omega arith)
        (lines-pass s x y n m
        (λ l a. back-and-there rule (lines-good s) (line_of r l y) (line_of r l x) (omega (arith, line-long r l y)) (h l a)))

    undone-lines : {fs : List Factor} → AllSound r.long fs → (y x : List ℤ) → length y ≡ N →
        run_inverse rule N (pass_stages r fs) y ≡ done x → (l : ℕ) → l < r.many →
        run_inverse rule r.long (line_stages r.long fs) (line_of r l y) ≡ done (line_of r l x)
    undone-lines {fs} s y x m h l a =
        there_and_back rule (lines-good s) (line_of r l x) (line_of r l y) (omega (arith, line-long r l x))
        (pass-lines s x y (inverse-length rule N (pass_stages r fs) y x h ∙ m)
        (back-and-there rule (passes-good t s) y x (omega arith) h) l a)

-- ---- calls whose sheets and slices are right, and their runs
module _ (rule : Rule) (p : Plan) (fine : p.sheets.number ≡ 0) (x y : List ℤ) (long : length x ≡ p.size) where
  forward-run : (z : List ℤ) → length z ≡ p.size →
      Gives accepted y (forward_call rule p x z) ↔ (run_forward rule p.size p.stages x ≡ done y)
  forward-run z m = (
    λ g. ((forward-gives rule p x z y).0 g).1.gives,
    λ h. (forward-gives rule p x z y).1 (long, record { sheets = fine; output = m; gives = h }),
  )

  inverse-run : (z : List ℤ) → length z ≡ p.size →
      Gives accepted y (inverse_call rule p x z) ↔ (run_inverse rule p.size p.stages x ≡ done y)
  inverse-run z m = (
    λ g. ((inverse-gives rule p x z y).0 g).1.gives,
    λ h. (inverse-gives rule p x z y).1 (long, record { sheets = fine; output = m; gives = h }),
  )

-- a line's call on each line, and the run of a pass
module _
    (rule : Rule) {N : ℕ} {r : Lines} (t : Tiles N r) {fs : List Factor} (s : AllSound r.long fs)
    {a : Answer} (fine : a ≡ accepted) (x y : List ℤ) (m : length x ≡ N) (n : length y ≡ N) where
  abbrev of-line : Plan
  of-line = record { sheets = a; size = r.long; stages = line_stages r.long fs }

  zero-answer : a.number ≡ 0
  zero-answer = ap (λ (z : Answer). z.number) fine

  each-forward : (run_forward rule N (pass_stages r fs) x ≡ done y) ↔ EachLine r (forward_call rule of-line) x y
  each-forward = (
    λ h. record {
      each = λ l b. record {
        lent = replicate r.long (pos 0);
        gives =
            let u = line_of r l x in
            let k = length-replicate r.long (pos 0) in
            (forward-run rule of-line zero-answer u (line_of r l y) (line-long r l x) _ k).1 (pass-lines t rule s x y m h l b);
      };
    },
    λ e. lines-pass t rule s x y m n
        (λ l b.
        let f = e.each l b in
        ((forward-gives rule of-line (line_of r l x) f.lent (line_of r l y)).0 f.gives).1.gives),
  )

  each-inverse : (run_inverse rule N (pass_stages r fs) x ≡ done y) ↔ EachLine r (inverse_call rule of-line) x y
  each-inverse = (
    λ h. record {
      each = λ l b. record {
        lent = replicate r.long (pos 0);
        gives =
            let u = line_of r l x in
            let k = length-replicate r.long (pos 0) in
            (inverse-run rule of-line zero-answer u (line_of r l y) (line-long r l x) _ k).1 (undone-lines t rule s x y m h l b);
      };
    },
    λ e. lines-undone t rule s x y m n
        (λ l b.
        let f = e.each l b in
        ((inverse-gives rule of-line (line_of r l x) f.lent (line_of r l y)).0 f.gives).1.gives),
  )

-- ---- a run in two parts is done exactly if both are
follow-done : {Z : Type 0} (n : ℕ) (r : Ran) (next : List ℤ → Ran) (y : List ℤ) → follow n r next ≡ done y →
    ((u : List ℤ) → r ≡ done u → next u ≡ done y → Z) → Z
unfolding follow
follow-done n (done u) next y h k = k u refl (later-done n (next u) y h)
follow-done n (beyond s e) next y h k = absurd (no h)
  where
    no : beyond s e ≡ done y → ⊥
    no q = let z : ◌≡◌ {A = ℕ} 0 1 = cc in omega arith

done-follow : (n : ℕ) {r : Ran} (next : List ℤ → Ran) {u y : List ℤ} → r ≡ done u → next u ≡ done y → follow n r next ≡ done y
unfolding follow later
done-follow n next h k = rw (h, k)

-- ---- "One pass alone .. is a call too"
module _ (rule : Rule) (c : List ℤ) (n2 : ℕ) (h : (column_pass c n2).sheets.number ≡ 0)
    (x y z : List ℤ) (k : length x ≡ count c 0 * n2) (m : length y ≡ count c 0 * n2) (n : length z ≡ count c 0 * n2) where
  pub column-lines :
      Gives accepted y (forward_call rule (column_pass c n2) x z)
      ↔ EachLine (columns (count c 0) n2) (forward_call rule (line c)) x y
  unfolding column_pass line
  column-lines =
      let a = (alone-read c n2 h).0 in
      let f = forward-run rule (column_pass c n2) h x y k z n in
      let e = each-forward rule (columns-tile (count c 0) n2) (sheet-sound a) (checked-accepted a) x y k m in
      (λ g. e.0 (f.0 g), λ g. f.1 (e.1 g))

  pub column-lines-undone :
      Gives accepted y (inverse_call rule (column_pass c n2) x z)
      ↔ EachLine (columns (count c 0) n2) (inverse_call rule (line c)) x y
  unfolding column_pass line
  column-lines-undone =
      let a = (alone-read c n2 h).0 in
      let f = inverse-run rule (column_pass c n2) h x y k z n in
      let e = each-inverse rule (columns-tile (count c 0) n2) (sheet-sound a) (checked-accepted a) x y k m in
      (λ g. e.0 (f.0 g), λ g. f.1 (e.1 g))

module _ (rule : Rule) (r : List ℤ) (n1 : ℕ) (h : (row_pass r n1).sheets.number ≡ 0)
    (x y z : List ℤ) (k : length x ≡ n1 * count r 0) (m : length y ≡ n1 * count r 0) (n : length z ≡ n1 * count r 0) where
  pub row-lines :
      Gives accepted y (forward_call rule (row_pass r n1) x z) ↔ EachLine (rows n1 (count r 0)) (forward_call rule (line r)) x y
  unfolding row_pass line
  row-lines =
      let a = (alone-read r n1 h).0 in
      let f = forward-run rule (row_pass r n1) h x y k z n in
      let e = each-forward rule (rows-tile n1 (count r 0)) (sheet-sound a) (checked-accepted a) x y k m in
      (λ g. e.0 (f.0 g), λ g. f.1 (e.1 g))

  pub row-lines-undone :
      Gives accepted y (inverse_call rule (row_pass r n1) x z) ↔ EachLine (rows n1 (count r 0)) (inverse_call rule (line r)) x y
  unfolding row_pass line
  row-lines-undone =
      let a = (alone-read r n1 h).0 in
      let f = inverse-run rule (row_pass r n1) h x y k z n in
      let e = each-inverse rule (rows-tile n1 (count r 0)) (sheet-sound a) (checked-accepted a) x y k m in
      (λ g. e.0 (f.0 g), λ g. f.1 (e.1 g))

-- ---- "a two-pass run: the column sheet down each column, then the row sheet along each row; the inverse undoes rows first"
module _ (rule : Rule) (c r : List ℤ) (h : (two_pass c r).sheets.number ≡ 0)
    (x y z : List ℤ) (k : length x ≡ count c 0 * count r 0) (m : length y ≡ count c 0 * count r 0)
    (n : length z ≡ count c 0 * count r 0) where
  sheets : Accepted c × Accepted r
  unfolding two_pass
  sheets = two-read c r h

  abbrev N : ℕ
  N = count c 0 * count r 0

  abbrev down : List Stage
  down = pass_stages (columns (count c 0) (count r 0)) (factors c)

  abbrev along : List Stage
  along = pass_stages (rows (count c 0) (count r 0)) (factors r)

  down-forward : (u v : List ℤ) → length u ≡ N → length v ≡ N →
      (run_forward rule N down u ≡ done v) ↔ EachLine (columns (count c 0) (count r 0)) (forward_call rule (line c)) u v
  unfolding line
  down-forward =
      each-forward rule (columns-tile (count c 0) (count r 0)) (sheet-sound sheets.0) (checked-accepted sheets.0)

  along-forward-lines : (u v : List ℤ) → length u ≡ N → length v ≡ N →
      (run_forward rule N along u ≡ done v) ↔ EachLine (rows (count c 0) (count r 0)) (forward_call rule (line r)) u v
  unfolding line
  along-forward-lines =
      each-forward rule (rows-tile (count c 0) (count r 0)) (sheet-sound sheets.1) (checked-accepted sheets.1)

  down-inverse : (u v : List ℤ) → length u ≡ N → length v ≡ N →
      (run_inverse rule N down u ≡ done v) ↔ EachLine (columns (count c 0) (count r 0)) (inverse_call rule (line c)) u v
  unfolding line
  down-inverse =
      each-inverse rule (columns-tile (count c 0) (count r 0)) (sheet-sound sheets.0) (checked-accepted sheets.0)

  along-inverse : (u v : List ℤ) → length u ≡ N → length v ≡ N →
      (run_inverse rule N along u ≡ done v) ↔ EachLine (rows (count c 0) (count r 0)) (inverse_call rule (line r)) u v
  unfolding line
  along-inverse =
      each-inverse rule (rows-tile (count c 0) (count r 0)) (sheet-sound sheets.1) (checked-accepted sheets.1)

  pub two-pass-lines : Gives accepted y (forward_call rule (two_pass c r) x z) ↔ DownThenAlong rule c r x y
  unfolding two_pass
  two-pass-lines =
      let f = forward-run rule (two_pass c r) h x y k z n in (
        λ g. follow-done (length down) (run_forward rule N down x) (run_forward rule N along) y
            (sym (cut-forward rule N down along x) ∙ f.0 g)
            (λ u i j.
            let l = forward-length rule N down x u i ∙ k in
            record { between = u; long = l; down = (down-forward x u k l).0 i; along = (along-forward-lines u y l m).0 j }),
        λ d. f.1
            (cut-forward rule N down along x
            ∙ done-follow (length down) (run_forward rule N along) ((down-forward x d.between k d.long).1 d.down)
            ((along-forward-lines d.between y d.long m).1 d.along)),
      )

  pub two-pass-lines-undone : Gives accepted y (inverse_call rule (two_pass c r) x z) ↔ RowsFirst rule c r x y
  unfolding two_pass
  two-pass-lines-undone =
      let f = inverse-run rule (two_pass c r) h x y k z n in (
        λ g. follow-done (length along) (run_inverse rule N along x) (run_inverse rule N down) y
            (sym (cut-inverse rule N down along x) ∙ f.0 g)
            (λ u i j.
            let l = inverse-length rule N along x u i ∙ k in
            record { between = u; long = l; along = (along-inverse x u k l).0 i; down = (down-inverse u y l m).0 j }),
        λ d. f.1
            (cut-inverse rule N down along x
            ∙ done-follow (length along) (run_inverse rule N down) ((along-inverse x d.between k d.long).1 d.along)
            ((down-inverse d.between y d.long m).1 d.down)),
      )
