-- A RECTANGLE LAID OUT IN LINES: number m of line l stands at place l + m·16 of a block of 16 by 16. What the block holds, in
-- reading order; and a stage of every line is a stage of the rectangle.
use Rattle.std.specs.Prelude.{Bool, true, false, List, ◌≡◌, refl, ℕ, ◌+◌, ◌*◌, ◌≤◌, ◌<◌, ℤ, pos, replicate}
use Rattle.std.proofs.Math.Path.{sym, ap, ap₂}
use Rattle.std.proofs.Common.{◌∙◌, arith, ext_get_or}
use Rattle.std.proofs.Math.ListN.{length, length-replicate}
use Rattle.rules.specs.declared.Rule.{Rule}
use Rattle.rules.specs.Numbers.{most_order, at}
use Rattle.rules.specs.Factors.{Factor}
use Rattle.rules.specs.Stages.{fill, inside, forward, undo, allow}
use Rattle.rules.specs.Shapes.{line_stage, Lines, pass_stage}
use Rattle.rules.proofs.Laws.SoundFactors.{Sound}
use Rattle.rules.proofs.Laws.Lists.{length-fill, fill-at, fill-past, inside-yes, inside-at}
use Rattle.rules.proofs.Laws.Membership.{true-false}
use Rattle.rules.proofs.Laws.Inverses.{length-forward, length-undo}
use Rattle.rules.proofs.Laws.AllowanceLaw.{length-allow}
use Rattle.rules.proofs.Laws.Passes.{Tiles}
use Rattle.rules.proofs.Laws.Along.{Holds, along-forward, along-allow, along-undo}
use Rattle.factor.specs.declared.run.Task.{Task}
use Rattle.factor.specs.declared.run.Task.TheVariants.{Forward, Inverse, Allowance}
use Rattle.factor.specs.declared.run.Run.{Run}
use Rattle.factor.specs.SumBounds.{Bounded, bounded-fill}
use Rattle.factor.specs.Tasks.{limit_of, stage_by, taken_by}
use Rattle.factor.specs.Steps.{Step, step-goes, step-stops}
use Rattle.joint.specs.Sums.{nothing}
use Rattle.passstage.specs.Lanes.{lane, line_made, Stuck, StageDone}
use Rattle.passstage.specs.LaneLaws.{length-lane, lane-at}

-- where element e of the rectangle stands
abbrev pub place_in : Lines → ℕ → ℕ
place_in r e = r.line e + r.spot e * most_order

-- the N numbers of the rectangle, in reading order
unfoldable pub laid : ℕ → Lines → List ℤ → List ℤ
laid N r b = fill N (λ e. at b (place_in r e)) (replicate N (pos 0))

-- at most 16 lines of at most 16 numbers
pub record Fits (N : ℕ) (r : Lines) : Type 0 where
  pub tiles : Tiles N r
  pub many : r.many ≤ most_order
  pub long : r.long ≤ most_order

-- ---- the lists
pub length-laid : (N : ℕ) (r : Lines) (b : List ℤ) → length (laid N r b) ≡ N
unfolding laid
length-laid N r b = length-fill N _ (replicate N (pos 0)) ∙ length-replicate N (pos 0)

pub laid-at : (N : ℕ) (r : Lines) (b : List ℤ) (e : ℕ) → e < N → at (laid N r b) e ≡ at b (place_in r e)
unfolding laid
laid-at N r b e l = fill-at N _ (replicate N (pos 0)) e l (omega (arith, length-replicate N (pos 0)))

laid-past : (N : ℕ) (r : Lines) (b : List ℤ) (e : ℕ) → N ≤ e → at (laid N r b) e ≡ at (replicate N (pos 0)) e
unfolding laid
laid-past N r b e l = fill-past N _ (replicate N (pos 0)) e l

pub laid-bounded : {B : ℕ} (N : ℕ) (r : Lines) {b : List ℤ} → Bounded B b → Bounded B (laid N r b)
unfolding laid
laid-bounded N r h = bounded-fill N _ (nothing N) (λ e. h.small (place_in r e))

-- ---- a stage
module _ {N : ℕ} {r : Lines} (h : Fits N r) (x : List ℤ) where
  -- each line of the block is that line of the rectangle
  pub laid-holds : (l : ℕ) → l < r.many → Holds r l (laid N r x) (lane l x)
  laid-holds l a = record {
    wide = let k = h.long in omega (arith, length-lane l x);
    each = λ i b.
        let k = h.long in
        let t = h.tiles in
        lane-at l x i (omega arith)
        ∙ sym (laid-at N r x (r.join l i) (t.join-below l i a b)
        ∙ ap₂ (λ (p q : ℕ). at x (p + q * most_order)) (t.line-join l i a b) (t.spot-join l i a b));
  }

  module _ (f : Factor) (s : Sound r.long f) where
    -- what the stage makes of element e, in its own line
    abbrev number_in : Task → Rule → ℕ → ℤ
    number_in task rule e = at (stage_by task rule r.long (line_stage r.long f) (lane (r.line e) x)) (r.spot e)

    whole : {u : List ℤ} (g : ℕ → ℤ) → length u ≡ N → ((e : ℕ) → e < N → at u e ≡ g e) → u ≡ fill N g (replicate N (pos 0))
    whole {u} g l k =
        ext_get_or (pos 0) _ _ (l ∙ sym (length-fill N g (replicate N (pos 0)) ∙ length-replicate N (pos 0)))
        (λ e b. k e (omega arith)
        ∙ sym (fill-at N g (replicate N (pos 0)) e (omega arith) (omega (arith, length-replicate N (pos 0)))))

    room : N ≤ length (laid N r x)
    room = omega (arith, length-laid N r x)

    pub made_by_lem : (task : Task) (rule : Rule) →
        stage_by task rule N (pass_stage r f) (laid N r x) ≡ fill N (number_in task rule) (replicate N (pos 0))
    unfolding stage_by
    made_by_lem Forward rule =
        let t = h.tiles in
        whole _ (length-forward rule N (pass_stage r f) (laid N r x) ∙ length-laid N r x)
        (λ e b.
        ap (at (forward rule N (pass_stage r f) (laid N r x))) (sym (t.join-of e b))
        ∙ sym ((along-forward t f rule s (laid N r x) room (t.line-below e b) (lane (r.line e) x)
        (laid-holds (r.line e) (t.line-below e b))).each (r.spot e) (t.spot-below e b)))
    made_by_lem Inverse rule =
        let t = h.tiles in
        let z = fill N (number_in Inverse rule) (replicate N (pos 0)) in
        let k : length z ≡ N = length-fill N (number_in Inverse rule) (replicate N (pos 0)) ∙ length-replicate N (pos 0) in
        along-undo t f rule s (laid N r x) z room (k ∙ sym (length-laid N r x))
        (λ e b. fill-past N (number_in Inverse rule) (replicate N (pos 0)) e b ∙ sym (laid-past N r x e b))
        (λ l a. record {
          line = lane l x;
          before = laid-holds l a;
          after = record {
            wide = let q = h.long in
                omega (arith, length-undo rule r.long (line_stage r.long f) (lane l x), length-lane l x);
            each = λ i b.
                sym (fill-at N (number_in Inverse rule) (replicate N (pos 0)) (r.join l i) (t.join-below l i a b)
                (omega (arith, length-replicate N (pos 0)))
                ∙ ap₂ (λ (p q : ℕ). at (undo rule r.long (line_stage r.long f) (lane p x)) q) (t.line-join l i a b)
                (t.spot-join l i a b));
          };
        })
    made_by_lem Allowance rule =
        let t = h.tiles in
        whole _ (length-allow rule N (pass_stage r f) (laid N r x) ∙ length-laid N r x)
        (λ e b.
        ap (at (allow rule N (pass_stage r f) (laid N r x))) (sym (t.join-of e b))
        ∙ sym ((along-allow t f rule s (laid N r x) room (t.line-below e b) (lane (r.line e) x)
        (laid-holds (r.line e) (t.line-below e b))).each (r.spot e) (t.spot-below e b)))

    -- EVERY LINE IN BOUND, OR THE RECTANGLE IS NOT
    pub stage-laid : (run : Run) {y : List ℤ} {ok : Bool} → StageDone run r.long f r.many x y ok →
        Step (limit_of run.task) N (taken_by run N (pass_stage r f) (laid N r x)) ok (laid N r y)
    stage-laid run {y} {ok} d = go ok refl
      where
        most : ℕ
        most = limit_of run.task

        new : List ℤ
        new = taken_by run N (pass_stage r f) (laid N r x)

        is : new ≡ fill N (number_in run.task run.rule) (replicate N (pos 0))
        is = made_by_lem run.task run.rule

        new-at : (e : ℕ) → e < N → at new e ≡ number_in run.task run.rule e
        new-at e l = ap (λ (u : List ℤ). at u e) is
            ∙ fill-at N (number_in run.task run.rule) (replicate N (pos 0)) e l (omega (arith, length-replicate N (pos 0)))

        same : ok ≡ true → laid N r y ≡ new
        same o =
            let t = h.tiles in
            let k = h.long in
            whole (number_in run.task run.rule) (length-laid N r y)
            (λ e l.
            laid-at N r y e l ∙ sym (lane-at (r.line e) y (r.spot e) (let b = t.spot-below e l in omega arith))
            ∙ ap (λ (u : List ℤ). at u (r.spot e)) (d.goes o (r.line e) (t.line-below e l)))
            ∙ sym is

        stuck : Stuck run r.long f r.many x → inside most N new ≡ false
        stuck q = split (inside most N new) refl
          where
            split : (b : Bool) → inside most N new ≡ b → inside most N new ≡ false
            split false e = e
            split true e = absurd (true-false fine q.beyond)
              where
                line_at : (i : ℕ) → i < r.long →
                    at new (r.join q.line i) ≡ at (line_made run r.long f (lane q.line x)) i
                line_at i b =
                    let t = h.tiles in
                    new-at (r.join q.line i) (t.join-below q.line i q.below b)
                    ∙ ap₂ (λ (p m : ℕ). at (line_made run r.long f (lane p x)) m) (t.line-join q.line i q.below b)
                    (t.spot-join q.line i q.below b)

                fine : inside most r.long (line_made run r.long f (lane q.line x)) ≡ true
                fine = inside-yes most r.long _
                    (λ i b. rw (line_at i b) at
                    (inside-at most N new e (r.join q.line i) (h.tiles.join-below q.line i q.below b)))

        go : (b : Bool) → ok ≡ b → Step (limit_of run.task) N (taken_by run N (pass_stage r f) (laid N r x)) ok (laid N r y)
        go true o = rw o (step-goes (same o) (laid-bounded N r (d.small o)))
        go false o = rw o (step-stops (stuck (d.stops o)))
