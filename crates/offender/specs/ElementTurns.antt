-- THE TURN OF AN ELEMENT, from the layouts of its factors: a line, a rectangle, a pass.
use Rattle.std.specs.Prelude.{Bool, cond, List, ◌≡◌, refl, ℕ, ◌+◌, ◌*◌, ◌/◌, ◌%◌, ◌<◌, eqb, ℤ}
use Rattle.std.proofs.Common.{sym, ◌∙◌}
use Rattle.rules.specs.declared.Kind.{Kind}
use Rattle.rules.specs.declared.Kind.TheVariants.{Permutation, Lower, Upper, Single}
use Rattle.rules.specs.Numbers.{count}
use Rattle.rules.specs.Sheets.{kind_of}
use Rattle.rules.specs.Factors.{Factor, factor_at}
use Rattle.rules.specs.Shapes.{turn, in_row, joint_shared, pass_turn}
use Rattle.rules.proofs.Laws.Kinds.{line-ranked}
use Rattle.laws.specs.Accepted.{FactorRead}
use Rattle.factor.specs.declared.Layout.{Layout}
use Rattle.factor.specs.LayoutInSheet.{Paired}
use Rattle.factor.specs.Layouts.{row_in, layout_by, layout_at}
use Rattle.factor.specs.PassLines.{lines_long}
use Rattle.offender.specs.declared.weights.Refused.{Refused}
use Rattle.offender.specs.RefusedStages.{lines}

-- only kind 4 looks at what an element shares, and it has its row in the sheet
turn-alike : (kind : Kind) (N e : ℕ) {a b : ℕ} → (kind ≡ Single → a ≡ b) → turn kind N a e ≡ turn kind N b e
unfolding turn
turn-alike Permutation N e h = refl
turn-alike Lower N e h = refl
turn-alike Upper N e h = refl
turn-alike Single N e h = h refl

single-row : {kind : Kind} (s : List ℤ) (i : ℕ) → kind ≡ Single → row_in kind s i ≡ count s (i + 1)
unfolding row_in
single-row s i z = rw z

-- as the code finds it
pub line-turn : {s : List ℤ} {n i : ℕ} → FactorRead s n i → {f : Layout} → f ≡ layout_at s n i → (m : ℕ) →
    turn f.kind n (cond (eqb m f.row) 1 0) m ≡ turn (kind_of (count s i)) n (in_row (factor_at s n i) m) m
unfolding layout_at layout_by factor_at in_row
line-turn {s} {n} {i} p e m = rw e (turn-alike (kind_of (count s i)) n m (λ z. rw (single-row s i z)))

pub joint-turn :
    {c r : List ℤ} {n1 n2 i j : ℕ} → Paired c r n1 n2 i j → {f g : Layout} → f ≡ layout_at c n1 i → g ≡ layout_at r n2 j → (e : ℕ) →
    turn f.kind (n1 * n2) (cond (eqb (e / n2) f.row) 1 0 + 2 * cond (eqb (e % n2) g.row) 1 0) e
    ≡ turn (kind_of (count c i)) (n1 * n2) (joint_shared n1 n2 (factor_at c n1 i) (factor_at r n2 j) e) e
unfolding layout_at layout_by factor_at in_row joint_shared
joint-turn {c} {r} {n1} {n2} {i} {j} p a b e =
    rw (a, b) (turn-alike (kind_of (count c i)) (n1 * n2) e (λ z. rw (single-row c i z, single-row r j (sym p.match ∙ z))))

pub pass-turn : (q : Refused) (down : Bool) (f : Factor) (e : ℕ) →
    let r = lines q down in
    r.line e * (q.n1 + 4) + turn f.kind q.n1 (in_row f (r.spot e)) (r.spot e) ≡ pass_turn r f e
unfolding pass_turn
pass-turn q down f e = rw (lines_long down q.n2 q.n1)

-- no turn of a line is later than n + 3
pub turn-most : (s : List ℤ) (n i m : ℕ) → m < n → turn (kind_of (count s i)) n (in_row (factor_at s n i) m) m < n + 4
turn-most s n i m l = unfold factor_at in (line-ranked n (factor_at s n i)).top m l
