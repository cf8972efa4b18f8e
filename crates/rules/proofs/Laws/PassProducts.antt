-- R-4: THE EXACT PRODUCT OF A PASS is that of each of its lines.
use Rattle.std.specs.Prelude.{List, [], ◌∷◌, ◌++◌, ◌≡◌, ℕ, ◌≤◌, ◌<◌, ℤ, ◌+ℤ◌, length}
use Rattle.std.proofs.Math.Path.{refl, sym, ap, ap₂}
use Rattle.std.proofs.Common.{◌∙◌, arith}
use Rattle.std.proofs.Math.IntN.{pos, ◌*ℤ◌}
use Rattle.rules.specs.declared.Kind.TheVariants.{Permutation}
use Rattle.rules.specs.Numbers.{unit, at}
use Rattle.rules.specs.Factors.{Factor, matrix}
use Rattle.rules.specs.Stages.{Stage, move, weigh, exact, through, exact_product}
use Rattle.rules.specs.Shapes.{line_stage, line_stages, Lines, pass_source, pass_sign, pass_weight, pass_stage, pass_stages}
use Rattle.rules.proofs.Laws.SoundFactors.{Sound, AllSound}
use Rattle.rules.proofs.Laws.Lists.{fill-at}
use Rattle.rules.proofs.Laws.AllowanceLaw.{length-exact}
use Rattle.rules.proofs.Laws.Kinds.{by_kind, stage-moves, stage-weighs}
use Rattle.rules.proofs.Laws.Passes.{Tiles}
use Rattle.rules.proofs.Laws.Along.{Holds, source-at, sign_at_lem, along-sum}

module _ {N : ℕ} {r : Lines} (t : Tiles N r) {l : ℕ} (a : l < r.many) where
  -- one factor, along a line that u holds
  module _ (f : Factor) (s : Sound r.long f) (v : List ℤ) (room : N ≤ length v) (u : List ℤ) (h : Holds r l v u) where
    moved : (i : ℕ) → i < r.long → f.kind ≡ Permutation →
        at (exact r.long (move unit f.place) u) i ≡ at (exact N (move unit (pass_source r f)) v) (r.join l i)
    unfolding exact
    moved i b q =
        fill-at r.long _ u i b h.wide
        ∙ ap (λ (z : ℤ). pos unit *ℤ z) (h.each (f.place i) ((s.places q).below i b))
        ∙ sym
        (fill-at N _ v (r.join l i) (t.join-below l i a b) room
        ∙ ap (λ (k : ℕ). pos unit *ℤ at v k) (source-at t f a b))

    weighs-alike : (i : ℕ) → i < r.long → (o k : List ℕ) →
        at (exact r.long (weigh unit f.sign (matrix f) o) u) i
        ≡ at (exact N (weigh unit (pass_sign r f) (pass_weight r f) k) v) (r.join l i)
    unfolding exact
    weighs-alike i b o k =
        fill-at r.long _ u i b h.wide
        ∙ sym
        (fill-at N _ v (r.join l i) (t.join-below l i a b) room
        ∙ ap₂ (λ (x z : ℤ). (pos unit *ℤ x) +ℤ z) (ap₂ ◌*ℤ◌ (sign_at_lem t f a b) (sym (h.each i b)))
        (along-sum t f a b (λ z. z) refl v u h))

    along-exact : Holds r l (exact N (pass_stage r f) v) (exact r.long (line_stage r.long f) u)
    unfolding line_stage pass_stage
    along-exact = record {
      wide = let w = h.wide in omega (arith, length-exact r.long (line_stage r.long f) u);
      each = λ i b.
          by_kind (λ z. at (exact r.long z u) i ≡ at (exact N (pass_stage r f) v) (r.join l i)) f.kind _ _
          (λ q. moved i b q ∙ ap (λ (z : Stage). at (exact N z v) (r.join l i)) (sym (stage-moves f.kind _ _ q)))
          (λ q. weighs-alike i b _ _ ∙ ap (λ (z : Stage). at (exact N z v) (r.join l i)) (sym (stage-weighs f.kind _ _ q)));
    }

  -- and all the factors of a sheet
  pub along-product : {fs : List Factor} → AllSound r.long fs → (v : List ℤ) → N ≤ length v → (u : List ℤ) → Holds r l v u →
      Holds r l (exact_product N (pass_stages r fs) v) (exact_product r.long (line_stages r.long fs) u)
  unfolding exact_product through pass_stages line_stages
  along-product AllSound.none v room u h = h
  along-product (AllSound.more {f} {fs} s q) v room u h =
      along-product q _ (omega (arith, length-exact N (pass_stage r f) v)) _ (along-exact f s v room u h)

-- one pass after another
pub product-append : (N : ℕ) (ss us : List Stage) (x : List ℤ) →
    exact_product N (ss ++ us) x ≡ exact_product N us (exact_product N ss x)
unfolding exact_product through
product-append N [] us x = refl
product-append N (s ∷ ss) us x = product-append N ss us (exact N s x)
