-- A TABLE OF STARTS: where each factor of a sheet without fault starts. Only a kind tells how long its factor is, so starts are
-- found factor by factor, as the sheet is read.
use Rattle.std.specs.Prelude.{List, ◌≡◌, refl, ℕ, ◌+◌, ◌≤◌, ◌<◌, ℤ, length, get_or, set}
use Rattle.std.proofs.Common.{sym, ap, ◌∙◌, arith, get_or-set_same, get_or-set_other}
use Rattle.std.proofs.Math.Decide.{ℕ_discrete}
use Rattle.rules.specs.Marks.{Mark}
use Rattle.rules.specs.Numbers.{count}
use Rattle.rules.specs.Sheets.{on, factor}
use Rattle.rules.specs.Answers.{further, start}
use Rattle.laws.specs.Accepted.{Headed, order-ranged, FactorRead, Each, factor-read, factor-next, further-next}
use Rattle.laws.specs.Prefix.{further-most}

-- the first m factors
pub record StartsOfFirst (m : ℕ) (s : List ℤ) (t : List ℕ) : Type 0 where
  pub entry : (f : ℕ) → f < m → get_or t f 0 ≡ start s f

-- all of them
abbrev pub Starts : List ℤ → List ℕ → Type 0
Starts s t = StartsOfFirst (count s 1) s t

starts_more :
    {s : List ℤ} {t : List ℕ} {i : ℕ} (m : ℕ) → m < length t → i ≡ start s m → StartsOfFirst m s t →
    StartsOfFirst (m + 1) s (set t m i)
starts_more {s} {t} {i} m l e h = record { entry = λ f k. go f k (ℕ_discrete f m) }
  where
    go : (f : ℕ) → f < m + 1 → Dec (f ≡ m) → get_or (set t m i) f 0 ≡ start s f
    go f k (yes z) = rw z (get_or-set_same t m i 0 l ∙ e)
    go f k (no q) = get_or-set_other t m f i 0 q ∙ h.entry f (omega arith)

-- ---- factor by factor
-- the first f factors have no fault, the next one starts at i, and the table has where each of them starts
pub record FactorsMet (s : List ℤ) (f i : ℕ) (t : List ℕ) : Type 0 where
  pub each : Each s (count s 0) f 2
  pub next : i ≡ start s f
  pub starts : StartsOfFirst f s t

pub none-met : {s : List ℤ} {t : List ℕ} → FactorsMet s 0 2 t
unfolding further
none-met =
    record { each = λ f l. absurd (omega arith); next = refl; starts = record { entry = λ f l. absurd (omega arith) } }

-- one more, which ends at j
pub one_more :
    {s : List ℤ} {i j : ℕ} {t : List ℕ} (f : ℕ) → f < length t → FactorsMet s f i t → factor s (count s 0) i ≡ on j →
    FactorsMet s (f + 1) j (set t f i)
one_more {s} {i} {j} {t} f l h p =
    let o = factor-read s (count s 0) i (ap (λ (m : Mark). m.number) p) in
    let e = ap (λ (m : Mark). m.place) (sym p ∙ factor-next o) in
    record {
      each = λ g k. go (rw h.next at o) g k (ℕ_discrete g f);
      next = (rw h.next at e) ∙ sym (further-next s (count s 0) 2 f);
      starts = starts_more f l h.next h.starts;
    }
  where
    go : FactorRead s (count s 0) (start s f) → (g : ℕ) → g < f + 1 → Dec (g ≡ f) → FactorRead s (count s 0) (start s g)
    go o g k (yes e) = rw e o
    go o g k (no q) = h.each g (omega arith)

-- the place of the next one fits the table
pub place-low : {s : List ℤ} {f i : ℕ} {t : List ℕ} → Headed s → FactorsMet s f i t → f < 32 → i ≤ 4386
place-low {s} {f} h m l =
    let o = order-ranged h.order in omega (arith, further-most s (count s 0) 2 f o.least o.most, m.next)
