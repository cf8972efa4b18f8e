-- THE MATRIX OF A FACTOR, number by number where it stands in its sheet, and how large its numbers are.
use Rattle.std.specs.Prelude.{Bool, true, false, cond, List, ◌≢◌, ◌≡◌, refl, ℕ, ◌+◌, ◌≤◌, ◌<◌, eqb, ℤ, pos, ◌*ℤ◌, length}
use Rattle.std.proofs.Math.Path.{sym}
use Rattle.std.proofs.Common.{◌∙◌, mul-le-mul, arith}
use Rattle.std.proofs.Math.Decide.{ℕ_discrete}
use borrow.Author.Tests.{eq-eqb, ne_eqb}
use Rattle.whole.specs.Diff.{Within}
use Rattle.whole.specs.Machine.{within-le, within-pos, within-*, sign-within}
use Rattle.whole.specs.Stated.{Sign}
use Rattle.rules.specs.declared.Kind.{Kind}
use Rattle.rules.specs.declared.Kind.TheVariants.{Permutation, Lower, Upper, Single}
use Rattle.rules.specs.Numbers.{most_order, most_entry, unit, at, count}
use Rattle.rules.specs.Sheets.{kind_of}
use Rattle.rules.specs.Factors.{Factor, entries_before, factor_at, has_entry, matrix}
use Rattle.rules.proofs.Laws.SoundFactors.{Sound}
use Rattle.laws.specs.Accepted.{entries_of}
use Rattle.laws.specs.Sound.{factor-sound, sign-seen, entry_seen, entry-inside}
use Rattle.laws.specs.Tests.{triangle-twice}
use Rattle.factor.specs.declared.Layout.{Layout}
use Rattle.factor.specs.Layouts.{row_in, layout_by, layout_at}
use Rattle.offender.specs.RefusedStages.{HasWeights}

-- ---- how many entries a factor has
entries-most : (n : ℕ) (kind : Kind) → n ≤ most_order → entries_of n kind ≤ 256
unfolding entries_of
entries-most n Permutation l = omega arith
entries-most n Lower l = omega (arith, triangle-twice n, mul-le-mul l l)
entries-most n Upper l = omega (arith, triangle-twice n, mul-le-mul l l)
entries-most n Single l = omega arith

pub before-most : (kind : Kind) (n r m k : ℕ) → n ≤ most_order → m < n → k < n → m ≢ k → has_entry kind r m k ≡ true →
    entries_before kind n r m k < 256
before-most kind n r m k o l b d h = omega (arith, entry-inside kind n r m k l b d h, entries-most n kind o)

-- a column right of the single row's diagonal is not the first
pub past-diagonal : (m r k : ℕ) → m ≡ r → m ≢ k → r ≤ k → 1 ≤ k
past-diagonal m r k e d l = omega arith

-- ---- only kind 4 looks at its row
has-alike : (kind : Kind) (s : List ℤ) (i m k : ℕ) → has_entry kind (row_in kind s i) m k ≡ has_entry kind (count s (i + 1)) m k
unfolding has_entry row_in
has-alike Permutation s i m k = refl
has-alike Lower s i m k = refl
has-alike Upper s i m k = refl
has-alike Single s i m k = refl

before-alike : (kind : Kind) (s : List ℤ) (n i m k : ℕ) →
    entries_before kind n (row_in kind s i) m k ≡ entries_before kind n (count s (i + 1)) m k
unfolding entries_before row_in
before-alike Permutation s n i m k = refl
before-alike Lower s n i m k = refl
before-alike Upper s n i m k = refl
before-alike Single s n i m k = refl

-- ---- the numbers of the factor at i, by its layout
module _ {s : List ℤ} {n i : ℕ} (w : HasWeights s n i) {f : Layout} (e : f ≡ layout_at s n i) where
  pub sign-there : (m : ℕ) → m < n → f.signs + m < length s
  unfolding layout_at layout_by
  sign-there m l = rw e (sign-seen w.read w.weighs m l).there

  pub sign_at_lem : (m : ℕ) → at s (f.signs + m) ≡ (factor_at s n i).sign m
  unfolding layout_at layout_by factor_at
  sign_at_lem m = rw e

  pub sign-is : (m : ℕ) → m < n → Sign ((factor_at s n i).sign m)
  unfolding factor_at
  sign-is m l = (factor-sound w.read).signs w.weighs m l

  pub on-diagonal : (m k : ℕ) → m ≡ k → pos unit *ℤ at s (f.signs + m) ≡ matrix (factor_at s n i) m k
  unfolding matrix
  on-diagonal m k q = rw (sign_at_lem m, eq-eqb m k q)

  module _ (m k : ℕ) (d : m ≢ k) where
    pub no-entry : has_entry f.kind f.row m k ≡ false → pos 0 ≡ matrix (factor_at s n i) m k
    unfolding layout_at layout_by factor_at matrix
    no-entry h =
        rw (ne_eqb m k d, sym (has-alike (kind_of (count s i)) s i m k) ∙ (rw e at h))

    pub entry-there : m < n → k < n → has_entry f.kind f.row m k ≡ true →
        f.entries + entries_before f.kind n f.row m k < length s
    unfolding layout_at layout_by
    entry-there l b h =
        rw (e, before-alike (kind_of (count s i)) s n i m k)
        (entry_seen w.read m k l b d (sym (has-alike (kind_of (count s i)) s i m k) ∙ (rw e at h))).there

    pub entry_at_lem : has_entry f.kind f.row m k ≡ true →
        at s (f.entries + entries_before f.kind n f.row m k) ≡ matrix (factor_at s n i) m k
    unfolding layout_at layout_by factor_at matrix
    entry_at_lem h =
        rw (
          e,
          ne_eqb m k d,
          sym (has-alike (kind_of (count s i)) s i m k) ∙ (rw e at h),
          before-alike (kind_of (count s i)) s n i m k,
        )

-- ---- how large they are
small : (n : ℕ) (f : Factor) → Sound n f → f.kind ≢ Permutation → (m k : ℕ) → m < n → k < n → Within most_entry (matrix f m k)
unfolding matrix
small n f s q m k l b = go (ℕ_discrete m k) (has_entry f.kind f.row m k) refl
  where
    go : Dec (m ≡ k) → (t : Bool) → has_entry f.kind f.row m k ≡ t →
        Within most_entry
        (cond (eqb m k) (pos unit *ℤ f.sign m) (cond (has_entry f.kind f.row m k) (f.entry m k) (pos 0)))
    go (yes e) t h = rw (eq-eqb m k e) (within-le (omega arith) (within-* (within-pos unit) (sign-within (s.signs q m l))))
    go (no e) true h = rw (ne_eqb m k e, h) (s.entries m k l b e h)
    go (no e) false h = rw (ne_eqb m k e, h) (within-le (omega arith) (within-pos 0))

pub matrix-small : {s : List ℤ} {n i : ℕ} → HasWeights s n i → (m k : ℕ) → m < n → k < n →
    Within most_entry (matrix (factor_at s n i) m k)
matrix-small {s} {n} {i} w = small n (factor_at s n i) (factor-sound w.read) (unfold factor_at in w.weighs)
