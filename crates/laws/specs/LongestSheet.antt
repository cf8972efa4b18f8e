-- "The longest sheet has 4386 numbers": a sheet of that length is accepted. (`accepted-length` says that none is longer.)
-- To compute the check of so many numbers takes a minute. So it is proved, of every factor at once.
-- Assumes nothing.
use Rattle.std.specs.Prelude.{List, ◌≡◌, refl, ℕ, zero, suc, ◌+◌, ◌*◌, ◌≤◌, ◌<◌, ℤ, pos, length}
use Rattle.std.proofs.Common.{sym, ap, ◌∙◌, arith, length-append, get_or-append-add}
use Rattle.std.proofs.lemmas.List.{get_or-replicate}
use Rattle.std.proofs.Math.ListN.{get_or-append}
use Rattle.rules.specs.declared.Item.TheVariants.{Order, Count, KindNumber, Sign, Entry}
use Rattle.rules.specs.Numbers.{most_order, most_count, at}
use Rattle.rules.specs.Sheets.{fault_of, kind_of, triangle}
use Rattle.rules.specs.Factors.{numbers, signs_at}
use Rattle.rules.specs.Answers.{accepted, checked, further}
use Rattle.laws.specs.Stated.Longest.{again, lower_factor, longest_sheet}
use Rattle.laws.specs.Readers.{one-fine}
use Rattle.laws.specs.Accepted.{stretch-of, entries_of, never, FactorRead, checked-accepted}
use Rattle.laws.specs.Prefix.{longest_factor}

length-again : (n : ℕ) (v : List ℤ) → length (again n v) ≡ n * length v
unfolding again
length-again zero v = omega arith
length-again (suc n) v = rw (length-append v (again n v), length-again n v) (omega arith)

at_again : (n : ℕ) (v : List ℤ) (f k : ℕ) → f < n → k < length v → at (again n v) (f * length v + k) ≡ at v k
unfolding again
at_again zero v f k l h = absurd (omega arith)
at_again (suc n) v zero k l h =
    let e : 0 * length v + k ≡ k = omega arith in
    rw e (get_or-append v (again n v) (pos 0) k h)
at_again (suc n) v (suc f) k l h =
    let e : suc f * length v + k ≡ length v + (f * length v + k) = omega arith in
    rw e (get_or-append-add v (again n v) (f * length v + k) (pos 0) ∙ at_again n v f k (omega arith) h)

-- ---- a factor of order 16 with the number 2 and then 136 times 1
lower-read : (s : List ℤ) (i : ℕ) → i + longest_factor ≤ length s → at s i ≡ pos 2 →
    ((k : ℕ) → k < 136 → at s (i + 1 + k) ≡ pos 1) → FactorRead s most_order i
unfolding fault_of kind_of entries_of signs_at triangle
lower-read s i room kind ones = record {
  kind = one-fine s KindNumber i (omega arith) (rw kind);
  body = rw kind (record {
    places = λ e. never (cc);
    row = λ e. never (cc);
    weights = λ e. record {
      signs = stretch-of s Sign 16 (i + 1) (λ k l. one-fine s Sign (i + 1 + k) (omega arith) (rw (ones k (omega arith))));
      entries = stretch-of s Entry 120 (i + 1 + 16)
          (λ k l.
          let e : i + 1 + 16 + k ≡ i + 1 + (16 + k) = omega arith in
          one-fine s Entry (i + 1 + 16 + k) (omega arith) (rw (e, ones (16 + k) (omega arith))));
    };
  });
}

-- m such factors stand side by side
lower-further : (s : List ℤ) (m : ℕ) → ((f : ℕ) → f < m → at s (2 + f * longest_factor) ≡ pos 2) →
    (f : ℕ) → f ≤ m → further s most_order 2 f ≡ 2 + f * longest_factor
unfolding further kind_of numbers triangle
lower-further s m kind zero l = refl
lower-further s m kind (suc f) l =
    rw (lower-further s m kind f (omega arith), kind f (omega arith)) (omega arith)

-- ---- the sheet
pub longest-length : length longest_sheet ≡ 4386
longest-length = ap (λ (n : ℕ). suc (suc n)) (length-again most_count lower_factor)

at-factor : (f k : ℕ) → f < most_count → k < longest_factor → at longest_sheet (2 + f * longest_factor + k) ≡ at lower_factor k
at-factor f k l h =
    let e : 2 + f * longest_factor + k ≡ suc (suc (f * longest_factor + k)) = omega arith in
    rw e (at_again most_count lower_factor f k l h)

kind_at : (f : ℕ) → f < most_count → at longest_sheet (2 + f * longest_factor) ≡ pos 2
kind_at f l =
    let e : 2 + f * longest_factor ≡ 2 + f * longest_factor + 0 = omega arith in
    rw e (at-factor f 0 l (omega arith))

one_at : (f k : ℕ) → f < most_count → k < 136 → at longest_sheet (2 + f * longest_factor + 1 + k) ≡ pos 1
one_at f k l h =
    let e : 2 + f * longest_factor + 1 + k ≡ 2 + f * longest_factor + suc k = omega arith in
    rw e (at-factor f (suc k) l (omega arith) ∙ get_or-replicate 136 k (pos 1) (pos 0) h)

pub longest-accepted : checked longest_sheet ≡ accepted
unfolding fault_of
longest-accepted = checked-accepted (record {
  head = record {
    order = one-fine longest_sheet Order 0 (omega (arith, longest-length)) refl;
    count = one-fine longest_sheet Count 1 (omega (arith, longest-length)) refl;
  };
  each = λ f l. rw (lower-further longest_sheet most_count kind_at f (omega arith))
      (lower-read longest_sheet (2 + f * longest_factor) (omega (arith, longest-length)) (kind_at f l) (λ k h. one_at f k l h));
  end = lower-further longest_sheet most_count kind_at most_count (omega arith) ∙ sym longest-length;
})
