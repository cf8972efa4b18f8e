-- The rules that close a goal on whole numbers in a line: `simp lia (omega arith)`. `simp` reads a whole number as a difference
-- of naturals and so turns the goal into one on naturals, which `omega` proves. Assumes nothing.
use Rattle.std.specs.Prelude.{◌≡◌, refl, ◌↔◌, Bool, true, false, not, cond, ℕ, zero, suc, ◌+◌, ◌*◌, ◌-◌, ◌^◌, ◌≤◌, ◌<◌, T, ltb, ℤ, pos, negsuc, neg_ℤ, ◌+ℤ◌, ◌*ℤ◌, nat_abs, ◌≤ℤ◌, ◌<ℤ◌}
use Rattle.std.proofs.Common.{◌∙◌, ap, arith, ltb→lt, lt→ltb, nltb→le, leb→le, le→leb}
use Rattle.std.proofs.Math.IntN.{sub_ℕ, *ℤ_comm}
use Rattle.std.specs.Int.Signed.{le_z, lt_z, mag, lt_z_no, clash_ℤ}
use Rattle.std.specs.Int.{Width}
use mir.Val.{SFits, hbits}

-- the two parts of a number, one of them 0: it is plus - minus
abbrev pub plus : ℤ → ℕ
plus (pos n) = n
plus (negsuc n) = 0

abbrev pub minus : ℤ → ℕ
minus (pos n) = 0
minus (negsuc n) = suc n

-- |z| ≤ B. A record, so that B and z are inferred, and so that `zarith` finds it among what is in reach
pub record Within (B : ℕ) (z : ℤ) : Type 0 where
  pub within : nat_abs z ≤ B

-- ---- orders, equations and operations by the parts
le_parts : (a b : ℤ) → (a ≤ℤ b) ↔ (plus a + minus b ≤ plus b + minus a)
le_parts (pos m) (pos n) = (λ h. omega (arith, leb→le m n h.le), λ h. record { le = le→leb m n (omega arith) })
le_parts (pos m) (negsuc n) = (λ h. absurd h.le, λ h. absurd (omega arith))
le_parts (negsuc m) (pos n) = (λ h. omega arith, λ h. record { le = tt })
le_parts (negsuc m) (negsuc n) = (λ h. omega (arith, leb→le n m h.le), λ h. record { le = le→leb n m (omega arith) })

lt-parts : (a b : ℤ) → (a <ℤ b) ↔ (plus a + minus b < plus b + minus a)
lt-parts (pos m) (pos n) = (λ h. omega (arith, ltb→lt m n h.lt), λ h. record { lt = lt→ltb m n (omega arith) })
lt-parts (pos m) (negsuc n) = (λ h. absurd h.lt, λ h. absurd (omega arith))
lt-parts (negsuc m) (pos n) = (λ h. omega arith, λ h. record { lt = tt })
lt-parts (negsuc m) (negsuc n) = (λ h. omega (arith, ltb→lt n m h.lt), λ h. record { lt = lt→ltb n m (omega arith) })

eq-parts : (a b : ℤ) → plus a + minus b ≡ plus b + minus a → a ≡ b
eq-parts (pos m) (pos n) h = ap pos (omega arith)
eq-parts (pos m) (negsuc n) h = absurd (omega arith)
eq-parts (negsuc m) (pos n) h = absurd (omega arith)
eq-parts (negsuc m) (negsuc n) h = ap negsuc (omega arith)

-- p - q, shut: it never computes
infix 60 ◌⊖◌
pub ◌⊖◌ : ℕ → ℕ → ℤ
p ⊖ q = sub_ℕ p q

parts : (p q : ℕ) → plus (p ⊖ q) + q ≡ p + minus (p ⊖ q)
unfolding ◌⊖◌
parts p q = go (ltb p q) (ltb→lt p q) (nltb→le p q)
  where
    go : (b : Bool) → (T b → p < q) → (T (not b) → q ≤ p) →
        plus (cond b (negsuc (q - suc p)) (pos (p - q))) + q ≡ p + minus (cond b (negsuc (q - suc p)) (pos (p - q)))
    go true f g = omega (arith, f tt)
    go false f g = omega (arith, g tt)

is : (z : ℤ) (p q : ℕ) → plus z + q ≡ p + minus z → z ≡ p ⊖ q
is z p q h = eq-parts z (p ⊖ q) (omega (arith, parts p q))

neg-parts : (z : ℤ) → plus (neg_ℤ z) + plus z ≡ minus z + minus (neg_ℤ z)
neg-parts (pos zero) = refl
neg-parts (pos (suc n)) = omega arith
neg-parts (negsuc n) = omega arith

add_parts : (a b : ℤ) → plus (a +ℤ b) + (minus a + minus b) ≡ (plus a + plus b) + minus (a +ℤ b)
unfolding ◌⊖◌
add_parts (pos m) (pos n) = omega arith
add_parts (pos m) (negsuc n) = omega (arith, parts m (suc n))
add_parts (negsuc m) (pos n) = omega (arith, parts n (suc m))
add_parts (negsuc m) (negsuc n) = omega arith

mul-parts : (a b : ℤ) → plus (a *ℤ b) + (plus a * minus b + minus a * plus b) ≡ (plus a * plus b + minus a * minus b) + minus
    (a *ℤ b)
mul-parts (pos m) (pos n) = omega arith
mul-parts (pos m) (negsuc n) = omega (arith, neg-parts (pos (m * suc n)))
mul-parts (negsuc m) (pos n) = omega (arith, neg-parts (pos (suc m * n)))
mul-parts (negsuc m) (negsuc n) = omega arith

abs-parts : (z : ℤ) (p q : ℕ) → plus z + q ≡ p + minus z → nat_abs z ≡ (p - q) + (q - p)
abs-parts (pos n) p q h = omega arith
abs-parts (negsuc n) p q h = omega arith

mag-parts : (z : ℤ) (p q : ℕ) → plus z + q ≡ p + minus z → mag z ≡ (p - q) + (q - suc p)
mag-parts (pos n) p q h = omega arith
mag-parts (negsuc n) p q h = omega arith

-- ---- marks, shut: a number to be taken apart, and what has been said of it
pub ⟪◌⟫ : ℤ → ℤ
⟪ z ⟫ = z

infix 50 ◌≤ᵈ◌ ◌<ᵈ◌ ◌≡ᵈ◌
pub ◌≤ᵈ◌ : ℤ → ℤ → Type 0
a ≤ᵈ b = a ≤ℤ b

pub ◌<ᵈ◌ : ℤ → ℤ → Type 0
a <ᵈ b = a <ℤ b

pub ◌≡ᵈ◌ : ℤ → ℤ → Type 0
a ≡ᵈ b = a ≡ b

pub absᵈ : ℤ → ℕ
absᵈ z = nat_abs z

pub magᵈ : ℤ → ℕ
magᵈ z = mag z

-- ---- the rules: `m-` sets the mark and moves it inward, `d-` joins differences
pub m-le : (a b : ℤ) → (a ≤ℤ b) ↔ (⟪ a ⟫ ≤ᵈ ⟪ b ⟫)
unfolding ⟪◌⟫ ◌≤ᵈ◌
m-le a b = (λ h. h, λ h. h)

pub m-lt : (a b : ℤ) → (a <ℤ b) ↔ (⟪ a ⟫ <ᵈ ⟪ b ⟫)
unfolding ⟪◌⟫ ◌<ᵈ◌
m-lt a b = (λ h. h, λ h. h)

pub m-eq : (a b : ℤ) → (a ≡ b) ↔ (⟪ a ⟫ ≡ᵈ ⟪ b ⟫)
unfolding ⟪◌⟫ ◌≡ᵈ◌
m-eq a b = (λ h. h, λ h. h)

pub m-abs : (z : ℤ) → nat_abs z ≡ absᵈ ⟪ z ⟫
unfolding ⟪◌⟫ absᵈ
m-abs z = refl

pub m-mag : (z : ℤ) → mag z ≡ magᵈ ⟪ z ⟫
unfolding ⟪◌⟫ magᵈ
m-mag z = refl

pub m-add : (a b : ℤ) → ⟪ a +ℤ b ⟫ ≡ ⟪ a ⟫ +ℤ ⟪ b ⟫
unfolding ⟪◌⟫
m-add a b = refl

pub m-mul : (a b : ℤ) → ⟪ a *ℤ b ⟫ ≡ ⟪ a ⟫ *ℤ ⟪ b ⟫
unfolding ⟪◌⟫
m-mul a b = refl

pub m-neg : (a : ℤ) → ⟪ neg_ℤ a ⟫ ≡ neg_ℤ ⟪ a ⟫
unfolding ⟪◌⟫
m-neg a = refl

pub m-atom : (z : ℤ) → ⟪ z ⟫ ≡ plus z ⊖ minus z
unfolding ⟪◌⟫
m-atom z = is z (plus z) (minus z) refl

pub m-pos : (n : ℕ) → ⟪ pos n ⟫ ≡ n ⊖ 0
m-pos n = m-atom (pos n)

pub m-negsuc : (n : ℕ) → ⟪ negsuc n ⟫ ≡ 0 ⊖ suc n
m-negsuc n = m-atom (negsuc n)

pub d-le : (p q r s : ℕ) → ((p ⊖ q) ≤ᵈ (r ⊖ s)) ↔ (p + s ≤ r + q)
unfolding ◌≤ᵈ◌
d-le p q r s = (
  λ h. omega (arith, parts p q, parts r s, (le_parts (p ⊖ q) (r ⊖ s)).0 h),
  λ h. (le_parts (p ⊖ q) (r ⊖ s)).1
      (omega (arith, parts p q, parts r s)),
)

pub d-lt : (p q r s : ℕ) → ((p ⊖ q) <ᵈ (r ⊖ s)) ↔ (p + s < r + q)
unfolding ◌<ᵈ◌
d-lt p q r s = (
  λ h. omega (arith, parts p q, parts r s, (lt-parts (p ⊖ q) (r ⊖ s)).0 h),
  λ h. (lt-parts (p ⊖ q) (r ⊖ s)).1
      (omega (arith, parts p q, parts r s)),
)

pub d-eq : (p q r s : ℕ) → ((p ⊖ q) ≡ᵈ (r ⊖ s)) ↔ (p + s ≡ r + q)
unfolding ◌≡ᵈ◌
d-eq p q r s = (λ h. omega (arith, parts p q, parts r s, ap plus h, ap minus h), λ h. is (p ⊖ q) r s (omega (arith, parts p q)))

pub d-abs : (p q : ℕ) → absᵈ (p ⊖ q) ≡ (p - q) + (q - p)
unfolding absᵈ
d-abs p q = abs-parts (p ⊖ q) p q (parts p q)

pub d-mag : (p q : ℕ) → magᵈ (p ⊖ q) ≡ (p - q) + (q - suc p)
unfolding magᵈ
d-mag p q = mag-parts (p ⊖ q) p q (parts p q)

pub d-add : (p q r s : ℕ) → (p ⊖ q) +ℤ (r ⊖ s) ≡ (p + r) ⊖ (q + s)
d-add p q r s = is _ _ _ (omega (arith, add_parts (p ⊖ q) (r ⊖ s), parts p q, parts r s))

pub d-neg : (p q : ℕ) → neg_ℤ (p ⊖ q) ≡ q ⊖ p
d-neg p q = is _ _ _ (omega (arith, neg-parts (p ⊖ q), parts p q))

pub d-mul : (p q r s : ℕ) → (p ⊖ q) *ℤ (r ⊖ s) ≡ (p * r + q * s) ⊖ (p * s + q * r)
d-mul p q r s = is _ _ _ (go (p ⊖ q) (r ⊖ s) (parts p q) (parts r s))
  where
    go : (a b : ℤ) → plus a + q ≡ p + minus a → plus b + s ≡ r + minus b →
        plus (a *ℤ b) + (p * s + q * r) ≡ (p * r + q * s) + minus (a *ℤ b)
    go a b e f =
        omega (arith, mul-parts a b, ap (λ x. x * plus b) e, ap (λ x. x * minus b) e, ap (λ x. p * x) f, ap (λ x. q * x) f)

-- ranges and bounds
pub m-fits : (w : Width) (z : ℤ) → SFits w z ↔ (mag z < 2 ^ hbits w)
m-fits w z = (λ h. h.sfits, λ h. record { sfits = h })

pub m-within : (B : ℕ) (z : ℤ) → Within B z ↔ (nat_abs z ≤ B)
m-within B z = (λ h. h.within, λ h. record { within = h })

-- tests of the source, as a branch leaves them
is_true : (b : Bool) → T b → b ≡ true
is_true true t = refl
is_true false t = absurd t

is_false : (b : Bool) → (T b → ⊥) → b ≡ false
is_false true f = absurd (f tt)
is_false false f = refl

pub t-lt : (a b : ℤ) → (lt_z a b ≡ true) ↔ (a <ℤ b)
t-lt a b = (λ e. record { lt = rw e tt }, λ h. is_true (lt_z a b) h.lt)

pub t-nlt : (a b : ℤ) → (lt_z a b ≡ false) ↔ (b ≤ℤ a)
t-nlt a b = (λ e. lt_z_no (rw e tt), λ h. is_false (lt_z a b) (λ t. clash_ℤ (record { lt = t }) h))

pub t-le : (a b : ℤ) → (le_z a b ≡ true) ↔ (a ≤ℤ b)
t-le a b = (λ e. record { le = rw e tt }, λ h. is_true (le_z a b) h.le)

pub t-nle : (a b : ℤ) → (le_z a b ≡ false) ↔ (b <ℤ a)
t-nle a b = (λ e. (lt-parts b a).1 (no e), λ h. is_false (le_z a b) (λ t. clash_ℤ h (record { le = t })))
  where
    no : le_z a b ≡ false → plus b + minus a < plus a + minus b
    no e = let n : ¬ (plus a + minus b ≤ plus b + minus a) = λ k. rw e at ((le_parts a b).1 k).le in omega arith

-- ---- the rule sets. `simp` takes the first rule that fits: a new operation's rule goes before `m-atom`
pub ruleset orders = (m-le, m-lt, m-eq, d-le, d-lt, d-eq, t-lt, t-nlt, t-le, t-nle)

pub ruleset bounds = (m-fits, m-within, m-mag, d-mag, m-abs, d-abs)

pub ruleset linear = (m-add, m-neg, m-pos, m-negsuc, m-atom, d-add, d-neg, d-mul, orders, bounds)

-- linear facts, and ring equations of at most about 3 variables and degree 3
pub ruleset lia = (m-mul, linear)

-- a literal times a number, from either side; a literal that stands last in a product, as `distrib` leaves it, comes out
pub m-scale : (k : ℕ) (z : ℤ) → ⟪ pos k *ℤ z ⟫ ≡ (k ⊖ 0) *ℤ ⟪ z ⟫
m-scale k z = simp (m-mul, m-pos)

pub m-scale' : (k : ℕ) (z : ℤ) → ⟪ z *ℤ pos k ⟫ ≡ (k ⊖ 0) *ℤ ⟪ z ⟫
m-scale' k z = ap ⟪◌⟫ (*ℤ_comm z (pos k)) ∙ m-scale k z

pub m-scale_n : (k : ℕ) (z : ℤ) → ⟪ negsuc k *ℤ z ⟫ ≡ (0 ⊖ suc k) *ℤ ⟪ z ⟫
m-scale_n k z = simp (m-mul, m-negsuc)

pub m-scale_n' : (k : ℕ) (z : ℤ) → ⟪ z *ℤ negsuc k ⟫ ≡ (0 ⊖ suc k) *ℤ ⟪ z ⟫
m-scale_n' k z = ap ⟪◌⟫ (*ℤ_comm z (negsuc k)) ∙ m-scale_n k z

pub lit-out : (x y : ℤ) (k : ℕ) → x *ℤ (y *ℤ pos k) ≡ (x *ℤ y) *ℤ pos k
lit-out x y k = simp lia (omega arith)

pub lit-out_n : (x y : ℤ) (k : ℕ) → x *ℤ (y *ℤ negsuc k) ≡ (x *ℤ y) *ℤ negsuc k
lit-out_n x y k = simp lia (omega arith)

-- the same as `lia`, but a product of two numbers that are no literals is an unknown
pub ruleset lin = (lit-out, lit-out_n, m-scale, m-scale', m-scale_n, m-scale_n', linear)

-- the same as `lia`, but the magnitude of a number that is no sum has no case split: for triangle inequalities.
-- (It forgets that one of the parts is 0, so `nat_abs x ≤ B` from two orders is `lia`'s.)
pub d-abs-atom : (z : ℤ) → absᵈ (plus z ⊖ minus z) ≡ plus z + minus z
d-abs-atom (pos n) = d-abs n 0 ∙ omega arith
d-abs-atom (negsuc n) = d-abs 0 (suc n) ∙ omega arith

pub ruleset lia-abs = (d-abs-atom, lia)

-- ---- rules by which omega reads a hypothesis in reach, its sides variables or literals
pub le_read : {a b : ℤ} → a ≤ℤ b → plus a + minus b ≤ plus b + minus a
le_read {a} {b} = (le_parts a b).0

pub lt-read : {a b : ℤ} → a <ℤ b → plus a + minus b < plus b + minus a
lt-read {a} {b} = (lt-parts a b).0

pub eq-read : {a b : ℤ} → a ≡ b → plus a + minus b ≡ plus b + minus a
eq-read h = omega (arith, ap plus h, ap minus h)

-- (one off at the top: where z < 2 ^ 63 itself is wanted, hand over `simp lia at h`)
pub fits_read : {w : Width} {z : ℤ} → SFits w z → plus z + minus z ≤ 2 ^ hbits w
fits_read {w} {z = pos n} h = omega (arith, h.sfits)
fits_read {w} {z = negsuc n} h = omega (arith, h.sfits)

pub within-read : {B : ℕ} {z : ℤ} → Within B z → plus z + minus z ≤ B
within-read {B} {z = pos n} h = omega (arith, h.within)
within-read {B} {z = negsuc n} h = omega (arith, h.within)

pub lt-yes-read : (a b : ℤ) → lt_z a b ≡ true → plus a + minus b < plus b + minus a
lt-yes-read a b h = lt-read ((t-lt a b).0 h)

pub lt-no-read : (a b : ℤ) → lt_z a b ≡ false → plus b + minus a ≤ plus a + minus b
lt-no-read a b h = le_read ((t-nlt a b).0 h)

pub le-yes-read : (a b : ℤ) → le_z a b ≡ true → plus a + minus b ≤ plus b + minus a
le-yes-read a b h = le_read ((t-le a b).0 h)

pub le-no-read : (a b : ℤ) → le_z a b ≡ false → plus b + minus a < plus a + minus b
le-no-read a b h = lt-read ((t-nle a b).0 h)

pub ruleset zarith = (arith, le_read, lt-read, eq-read, fits_read, within-read, lt-yes-read, lt-no-read, le-yes-read, le-no-read)

-- facts put in front of the goal, for one `simp lia` to read them all: `given₂ h k (simp lia (omega arith))`
pub given₁ : {A G : Type 0} → A → (A → G) → G
given₁ a f = f a

pub given₂ : {A B G : Type 0} → A → B → (A → B → G) → G
given₂ a b f = f a b

pub given₃ : {A B C G : Type 0} → A → B → C → (A → B → C → G) → G
given₃ a b c f = f a b c
