-- THE PROMISES OF STRIPS, OF WHAT CALLS RETURNED: a call whose contract is `GivesStrip a m bs (strip p call x y b)` answered a
-- and left m in the output and bs in the bytes. Over any plan; the crate that owns the calls cites these for both shapes. Assumes
-- nothing.
use Rattle.std.specs.Prelude.{cond, List, ◌++◌, ◌⊎◌, ◌≢◌, ◌≡◌, refl, ℕ, ◌+◌, ◌-◌, ◌*◌, ◌≤◌, ◌<◌, eqb, ℤ, pos, nat_abs, ◌-ℤ◌, ◌*ℤ◌, length, take, drop, get_or, ◌≤ℤ◌}
use Rattle.std.proofs.Common.{append_assoc, sym, ap, ap₂, ◌∙◌, subst, arith, eq-eqb, ne_eqb, length-append, take-append-drop, length-take-le, drop-drop, drop_at}
use Rattle.std.proofs.Math.Decide.{dec_lt, ℕ_discrete}
use Rattle.rules.specs.declared.Answer.{Answer}
use Rattle.rules.specs.Numbers.{unit, at}
use Rattle.rules.specs.declared.Rule.{Rule}
use Rattle.rules.specs.Answers.{accepted}
use Rattle.rules.specs.Calls.{Reply, Gives, Plan, forward_call, inverse_call, allowance_call}
use Rattle.rules.specs.Strips.{StripReply, GivesStrip, block, block_reply, outputs, bytes_of, strip_answer, strip, forward_strip}
use Rattle.rules.specs.Strips.{inverse_strip}
use Rattle.laws.specs.Stated.Strips.{StripGave, changed, StripPromises, BlocksBack, CutBlock}
use Rattle.laws.specs.Stated.Cuts.{farther, in_two, CutLaw}
use Rattle.laws.specs.Stated.Calls.{GoodPlan, E, D, Promises, Accepts}
use Rattle.laws.specs.Returned.{returned-back, returned-there, returned-near, returned-difference}
use Rattle.laws.specs.Strips.{BlockCall, forward-block, inverse-block, StripFits, byte_of_lem, bytes-length, output-of}
use Rattle.laws.specs.Strips.{outputs-length, block-length, block-fits, block-front, strip-fits, strip-accepted}
use Rattle.laws.specs.Strips.{blocks-accepted, strip-ran, strip-found, strip-answer}

-- ---- "the statement about its result leaves one answer and one state of lent memory"
pub one-strip :
    {a c : Answer} {m n : List ℤ} {bs ds : List ℕ} (q : StripReply) → GivesStrip a m bs q → GivesStrip c n ds q →
    (a ≡ c) × (m ≡ n) × (bs ≡ ds)
one-strip q g h = (g.0 ∙ sym h.0, g.1 ∙ sym h.1, g.2 ∙ sym h.2)

module _ (p : Plan) (call : List ℤ → List ℤ → Reply ℤ) (x y : List ℤ) (b : List ℕ) where
  -- "Refused calls leave lent memory untouched"
  pub refused-strip : {a : Answer} {m : List ℤ} {bs : List ℕ} → GivesStrip a m bs (strip p call x y b) → (a.number ≡ 0 → ⊥) →
      (m ≡ y) × (bs ≡ b)
  refused-strip {a} g h =
      let e = strip-found p call x y b (λ z. h (ap (λ (c : Answer). c.number) (g.0 ∙ strip-answer p call x y b) ∙ z)) in
      (g.1 ∙ ap (λ (q : StripReply). q.output) e, g.2 ∙ ap (λ (q : StripReply). q.bytes) e)

module _ {p : Plan} {call : List ℤ → List ℤ → Reply ℤ} (whole : BlockCall p call) {x y m : List ℤ} {b bs : List ℕ}
    (h : StripGave p call x y b m bs) where
  fine : (strip_answer p x y b).number ≡ 0
  fine = ap (λ (a : Answer). a.number) (sym (h.gives.0 ∙ strip-answer p call x y b)) ∙ h.zero

  pub accepted-fits : StripFits p x y b
  accepted-fits = strip-fits p x y b fine

  -- every block, every byte: nothing else is left
  output-is : m ≡ outputs p call (length b) x y
  output-is = h.gives.1 ∙ ap (λ (q : StripReply). q.output) (strip-ran p call x y b fine)

  bytes-are : bs ≡ bytes_of p call (length b) x y
  bytes-are = h.gives.2 ∙ ap (λ (q : StripReply). q.bytes) (strip-ran p call x y b fine)

  pub output-long : length m ≡ length b * p.size
  output-long =
      rw output-is (outputs-length p call whole x y (length b) (omega (arith, accepted-fits.input))
      (omega (arith, accepted-fits.output)))

  pub bytes-long : length bs ≡ length b
  bytes-long = rw bytes-are (bytes-length p call x y (length b))

  module _ (k : ℕ) (l : k < length b) where
    -- "Each block gets its single call's output and, in its byte, the number"
    pub each-block : (block p.size k m ≡ (block_reply p call x y k).memory)
        × (get_or bs k 0 ≡ (block_reply p call x y k).answer.number)
    each-block = (
      rw output-is (output-of p call whole x y (length b) k (omega (arith, accepted-fits.input))
          (omega (arith, accepted-fits.output)) l),
      rw bytes-are (byte_of_lem p call x y (length b) k l),
    )

    -- the same by another word for the size
    each-block-of : (n : ℕ) → p.size ≡ n → (block n k m ≡ (call (block n k x) (block n k y)).memory)
        × (get_or bs k 0 ≡ (call (block n k x) (block n k y)).answer.number)
    each-block-of n e =
        subst (λ (i : ℕ). (block i k m ≡ (call (block i k x) (block i k y)).memory)
        × (get_or bs k 0 ≡ (call (block i k x) (block i k y)).answer.number)) e each-block

    -- a block whose byte is 0: its single call is accepted, so demands 2 and 3 are those of the single call
    pub block-accepts : get_or bs k 0 ≡ 0 → Accepts (block p.size k m) (block_reply p call x y k)
    block-accepts e =
        record { answer = (block_reply p call x y k).answer; gives = (refl, each-block.0); zero = sym each-block.1 ∙ e }

    -- "A block refused for range keeps its part of the output as found"
    pub block-kept : (get_or bs k 0 ≡ 0 → ⊥) → block p.size k m ≡ block p.size k y
    block-kept e = each-block.0 ∙ (whole.keeps _ _).keeps (λ z. e (each-block.1 ∙ z))

    pub input-block : length (block p.size k x) ≡ p.size
    input-block = block-length p.size k x (omega (arith, block-fits k (length b) p.size l, accepted-fits.input))

    pub found-block : length (block p.size k y) ≡ p.size
    found-block = block-length p.size k y (omega (arith, block-fits k (length b) p.size l, accepted-fits.output))

    -- "the number, 0 or 11"
    pub byte-number : (get_or bs k 0 ≡ 0) ⊎ (get_or bs k 0 ≡ 11)
    byte-number = rw each-block.1 (whole.number _ _ accepted-fits.sheets input-block found-block)

-- ---- "Changing one block changes no other block's output or byte"
-- another block stays
other_block : (n j k : ℕ) (u v : List ℤ) → length u ≡ n → j * n + n ≤ length v → k ≢ j → block n k (changed n j u v) ≡ block n k v
other_block n j k u v l f d = split (dec_lt k j)
  where
    front : List ℤ
    front = take (j * n) v

    front_long : length front ≡ j * n
    front_long = length-take-le (j * n) v (omega arith)

    split : Dec (k < j) → block n k (changed n j u v) ≡ block n k v
    split (yes h) =
        let e : k * n + n ≤ length front = omega (arith, block-fits k j n h, front_long) in
        ap (block n k) (append_assoc front u (drop (j * n + n) v))
        ∙ block-front n k front (u ++ drop (j * n + n) v) e
        ∙ sym (block-front n k front (drop (j * n) v) e)
        ∙ ap (block n k) (take-append-drop (j * n) v)
    split (no h) =
        let e : j * n + n + (k * n - (j * n + n)) ≡ k * n = omega (arith, block-fits j k n (omega arith)) in
        let t = k * n - (j * n + n) in
        let w : drop (j * n + n) (changed n j u v) ≡ drop (j * n + n) v = drop_at (front ++ u) (drop (j * n + n) v) (j * n + n)
        (length-append front u ∙ rw (front_long, l)) in
        ap (take n) (rw (← e) (sym (drop-drop t (j * n + n) (changed n j u v)) ∙ ap (drop t) w ∙ drop-drop t (j * n + n) v))

-- a block's output and byte are made of that block alone
pub same_block :
    {p : Plan} {call : List ℤ → List ℤ → Reply ℤ} (whole : BlockCall p call)
    {x y m x' y' m' : List ℤ} {b bs b' bs' : List ℕ} → StripGave p call x y b m bs → StripGave p call x' y' b' m' bs' →
    (k : ℕ) → k < length b → k < length b' → block p.size k x ≡ block p.size k x' →
    block p.size k y ≡ block p.size k y' →
    (block p.size k m ≡ block p.size k m') × (get_or bs k 0 ≡ get_or bs' k 0)
same_block {p} {call} whole {x} {y} {m} {x'} {y'} h g k l i e d =
    let a = each-block whole h k l in
    let c = each-block whole g k i in
    let s : block_reply p call x y k ≡ block_reply p call x' y' k = ap₂ call e d in
    (a.0 ∙ ap (λ (r : Reply ℤ). r.memory) s ∙ sym c.0, a.1 ∙ ap (λ (r : Reply ℤ). r.answer.number) s ∙ sym c.1)

pub change-one :
    {p : Plan} {call : List ℤ → List ℤ → Reply ℤ} (whole : BlockCall p call)
    {x y m m' : List ℤ} {b bs bs' : List ℕ} (j : ℕ) (u : List ℤ) → j < length b → length u ≡ p.size →
    StripGave p call x y b m bs → StripGave p call (changed p.size j u x) y b m' bs' →
    (k : ℕ) → k < length b → k ≢ j → (block p.size k m' ≡ block p.size k m) × (get_or bs' k 0 ≡ get_or bs k 0)
change-one {p} whole {x} j u i l h g k n d =
    same_block whole g h k n n (other_block p.size j k u x l
    (omega (arith, block-fits j _ p.size i, (accepted-fits whole h).input)) d) refl

-- ---- request R-1 of any plan and any single call over it
pub strip-promised : {p : Plan} {call : List ℤ → List ℤ → Reply ℤ} → GoodPlan p → BlockCall p call → StripPromises p call
strip-promised {p} {call} plan whole = record {
  one = λ x y b. one-strip (strip p call x y b);
  refused = refused-strip p call;
  not-refused = λ x y b h l e g. g.0 ∙ strip-answer p call x y b ∙ blocks-accepted p x y b (plan.some h) h l e;
  each = each-block whole;
  long = λ h. (output-long whole h, bytes-long whole h);
  number = byte-number whole;
  kept = block-kept whole;
  others = change-one whole;
}

-- ---- a strip after a strip of as many blocks
-- it is accepted, whatever stands in the slices that it is lent
again-accepted :
    {p : Plan} {call : List ℤ → List ℤ → Reply ℤ} (whole : BlockCall p call) {x y m : List ℤ} {b bs : List ℕ} →
    StripGave p call x y b m bs → (q : Plan) (v z : List ℤ) (d : List ℕ) → q.size ≡ p.size → q.sheets.number ≡ 0 →
    length v ≡ length x → length z ≡ length x → length d ≡ length b →
    strip_answer q v z d ≡ accepted
again-accepted {p} whole h q v z d e f i j k =
    let l = accepted-fits whole h in
    strip-accepted q v z d f (rw (e, i) l.even) (j ∙ sym i) (k ∙ rw (e, i) l.blocks)

gave : (p : Plan) (call : List ℤ → List ℤ → Reply ℤ) (x y : List ℤ) (b : List ℕ) {m : List ℤ} {bs : List ℕ} {a : Answer} →
    GivesStrip a m bs (strip p call x y b) → a ≡ accepted → StripGave p call x y b m bs
gave p call x y b {a = a} g e = record { answer = a; gives = g; zero = ap (λ (c : Answer). c.number) e }

-- what a strip left is as long as its input
same_length :
    {p : Plan} {call : List ℤ → List ℤ → Reply ℤ} (whole : BlockCall p call) {x y m : List ℤ} {b bs : List ℕ} →
    StripGave p call x y b m bs → length m ≡ length x
same_length whole h = output-long whole h ∙ sym (accepted-fits whole h).input

-- a single call that brings back what another took, and so do their strips
module _
    {p : Plan} {call next : List ℤ → List ℤ → Reply ℤ} (whole : BlockCall p call) (after : BlockCall p next)
    (back : (x y z c m : List ℤ) (a : Answer) → length z ≡ p.size → Accepts c (call x y) → Gives a m (next c z) →
    (a ≡ accepted) × (m ≡ x)) where
  strip-returns :
      {x y m u : List ℤ} {b bs ds : List ℕ} {a : Answer} (z : List ℤ) (d : List ℕ) → StripGave p call x y b m bs →
      length z ≡ length x → length d ≡ length b → GivesStrip a u ds (strip p next m z d) →
      (a ≡ accepted) × BlocksBack p.size x bs u ds
  strip-returns {x} {y} {m} {u} {b} {bs} {ds} {a} z d h i j g = (fine, comes)
    where
      fine : a ≡ accepted
      fine =
          g.0 ∙ strip-answer p next m z d
          ∙ again-accepted whole h p m z d refl (accepted-fits whole h).sheets (same_length whole h) i j

      comes : BlocksBack p.size x bs u ds
      comes k l e =
          let o = gave p next m z d g fine in
          let n : k < length b = omega (arith, bytes-long whole h) in
          let t : k < length d = omega arith in
          let each = each-block after o k t in
          let r = back (block p.size k x) (block p.size k y) (block p.size k z) _ _ _ (found-block after o k t)
          (block-accepts whole h k n e) (refl, refl) in
          (each.1 ∙ ap (λ (c : Answer). c.number) r.0, each.0 ∙ r.1)

module _ {rule : Rule} {p : Plan} (promises : Promises rule p) where
  -- demand 2: the inverse strip on what a forward strip left is accepted, whatever it is lent, and each block whose byte is 0
  -- comes back
  pub strip-back :
      {x y m u : List ℤ} {b bs ds : List ℕ} {a : Answer} (z : List ℤ) (d : List ℕ) →
      StripGave p (forward_call rule p) x y b m bs → length z ≡ length x → length d ≡ length b →
      GivesStrip a u ds (inverse_strip rule p m z d) →
      (a ≡ accepted) × BlocksBack p.size x bs u ds
  strip-back =
      strip-returns (forward-block rule p) (inverse-block rule p) (λ x y z c m a. returned-back promises x y z)

  -- and the forward strip on what an inverse strip left
  pub strip-there :
      {x y m u : List ℤ} {b bs ds : List ℕ} {a : Answer} (z : List ℤ) (d : List ℕ) →
      StripGave p (inverse_call rule p) x y b m bs → length z ≡ length x → length d ≡ length b →
      GivesStrip a u ds (forward_strip rule p m z d) →
      (a ≡ accepted) × BlocksBack p.size x bs u ds
  strip-there =
      strip-returns (inverse-block rule p) (forward-block rule p) (λ x y z c m a. returned-there promises x y z)

  -- demand 3: each coefficient of a block whose byte is 0 is within its allowance of the exact product
  pub strip-near :
      {x y m : List ℤ} {b bs : List ℕ} (z : List ℤ) {w : List ℤ} → Accepts w (allowance_call rule p z) →
      StripGave p (forward_call rule p) x y b m bs →
      (k : ℕ) → k < length b → get_or bs k 0 ≡ 0 → (e : ℕ) → e < p.size →
      pos (unit * nat_abs ((pos (D p) *ℤ at (block p.size k m) e) -ℤ at (E p (block p.size k x)) e)) ≤ℤ (pos (D p) *ℤ at w e)
  strip-near {x} {y} z g h k l i =
      returned-near promises (block p.size k x) (block p.size k y) z g (block-accepts (forward-block rule p) h k l i)

  -- and a difference of coefficients within three: block k of three strips, the third the difference of the other two
  pub strip-difference :
      {x₁ x₂ x₃ y₁ y₂ y₃ m₁ m₂ m₃ : List ℤ} {b₁ b₂ b₃ bs₁ bs₂ bs₃ : List ℕ} (z : List ℤ) {w : List ℤ} →
      Accepts w (allowance_call rule p z) →
      StripGave p (forward_call rule p) x₁ y₁ b₁ m₁ bs₁ → StripGave p (forward_call rule p) x₂ y₂ b₂ m₂ bs₂ →
      StripGave p (forward_call rule p) x₃ y₃ b₃ m₃ bs₃ →
      (k : ℕ) → k < length b₁ → k < length b₂ → k < length b₃ → get_or bs₁ k 0 ≡ 0 → get_or bs₂ k 0 ≡ 0 → get_or bs₃ k 0 ≡ 0 →
      ((e : ℕ) → e < p.size → at (block p.size k x₃) e ≡ at (block p.size k x₁) e -ℤ at (block p.size k x₂) e) →
      (e : ℕ) → e < p.size →
      pos (unit * nat_abs ((at (block p.size k m₁) e -ℤ at (block p.size k m₂) e) -ℤ at (block p.size k m₃) e)) ≤ℤ
      (pos 3 *ℤ at w e)
  strip-difference {x₁} {x₂} {x₃} {y₁} {y₂} {y₃} z g h₁ h₂ h₃ k l₁ l₂ l₃ e₁ e₂ e₃ less =
      returned-difference promises (block p.size k x₁) (block p.size k x₂) (block p.size k x₃) z (block p.size k y₁)
      (block p.size k y₂) (block p.size k y₃) less g
      (block-accepts (forward-block rule p) h₁ k l₁ e₁) (block-accepts (forward-block rule p) h₂ k l₂ e₂)
      (block-accepts (forward-block rule p) h₃ k l₃ e₃)

-- ---- the cut law: "a block refused by the first part to run counts as refused"
in-two-number :
    (f : ℕ) (first : Reply ℤ) (second : List ℤ → Reply ℤ) (y : List ℤ) →
    (in_two f first second y).answer.number ≡ cond (eqb first.answer.number 0) (second first.memory).answer.number
    first.answer.number
unfolding in_two farther
in-two-number f first second y =
    split (ℕ_discrete first.answer.number 0) (ℕ_discrete (second first.memory).answer.number 0)
  where
    split :
        Dec (first.answer.number ≡ 0) → Dec ((second first.memory).answer.number ≡ 0) →
        (in_two f first second y).answer.number ≡ cond (eqb first.answer.number 0) (second first.memory).answer.number
        first.answer.number
    split (yes e) (yes d) = rw (eq-eqb _ 0 e, eq-eqb _ 0 d)
    split (yes e) (no d) = rw (eq-eqb _ 0 e, ne_eqb _ 0 d)
    split (no e) d = rw (ne_eqb _ 0 e)

in-two-memory :
    (f : ℕ) (first : Reply ℤ) (second : List ℤ → Reply ℤ) (y : List ℤ) → first.answer.number ≡ 0 →
    (in_two f first second y).memory ≡ (second first.memory).memory
unfolding in_two farther
in-two-memory f first second y e = split (ℕ_discrete (second first.memory).answer.number 0)
  where
    split :
        Dec ((second first.memory).answer.number ≡ 0) → (in_two f first second y).memory ≡ (second first.memory).memory
    split (yes d) = rw (eq-eqb _ 0 e, eq-eqb _ 0 d)
    split (no d) = rw (eq-eqb _ 0 e, ne_eqb _ 0 d)

-- each block, once the parts' strips are known to be accepted
cut-block :
    {rule : Rule} {p front back : Plan} {f : ℕ} → CutLaw rule p front back f → front.size ≡ p.size → back.size ≡ p.size →
    {x y m middle u v : List ℤ} {b bs b₁ bs₁ b₂ bs₂ : List ℕ} →
    StripGave p (forward_call rule p) x y b m bs → StripGave front (forward_call rule front) x middle b₁ u bs₁ →
    StripGave back (forward_call rule back) u y b₂ v bs₂ → (k : ℕ) → k < length b → k < length b₁ → k < length b₂ →
    CutBlock p.size k y m bs bs₁ v bs₂
cut-block {rule} {p} {front} {back} {f} law s t {x} {y} {m} {middle} {u} {v} {b} {bs} {b₁} {bs₁} {b₂} {bs₂} h g₁ g₂ k l k₁ k₂ =
    record {
      byte = bytes.1 ∙ ap (λ (q : Reply ℤ). q.answer.number) same ∙ in-two-number f first second (block p.size k y)
          ∙ rw (first-is.1, then_is.1);
      output = λ e. then_is.0 ∙ sym (bytes.0 ∙ ap (λ (q : Reply ℤ). q.memory) same
          ∙ in-two-memory f first second (block p.size k y) (sym first-is.1 ∙ e));
      kept = λ d. rw t at (block-kept (forward-block rule back) g₂ k k₂ d);
    }
  where
    first : Reply ℤ
    first = forward_call rule front (block p.size k x) (block p.size k middle)

    second : List ℤ → Reply ℤ
    second w = forward_call rule back w (block p.size k y)

    bytes : (block p.size k m ≡ (forward_call rule p (block p.size k x) (block p.size k y)).memory)
        × (get_or bs k 0 ≡ (forward_call rule p (block p.size k x) (block p.size k y)).answer.number)
    bytes = each-block (forward-block rule p) h k l

    first-is : (block p.size k u ≡ first.memory) × (get_or bs₁ k 0 ≡ first.answer.number)
    first-is = each-block-of (forward-block rule front) g₁ k k₁ p.size s

    then_is : (block p.size k v ≡ (second first.memory).memory) × (get_or bs₂ k 0 ≡ (second first.memory).answer.number)
    then_is = rw first-is.0 at (each-block-of (forward-block rule back) g₂ k k₂ p.size t)

    same : forward_call rule p (block p.size k x) (block p.size k y) ≡ in_two f first second (block p.size k y)
    same =
        law.same (block p.size k x) (block p.size k middle) (block p.size k y)
        (input-block (forward-block rule p) h k l) (rw s at (found-block (forward-block rule front) g₁ k k₁))
        (found-block (forward-block rule p) h k l)

-- the cut law of an accepted strip: both its parts' strips are accepted, whatever stands in the slices between
pub strip-cut :
    {rule : Rule} {p front back : Plan} {f : ℕ} → CutLaw rule p front back f → front.size ≡ p.size → back.size ≡ p.size →
    {x y m u v : List ℤ} {b bs bs₁ bs₂ : List ℕ} {a₁ a₂ : Answer} (middle : List ℤ) (b₁ b₂ : List ℕ) →
    StripGave p (forward_call rule p) x y b m bs → length middle ≡ length x → length b₁ ≡ length b → length b₂ ≡ length b →
    GivesStrip a₁ u bs₁ (forward_strip rule front x middle b₁) → GivesStrip a₂ v bs₂ (forward_strip rule back u y b₂) →
    (a₁ ≡ accepted) × (a₂ ≡ accepted) × ((k : ℕ) → k < length b → CutBlock p.size k y m bs bs₁ v bs₂)
strip-cut {rule} {p} {front} {back} {f} law s t {x} {y} {m} {u} {v} {b} {bs} {bs₁} {bs₂} {a₁} {a₂} middle b₁ b₂ h i j₁ j₂ g₁ g₂ =
    (fine₁, fine₂, λ k l. cut-block law s t h front-gave back-gave k l (omega arith) (omega arith))
  where
    whole : BlockCall p (forward_call rule p)
    whole = forward-block rule p

    fine₁ : a₁ ≡ accepted
    fine₁ =
        g₁.0 ∙ strip-answer front (forward_call rule front) x middle b₁
        ∙ again-accepted whole h front x middle b₁ s (ap (λ (a : Answer). a.number) law.first) refl i j₁

    front-gave : StripGave front (forward_call rule front) x middle b₁ u bs₁
    front-gave = gave front (forward_call rule front) x middle b₁ g₁ fine₁

    output-length : length y ≡ length x
    output-length = let l = accepted-fits whole h in l.output ∙ sym l.input

    fine₂ : a₂ ≡ accepted
    fine₂ =
        g₂.0 ∙ strip-answer back (forward_call rule back) u y b₂
        ∙ again-accepted whole h back u y b₂ t (ap (λ (a : Answer). a.number) law.second)
        (same_length (forward-block rule front) front-gave) output-length j₂

    back-gave : StripGave back (forward_call rule back) u y b₂ v bs₂
    back-gave = gave back (forward_call rule back) u y b₂ g₂ fine₂
