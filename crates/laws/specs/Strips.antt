-- WHAT A STRIP HAS, block by block: over any plan and any call whose output is a block again. What an accepted strip tells, and
-- how the strip grows by a block. Assumes nothing.
use mathlib.Core.List.{List, [], ◌∷◌, ◌++◌}
use Rattle.std.specs.Prelude.{◌⊎◌, ◌≡◌, ℤ, length, take, drop}
use Rattle.std.proofs.Common.{inl, inr, ap, ◌∙◌, div-add-mod', mul-le-mul_right, zero-mul, mul-div_cancel, add-one, eq-eqb, ne_eqb, length-drop, length-take-le, drop_at, take_all}
use Rattle.std.proofs.Math.Path.{refl, sym}
use Prim.Native.Nat.{ℕ, zero, suc, ◌+◌, ◌*◌, ◌/◌, ◌%◌, ◌≤◌, ◌<◌}
use Rattle.std.proofs.Math.Decide.{ℕ_discrete, dec_lt}
use Rattle.std.proofs.Math.Nat.{suc-mul, mul-mod_left}
use native.Mathlib.Omega.{arith}
use Rattle.std.proofs.lemmas.Bool.{lt-leb}
use Rattle.std.proofs.Math.ListN.{get_or, length-append, get_or-append}
use Rattle.std.proofs.lemmas.List.{take-append-le, drop-append-le, get_or_at}
use Rattle.rules.specs.declared.Rule.{Rule}
use Rattle.rules.specs.Stages.{Ran, done, beyond, run_forward, run_inverse}
use Rattle.rules.specs.Answers.{accepted, refused, ◌or_else◌}
use Rattle.rules.specs.Calls.{Reply, reply, Plan, under, sized, ran_answer, run_reply, forward_call, inverse_call}
use Rattle.rules.specs.Strips.{StripReply, GivesStrip, block, in_blocks, block_reply, outputs, bytes_of, strip_answer, strip}
use Rattle.laws.specs.Accepted.{both-fine}
use Rattle.laws.specs.Plans.{run-ready, sized-fine, sized-is, forward-length, inverse-length, forward-gives, inverse-gives}
use Rattle.laws.specs.Plans.{forward-accepted, inverse-accepted}
use Rattle.laws.specs.Stated.Calls.{Keeps}
use Rattle.laws.specs.Promises.{forward-keeps, inverse-keeps}

-- ---- single calls, and what a strip over a plan asks of them
pub record BlockCall (p : Plan) (call : List ℤ → List ℤ → Reply ℤ) : Type 0 where
  -- a block for a block
  pub long : (x y : List ℤ) → length x ≡ p.size → length y ≡ p.size → length (call x y).memory ≡ p.size
  -- a block that is refused keeps its part of the output
  pub keeps : (x y : List ℤ) → Keeps (call x y) y
  -- "the number, 0 or 11"
  pub number :
      (x y : List ℤ) → p.sheets.number ≡ 0 → length x ≡ p.size → length y ≡ p.size →
      ((call x y).answer.number ≡ 0) ⊎ ((call x y).answer.number ≡ 11)

ran-number : (r : Ran) → ((ran_answer 11 r).number ≡ 0) ⊎ ((ran_answer 11 r).number ≡ 11)
unfolding ran_answer
ran-number (done v) = inl refl
ran-number (beyond s e) = inr refl

run-number :
    (p : Plan) (ran : Ran) (x y : List ℤ) → p.sheets.number ≡ 0 → length x ≡ p.size → length y ≡ p.size →
    ((run_reply p ran x y).answer.number ≡ 0) ⊎ ((run_reply p ran x y).answer.number ≡ 11)
unfolding reply
run-number p ran x y h l m = rw (run-ready p ran x y h l m) (ran-number ran)

-- a call that is a run, whose coefficients or samples are as many as its numbers
run_call :
    {p : Plan} {call : List ℤ → List ℤ → Reply ℤ} (run : List ℤ → Ran) → ((x y : List ℤ) → call x y ≡ run_reply p (run x) x y) →
    ((x y : List ℤ) → Keeps (call x y) y) →
    ((x y : List ℤ) → (call x y).answer.number ≡ 0 → length (call x y).memory ≡ length x) → BlockCall p call
run_call {p} {call} run is kept fills = record {
  long = λ x y l m. split x y l m (ℕ_discrete (call x y).answer.number 0);
  keeps = kept;
  number = λ x y h l m. rw (is x y) (run-number p (run x) x y h l m);
}
  where
    split :
        (x y : List ℤ) → length x ≡ p.size → length y ≡ p.size → Dec ((call x y).answer.number ≡ 0) →
        length (call x y).memory ≡ p.size
    split x y l m (yes h) = fills x y h ∙ l
    split x y l m (no h) = ap length ((kept x y).keeps h) ∙ m

module _ (rule : Rule) (p : Plan) where
  pub forward-block : BlockCall p (forward_call rule p)
  unfolding forward_call
  forward-block =
      run_call (run_forward rule p.size p.stages) (λ x y. refl) (forward-keeps rule p)
      (λ x y h. forward-length rule p.size p.stages x _
      ((forward-gives rule p x y _).0 (forward-accepted rule p x y h)).1.gives)

  pub inverse-block : BlockCall p (inverse_call rule p)
  unfolding inverse_call
  inverse-block =
      run_call (run_inverse rule p.size p.stages) (λ x y. refl) (inverse-keeps rule p)
      (λ x y h. inverse-length rule p.size p.stages x _
      ((inverse-gives rule p x y _).0 (inverse-accepted rule p x y h)).1.gives)

-- ---- blocks
-- a block before the m-th ends there at the latest
pub block-fits : (k m n : ℕ) → k < m → k * n + n ≤ m * n
block-fits k m n h = omega (arith, mul-le-mul_right n h, suc-mul k n)

pub block-length : (n k : ℕ) (v : List ℤ) → k * n + n ≤ length v → length (block n k v) ≡ n
block-length n k v h = length-take-le n (drop (k * n) v) (omega (arith, length-drop (k * n) v))

-- a block that lies in the first of two lists
pub block-front : (n k : ℕ) (v w : List ℤ) → k * n + n ≤ length v → block n k (v ++ w) ≡ block n k v
block-front n k v w h =
    ap (take n) (drop-append-le (k * n) v w (omega arith))
    ∙ take-append-le n (drop (k * n) v) w (omega (arith, length-drop (k * n) v))

module _ (p : Plan) (call : List ℤ → List ℤ → Reply ℤ) where
  pub bytes-length : (x y : List ℤ) (k : ℕ) → length (bytes_of p call k x y) ≡ k
  unfolding bytes_of
  bytes-length x y zero = refl
  bytes-length x y (suc k) = length-append (bytes_of p call k x y) _ ∙ rw (bytes-length x y k) (add-one k)

  -- byte j of k is the number of the single call on block j
  pub byte_of_lem : (x y : List ℤ) (k j : ℕ) → j < k → get_or (bytes_of p call k x y) j 0 ≡ (block_reply p call x y j).answer.number
  unfolding bytes_of
  byte_of_lem x y zero j h = absurd (omega arith)
  byte_of_lem x y (suc k) j h = split (dec_lt j k) (byte_of_lem x y k j)
    where
      split :
          Dec (j < k) → (j < k → get_or (bytes_of p call k x y) j 0 ≡ (block_reply p call x y j).answer.number) →
          get_or (bytes_of p call k x y ++ ((block_reply p call x y k).answer.number ∷ [])) j 0 ≡ (block_reply p call x y
          j).answer.number
      split (yes l) before = get_or-append (bytes_of p call k x y) _ 0 j (rw (bytes-length x y k) l) ∙ before l
      split (no l) before = let e : k ≡ j = omega arith in rw (← e) (get_or_at (bytes_of p call k x y) _ [] 0 k (bytes-length x y k))

  module _ (whole : BlockCall p call) (x y : List ℤ) where
    -- k blocks lie end to end
    pub outputs-length : (k : ℕ) → k * p.size ≤ length x → k * p.size ≤ length y → length (outputs p call k x y) ≡ k * p.size
    unfolding outputs
    outputs-length zero h g = sym (zero-mul p.size)
    outputs-length (suc k) h g =
        let e = suc-mul k p.size in
        let l = whole.long (block p.size k x) (block p.size k y) (block-length p.size k x (omega arith))
        (block-length p.size k y (omega arith)) in
        length-append (outputs p call k x y) _ ∙ rw (outputs-length k (omega arith) (omega arith), l) (sym e)

    -- block j of k is the output of the single call on block j
    pub output-of :
        (k j : ℕ) → k * p.size ≤ length x → k * p.size ≤ length y → j < k →
        block p.size j (outputs p call k x y) ≡ (block_reply p call x y j).memory
    unfolding outputs
    output-of zero j h g l = absurd (omega arith)
    output-of (suc k) j h g l =
        split (dec_lt j k) (output-of k j (omega (arith, suc-mul k p.size)) (omega (arith, suc-mul k p.size)))
      where
        e : suc k * p.size ≡ k * p.size + p.size
        e = suc-mul k p.size

        front : length (outputs p call k x y) ≡ k * p.size
        front = outputs-length k (omega (arith, e)) (omega (arith, e))

        last : length (block_reply p call x y k).memory ≡ p.size
        last = whole.long _ _ (block-length p.size k x (omega (arith, e))) (block-length p.size k y (omega (arith, e)))

        split :
            Dec (j < k) → (j < k → block p.size j (outputs p call k x y) ≡ (block_reply p call x y j).memory) →
            block p.size j (outputs p call k x y ++ (block_reply p call x y k).memory) ≡ (block_reply p call x y j).memory
        split (yes i) before =
            block-front p.size j (outputs p call k x y) _ (omega (arith, front, block-fits j k p.size i)) ∙ before i
        split (no i) before =
            let q : k ≡ j = omega arith in
            rw (← q) (ap (take p.size) (drop_at (outputs p call k x y) _ (k * p.size) front)
            ∙ take_all p.size _ (omega (arith, last)))

-- ---- the answer
-- what an accepted strip tells of its sheets and lengths
pub record StripFits (p : Plan) (x y : List ℤ) (b : List ℕ) : Type 0 where
  pub sheets : p.sheets.number ≡ 0
  pub even : length x % p.size ≡ 0
  pub blocks : length b ≡ length x / p.size
  pub input : length x ≡ length b * p.size
  pub output : length y ≡ length b * p.size

in_blocks_lem : (n : ℕ) (x : List ℤ) → (in_blocks n x).number ≡ 0 → length x % n ≡ 0
in_blocks_lem n x h = split (ℕ_discrete (length x % n) 0)
  where
    split : Dec (length x % n ≡ 0) → length x % n ≡ 0
    split (yes e) = e
    split (no d) = let z : ◌≡◌ {A = ℕ} 10 0 = rw (ne_eqb (length x % n) 0 d) at h in absurd (omega arith)

pub strip-fits : (p : Plan) (x y : List ℤ) (b : List ℕ) → (strip_answer p x y b).number ≡ 0 → StripFits p x y b
unfolding strip_answer
strip-fits p x y b h =
    let s = both-fine p.sheets _ h in
    let i = both-fine (in_blocks p.size x) _ s.1 in
    let o = both-fine (sized 1 (length x) y) _ i.1 in
    let d = in_blocks_lem p.size x i.0 in
    let e : length x ≡ length x / p.size * p.size = omega (arith, div-add-mod' (length x) p.size) in
    let k = sized-fine 1 (length x / p.size) b o.1 in
    record { sheets = s.0; even = d; blocks = k; input = rw k e; output = sized-fine 1 (length x) y o.0 ∙ rw k e }

-- "else accepted, zero blocks too"
pub strip-accepted :
    (p : Plan) (x y : List ℤ) (b : List ℕ) → p.sheets.number ≡ 0 → length x % p.size ≡ 0 → length y ≡ length x →
    length b ≡ length x / p.size →
    strip_answer p x y b ≡ accepted
unfolding strip_answer ◌or_else◌
strip-accepted p x y b h e l k =
    rw (
      eq-eqb p.sheets.number 0 h,
      eq-eqb (length x % p.size) 0 e,
      sized-is 1 (length x) y l,
      sized-is 1 (length x / p.size) b k,
    )

-- the same of as many blocks as there are bytes
pub blocks-accepted :
    (p : Plan) (x y : List ℤ) (b : List ℕ) → 0 < p.size → p.sheets.number ≡ 0 → length x ≡ length b * p.size →
    length y ≡ length x →
    strip_answer p x y b ≡ accepted
blocks-accepted p x y b some h e l =
    strip-accepted p x y b h (ap (λ (m : ℕ). m % p.size) e ∙ mul-mod_left (length b) p.size) l
    (sym (ap (λ (m : ℕ). m / p.size) e ∙ mul-div_cancel (length b) some))

-- ---- the reply
module _ (p : Plan) (call : List ℤ → List ℤ → Reply ℤ) (x y : List ℤ) (b : List ℕ) where
  -- a strip that is not refused
  abbrev pub ran : StripReply
  ran = record { answer = strip_answer p x y b; output = outputs p call (length b) x y; bytes = bytes_of p call (length b) x y }

  abbrev pub found : StripReply
  found = record { answer = strip_answer p x y b; output = y; bytes = b }

  pub strip-ran : (strip_answer p x y b).number ≡ 0 → strip p call x y b ≡ ran
  unfolding strip
  strip-ran h = rw (eq-eqb (strip_answer p x y b).number 0 h, (strip-fits p x y b h).blocks)

  pub strip-found : ((strip_answer p x y b).number ≡ 0 → ⊥) → strip p call x y b ≡ found
  unfolding strip
  strip-found h = rw (ne_eqb (strip_answer p x y b).number 0 h)

  pub strip-answer : (strip p call x y b).answer ≡ strip_answer p x y b
  strip-answer = split (ℕ_discrete (strip_answer p x y b).number 0)
    where
      split : Dec ((strip_answer p x y b).number ≡ 0) → (strip p call x y b).answer ≡ strip_answer p x y b
      split (yes h) = ap (λ (q : StripReply). q.answer) (strip-ran h)
      split (no h) = ap (λ (q : StripReply). q.answer) (strip-found h)

-- request R-5: "16 for a rule not 0, 1 or 2, place 0, before all others", whatever the sheets are and whatever is lent
pub strip-none : (k : ℕ) (p : Plan) → 2 < k → (call : List ℤ → List ℤ → Reply ℤ) (x y : List ℤ) (b : List ℕ) →
    GivesStrip (refused 16 0 0) y b (strip (under k p) call x y b)
unfolding strip strip_answer ◌or_else◌
strip-none k p none call x y b = rw (lt-leb k 2 none) (refl, refl, refl)
