-- "WHOLE STRIPS", request R-1: "The statement is made once for both directions and both shapes". p is the plan of a line or of a
-- pair of sheets, and call the single call over it, forward or inverse.
use Rattle.std.specs.Prelude.{cond, List, [], ◌∷◌, ◌++◌, ◌≡◌, ℕ, zero, suc, ◌*◌, ◌/◌, ◌%◌, eqb, ℤ, length, take, drop}
use Rattle.rules.specs.declared.Answer.{Answer}
use Rattle.rules.specs.declared.Rule.{Rule}
use Rattle.rules.specs.Answers.{accepted, refused, ◌or_else◌}
use Rattle.rules.specs.Calls.{Reply, Plan, sized, forward_call, inverse_call}

-- "an output of the same length and one byte for each block"
pub record StripReply : Type 0 where
  pub answer : Answer
  pub output : List ℤ
  pub bytes : List ℕ

-- what a contract says of an answer and of both lent slices when the call returns
abbrev pub GivesStrip : Answer → List ℤ → List ℕ → StripReply → Type 0
GivesStrip answer output bytes reply = (answer ≡ reply.answer) × (output ≡ reply.output) × (bytes ≡ reply.bytes)

-- "blocks laid end to end": block k, of n numbers
abbrev pub block : ℕ → ℕ → List ℤ → List ℤ
block n k v = take n (drop (k * n) v)

-- "10 if the input is no whole number of blocks"
abbrev pub in_blocks : ℕ → List ℤ → Answer
in_blocks n x = cond (eqb (length x % n) 0) accepted (refused 10 0 0)

-- "Refusals: 1 to 9 and 12 as before, then 10 if the input is no whole number of blocks, 10 (side 1) for output or byte slice"
unfoldable pub strip_answer : Plan → List ℤ → List ℤ → List ℕ → Answer
strip_answer p x y b = p.sheets or_else in_blocks p.size x or_else sized 1 (length x) y or_else sized 1 (length x / p.size) b

module _ (p : Plan) (call : List ℤ → List ℤ → Reply ℤ) where
  -- the single call on block k of the input x and of the output y as found
  abbrev pub block_reply : List ℤ → List ℤ → ℕ → Reply ℤ
  block_reply x y k = call (block p.size k x) (block p.size k y)

  -- "Each block gets its single call's output": k blocks; a block refused for range keeps its part as found, since its single
  -- call does
  unfoldable pub outputs : ℕ → List ℤ → List ℤ → List ℤ
  outputs zero x y = []
  outputs (suc k) x y = outputs k x y ++ (block_reply x y k).memory

  -- "and, in its byte, the number, 0 or 11"
  unfoldable pub bytes_of : ℕ → List ℤ → List ℤ → List ℕ
  bytes_of zero x y = []
  bytes_of (suc k) x y = bytes_of k x y ++ ((block_reply x y k).answer.number ∷ [])

  -- "else accepted, zero blocks too": x lent as the input, y as the output, b for the bytes; a refused strip leaves both as found
  unfoldable pub strip : List ℤ → List ℤ → List ℕ → StripReply
  strip x y b =
      let a = strip_answer p x y b in
      let blocks = length x / p.size in
      cond (eqb a.number 0)
      (record { answer = a; output = outputs blocks x y; bytes = bytes_of blocks x y })
      (record { answer = a; output = y; bytes = b })

-- "both directions": each block its forward call, or its inverse call
abbrev pub forward_strip : Rule → Plan → List ℤ → List ℤ → List ℕ → StripReply
forward_strip rule p x y b = strip p (forward_call rule p) x y b

abbrev pub inverse_strip : Rule → Plan → List ℤ → List ℤ → List ℕ → StripReply
inverse_strip rule p x y b = strip p (inverse_call rule p) x y b
