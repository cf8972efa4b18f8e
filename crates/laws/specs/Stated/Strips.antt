-- WHAT THE PROMISES OF STRIPS SAY (request R-1): an accepted strip, its blocks and its bytes, alone, there and back, and cut.
use Rattle.std.specs.Prelude.{cond, List, ◌++◌, ◌⊎◌, ◌≢◌, ◌≡◌, ℕ, ◌+◌, ◌*◌, ◌<◌, eqb, ℤ, length, take, drop, get_or}
use Rattle.rules.specs.declared.Answer.{Answer}
use Rattle.rules.specs.Answers.{accepted}
use Rattle.rules.specs.Calls.{Reply, Plan}
use Rattle.rules.specs.Strips.{GivesStrip, block, block_reply, strip}

-- a strip's call, lent x, y and b, answered 0 and left m and bs
pub record StripGave (p : Plan) (call : List ℤ → List ℤ → Reply ℤ) (x y : List ℤ) (b : List ℕ) (m : List ℤ) (bs : List ℕ) : Type
    0 where
  pub answer : Answer
  pub gives : GivesStrip answer m bs (strip p call x y b)
  pub zero : answer.number ≡ 0

-- v with u in place of its block j
abbrev pub changed : ℕ → ℕ → List ℤ → List ℤ → List ℤ
changed n j u v = take (j * n) v ++ u ++ drop (j * n + n) v

-- request R-1 of any plan and any single call over it
pub record StripPromises (p : Plan) (call : List ℤ → List ℤ → Reply ℤ) : Type 0 where
  -- the contract leaves one answer, one output and one byte slice, refusals too
  pub one :
      (x y : List ℤ) (b : List ℕ) {a c : Answer} {m n : List ℤ} {bs ds : List ℕ} →
      GivesStrip a m bs (strip p call x y b) → GivesStrip c n ds (strip p call x y b) → (a ≡ c) × (m ≡ n) × (bs ≡ ds)
  -- a refused strip leaves output and bytes as found
  pub refused :
      (x y : List ℤ) (b : List ℕ) {a : Answer} {m : List ℤ} {bs : List ℕ} →
      GivesStrip a m bs (strip p call x y b) → (a.number ≡ 0 → ⊥) → (m ≡ y) × (bs ≡ b)
  -- "else accepted, zero blocks too"
  pub not-refused :
      (x y : List ℤ) (b : List ℕ) {a : Answer} {m : List ℤ} {bs : List ℕ} → p.sheets.number ≡ 0 →
      length x ≡ length b * p.size → length y ≡ length x → GivesStrip a m bs (strip p call x y b) → a ≡ accepted
  -- "Each block gets its single call's output and, in its byte, the number"
  pub each :
      {x y m : List ℤ} {b bs : List ℕ} → StripGave p call x y b m bs → (k : ℕ) → k < length b →
      (block p.size k m ≡ (block_reply p call x y k).memory) × (get_or bs k 0 ≡ (block_reply p call x y k).answer.number)
  -- nothing stands beside the blocks and their bytes
  pub long : {x y m : List ℤ} {b bs : List ℕ} → StripGave p call x y b m bs → (length m ≡ length b * p.size)
      × (length bs ≡ length b)
  -- "0 or 11"
  pub number :
      {x y m : List ℤ} {b bs : List ℕ} → StripGave p call x y b m bs → (k : ℕ) → k < length b →
      (get_or bs k 0 ≡ 0) ⊎ (get_or bs k 0 ≡ 11)
  -- "A block refused for range keeps its part of the output as found"
  pub kept :
      {x y m : List ℤ} {b bs : List ℕ} → StripGave p call x y b m bs → (k : ℕ) → k < length b → (get_or bs k 0 ≡ 0 → ⊥) →
      block p.size k m ≡ block p.size k y
  -- "Changing one block changes no other block's output or byte"
  pub others :
      {x y m m' : List ℤ} {b bs bs' : List ℕ} (j : ℕ) (u : List ℤ) → j < length b → length u ≡ p.size →
      StripGave p call x y b m bs → StripGave p call (changed p.size j u x) y b m' bs' →
      (k : ℕ) → k < length b → k ≢ j → (block p.size k m' ≡ block p.size k m) × (get_or bs' k 0 ≡ get_or bs k 0)

-- each block of x whose byte in bs is 0 comes back: its byte in ds is 0, and it stands in u
abbrev pub BlocksBack : (n : ℕ) (x : List ℤ) (bs : List ℕ) (u : List ℤ) (ds : List ℕ) → Type 0
BlocksBack n x bs u ds = (k : ℕ) → k < length bs → get_or bs k 0 ≡ 0 → (get_or ds k 0 ≡ 0) × (block n k u ≡ block n k x)

-- block k of a strip that left m and bs, and of its two parts, one after the other, the first of which left the bytes bs₁, the
-- second v and bs₂; the whole and the second part found the output y
pub record CutBlock (n k : ℕ) (y m : List ℤ) (bs bs₁ : List ℕ) (v : List ℤ) (bs₂ : List ℕ) : Type 0 where
  -- "in a cut, a block refused by the first part to run counts as refused"; else its byte is the second part's
  pub byte : get_or bs k 0 ≡ cond (eqb (get_or bs₁ k 0) 0) (get_or bs₂ k 0) (get_or bs₁ k 0)
  -- unless the first part refuses it, the second part leaves of it what the whole leaves
  pub output : get_or bs₁ k 0 ≡ 0 → block n k v ≡ block n k m
  -- if the second part refuses it, its part of the output stays as found
  pub kept : (get_or bs₂ k 0 ≡ 0 → ⊥) → block n k v ≡ block n k y
