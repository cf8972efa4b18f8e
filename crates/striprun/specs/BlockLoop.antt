-- THE STRIP AFTER k BLOCKS, as the loop meets it: the blocks that are done, then what was found.
use Rattle.std.specs.Prelude.{List, ◌++◌, ◌≡◌, ℕ, ◌+◌, ◌*◌, ◌≤◌, ◌<◌, ℤ, take, drop, set}
use Rattle.std.proofs.Common.{append_assoc, append-nil, ap, ◌∙◌, zero-mul, mul-le-mul_right, add-one, length-append, length-drop, drop_of_length-le, take_at, drop_at}
use Rattle.std.proofs.Math.Path.{refl, sym}
use Rattle.std.proofs.Math.Nat.{suc-mul}
use native.Mathlib.Omega.{arith}
use Rattle.std.proofs.Math.ListN.{length}
use Rattle.std.proofs.Math.Seq.{drop-drop, drop-cons, append_snoc}
use Rattle.std.proofs.lemmas.List.{set_at}
use Rattle.rules.specs.Calls.{Reply, Plan}
use Rattle.rules.specs.Strips.{block, block_reply, outputs, bytes_of}
use Rattle.laws.specs.Strips.{BlockCall, outputs-length, bytes-length, block-fits, block-length}
use Rattle.striprun.specs.Plans.{GivesByte}

module _ (p : Plan) (call : List ℤ → List ℤ → Reply ℤ) (x y₀ : List ℤ) (b₀ : List ℕ) where
  pub record BlocksDone (k : ℕ) (y : List ℤ) (b : List ℕ) : Type 0 where
    pub output : y ≡ outputs p call k x y₀ ++ drop (k * p.size) y₀
    pub bytes : b ≡ bytes_of p call k x y₀ ++ drop k b₀

  pub none_done : BlocksDone 0 y₀ b₀
  unfolding outputs bytes_of
  none_done = record { output = rw (zero-mul p.size); bytes = refl }

  -- all done: nothing is left of what was found
  pub all_done :
      length y₀ ≡ length b₀ * p.size → {y : List ℤ} {b : List ℕ} → BlocksDone (length b₀) y b →
      (y ≡ outputs p call (length b₀) x y₀) × (b ≡ bytes_of p call (length b₀) x y₀)
  all_done ly h = (
    h.output ∙ rw (drop_of_length-le y₀ {i = length b₀ * p.size} (omega arith)) (append-nil _),
    h.bytes ∙ rw (drop_of_length-le b₀ {i = length b₀} (omega arith)) (append-nil _),
  )

  module _ (whole : BlockCall p call) (lx : length x ≡ length b₀ * p.size) (ly : length y₀ ≡ length b₀ * p.size) where
    module _ {k : ℕ} {y : List ℤ} {b : List ℕ} (h : BlocksDone k y b) where
      abbrev front : List ℤ
      front = outputs p call k x y₀

      -- where the k blocks end
      front_long : k ≤ length b₀ → length (outputs p call k x y₀) ≡ k * p.size
      front_long l =
          let m = mul-le-mul_right p.size l in outputs-length p call whole x y₀ k (omega (arith, m)) (omega (arith, m))

      pub done-long : k ≤ length b₀ → length y ≡ length y₀
      done-long l =
          rw h.output (length-append front _ ∙ rw (front_long l, length-drop) (omega (arith, mul-le-mul_right p.size l)))

      pub done-bytes : k ≤ length b₀ → length b ≡ length b₀
      done-bytes l =
          rw h.bytes (length-append (bytes_of p call k x y₀) _ ∙ rw (bytes-length p call x y₀ k, length-drop) (omega arith))

      -- what comes after them is as found
      pub done-after : k ≤ length b₀ → drop (k * p.size) y ≡ drop (k * p.size) y₀
      done-after l = rw h.output (drop_at front _ (k * p.size) (front_long l))

      -- one block more: the part that was lent on came back as ys, and byte k is set
      pub done_next :
          (ys : List ℤ) (v : ℕ) → k < length b₀ → length ys ≡ p.size → ys ≡ (block_reply p call x y k).memory →
          v ≡ (block_reply p call x y k).answer.number →
          BlocksDone (k + 1) (take (k * p.size) y ++ (ys ++ drop p.size (drop (k * p.size) y))) (set b k v)
      unfolding outputs bytes_of
      done_next ys v l m e d = record {
        output = rw (add-one k, taken, done-after few, e, same, drop-drop p.size (k * p.size) y₀, suc-mul k p.size)
            (sym (append_assoc front _ _));
        bytes = rw (add-one k, h.bytes, drop-cons b₀ k 0 l, d, same)
            (set_at (bytes_of p call k x y₀) _ _ _ k (bytes-length p call x y₀ k) ∙ sym (append_snoc (bytes_of p call k x y₀) _ _));
      }
        where
          few : k ≤ length b₀
          few = omega arith

          same : block_reply p call x y k ≡ block_reply p call x y₀ k
          same = ap (λ (w : List ℤ). call (block p.size k x) (take p.size w)) (done-after few)

          taken : take (k * p.size) y ≡ outputs p call k x y₀
          taken = rw h.output (take_at (outputs p call k x y₀) _ (k * p.size) (front_long few))

      -- the same, as the code has it: n numbers a block, a part of w of them
      pub done-step :
          (n w : ℕ) → n ≡ p.size → w ≡ n → (ys : List ℤ) (v : ℕ) → k < length b₀ →
          length ys ≡ length (take w (drop (k * n) y)) →
          GivesByte v ys (call (take w (drop (k * n) x)) (take w (drop (k * n) y))) →
          BlocksDone (k + 1) (take (k * n) y ++ (ys ++ drop w (drop (k * n) y))) (set b k v)
      done-step n w e d =
          rw (d, e)
          (λ ys v l m g.
          let long = done-long (omega arith) in
          let fits = block-fits k (length b₀) p.size l in
          done_next ys v l (m ∙ block-length p.size k y (omega (arith, long, fits))) g.memory g.number)

-- the part that is lent on is a block
pub lent-long : (p : Plan) (n w k : ℕ) (v : List ℤ) → n ≡ p.size → w ≡ n → k * n + n ≤ length v →
    length (take w (drop (k * n) v)) ≡ p.size
lent-long p n w k v e d h = rw (d, e) (block-length p.size k v (rw e at h))
