-- WHAT THE CUT LAW SAYS ("Allowance" of document 01, its last sentence): a sheet in two parts, and two calls in place of one.
use Rattle.std.specs.Prelude.{cond, List, ◌∷◌, ◌≡◌, ℕ, ◌+◌, ◌-◌, eqb, ℤ, pos, length, take, drop}
use Rattle.rules.specs.Numbers.{at, count}
use Rattle.rules.specs.declared.Rule.{Rule}
use Rattle.rules.specs.Answers.{accepted, refused_at, start}
use Rattle.rules.specs.Calls.{Reply, Plan, forward_call}

-- the sheet of k factors of s, from factor f on
unfoldable pub cut : List ℤ → ℕ → ℕ → List ℤ
cut s f k = at s 0 ∷ pos k ∷ take (start s (f + k) - start s f) (drop (start s f) s)

-- the first f factors, and the others
abbrev pub cut_front : List ℤ → ℕ → List ℤ
cut_front s f = cut s 0 f

abbrev pub cut_back : List ℤ → ℕ → List ℤ
cut_back s f = cut s f (count s 1 - f)

-- "a refusal of the second part has the first part's count added to its stage"; R-7: "The cut law covers the element too"
unfoldable pub farther : ℕ → Reply ℤ → Reply ℤ
farther f q =
    cond (eqb q.answer.number 0) q
    (record {
      answer = refused_at q.answer.number q.answer.side (f + q.answer.place) q.answer.element;
      memory = q.memory;
    })

-- the call of the first f factors, then, if it is accepted, that of the others on what it left; y is the slice lent at the end
unfoldable pub in_two : ℕ → Reply ℤ → (List ℤ → Reply ℤ) → List ℤ → Reply ℤ
in_two f first second y =
    cond (eqb first.answer.number 0) (farther f (second first.memory)) (record { answer = first.answer; memory = y })

-- the cut law of a plan p, whose parts are the plans front, of f factors, and back
pub record CutLaw (rule : Rule) (p front back : Plan) (f : ℕ) : Type 0 where
  -- the parts are accepted sheets, or pairs that match
  pub first : front.sheets ≡ accepted
  pub second : back.sheets ≡ accepted
  -- the two calls give what the one gives: the same answer and the same memory
  pub same :
      (x middle y : List ℤ) → length x ≡ p.size → length middle ≡ p.size → length y ≡ p.size →
      forward_call rule p x y ≡ in_two f (forward_call rule front x middle) (λ u. forward_call rule back u y) y
