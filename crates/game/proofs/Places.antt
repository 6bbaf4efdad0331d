-- Positions in the places of a path, after one more and after one less.
use Rattle.std.proofs.Common.{◌≡◌, ◌+◌, ◌≤◌, List, [], ◌∷◌, ◌++◌, reverse, length, Some, None, Option, refl, ap, ◌∙◌, length-append, arith}
use Rattle.std.proofs.lemmas.List.{reverse-append, length-reverse}
use Rattle.game.specs.Places.{held}

held_few : {P : Type 0} (os : List (Option P)) → length (held os) ≤ length os
unfolding held
held_few [] = omega arith
held_few (None ∷ os) = let k = held_few os in omega arith
held_few (Some p ∷ os) = let k = held_few os in omega arith

held-some : {P : Type 0} (os : List (Option P)) (p : P) → held (os ++ (Some p ∷ [])) ≡ held os ++ (p ∷ [])
unfolding held
held-some [] p = refl
held-some (None ∷ os) p = held-some os p
held-some (Some q ∷ os) p = ap (λ ps. q ∷ ps) (held-some os p)

held-none : {P : Type 0} (os : List (Option P)) → held (os ++ (None ∷ [])) ≡ held os
unfolding held
held-none [] = refl
held-none (None ∷ os) = held-none os
held-none (Some q ∷ os) = ap (λ ps. q ∷ ps) (held-none os)

-- as many positions as places, however they are asked for
pub as_many : {P : Type 0} (os : List (Option P)) → length (held os) ≡ length os → length (reverse (held os)) ≡ length os
as_many os w = length-reverse (held os) ∙ w

module _ {P : Type 0} (os more : List (Option P)) where
  module _ (p : P) (e : more ≡ os ++ (Some p ∷ [])) where
    one_more : length (held more) ≡ length (held os) + 1
    one_more = ap (λ xs. length (held xs)) e ∙ ap length (held-some os p) ∙ length-append (held os) (p ∷ [])

    long : length more ≡ length os + 1
    long = ap length e ∙ length-append os (Some p ∷ [])

    pub pushed : length (held os) ≡ length os → length (held more) ≡ length more
    pushed w = omega (arith, w, one_more, long)

    pub popped : length (held more) ≡ length more → length (held os) ≡ length os
    popped w = omega (arith, w, one_more, long)

    pub latest : reverse (held more) ≡ p ∷ reverse (held os)
    latest = ap (λ xs. reverse (held xs)) e ∙ ap reverse (held-some os p) ∙ reverse-append (held os) (p ∷ [])

  -- no place is empty
  pub never_empty : more ≡ os ++ (None ∷ []) → length (held more) ≡ length more → ⊥
  never_empty e w =
      let few = held_few os in
      let same : length (held more) ≡ length (held os) = ap (λ xs. length (held xs)) e ∙ ap length (held-none os) in
      let long : length more ≡ length os + 1 = ap length e ∙ length-append os (None ∷ []) in
      absurd (omega (arith, few, same, long, w))
