-- The moves of a position and their texts.
use Rattle.std.proofs.Common.{◌≡◌, ◌≢◌, ℕ, suc, ◌<◌, ◌≤◌, MatchOption, arith, Bool, true, false, eqb, Decides, List, [], length, get_or, Some, None, Option, sym, refl, ap, ◌∙◌}
use Rattle.std.specs.List.{slice_get}
use Rattle.std.specs.Option.{option_eq}
use Rattle.std.specs.Cmp.Lexicographic.{pointwise}
use Rattle.std.proofs.lemmas.Option.{slice_get-get_or}
use Rattle.std.proofs.lemmas.Slice.Eq.{slice_eq-Decides}
use Rattle.std.proofs.lemmas.Bool.Decides.{Decides-eqb}
use Rattle.game.specs.Tree.{Tree, node, Moves, none, move, successors, texts, next, words}

counted_moves : (m : Moves) → length (texts m) ≡ length (successors m)
counted_moves none = refl
counted_moves (move x t m) = ap (λ n. suc n) (counted_moves m)

-- there are as many texts as moves
pub counted : (t : Tree) → length (words t) ≡ length (next t)
counted (node s r c m) = counted_moves m

-- a comparison with the text of a number below the count tells whether it is that text
module _ (ws : List (List ℕ)) (i : ℕ) (x : List ℕ) (h : i < length ws) where
  pub compared : (o : Option (List ℕ)) (b : Bool) → o ≡ slice_get ws i → b ≡ option_eq (pointwise eqb) o (Some x) → Decides b (get_or ws i [] ≡ x)
  compared None b e q = let k = slice_get-get_or ws i [] h in absurd (cc)
  compared (Some y) b e q =
      let k = slice_get-get_or ws i [] h in
      let same : get_or ws i [] ≡ y = cc in
      let d = slice_eq-Decides Decides-eqb y x b q in
      (λ f. same ∙ d.0 f, λ f. d.1 (sym same ∙ f))

-- a comparison with a text tells whether it is that text
told : (o : Option (List ℕ)) (x : List ℕ) (b : Bool) → b ≡ option_eq (pointwise eqb) o (Some x) → Decides b (o ≡ Some x)
told None x b q = (λ f. absurd (cc), λ e. absurd (cc))
told (Some y) x b q =
    let d = slice_eq-Decides Decides-eqb y x b q in
    (λ f. ap (λ z. Some z) (d.0 f), λ e. d.1 (cc))

pub told_same : (o : Option (List ℕ)) (x : List ℕ) → true ≡ option_eq (pointwise eqb) o (Some x) → o ≡ Some x
told_same o x q = (told o x true q).0 refl

pub told_other : (o : Option (List ℕ)) (x : List ℕ) → false ≡ option_eq (pointwise eqb) o (Some x) → o ≢ Some x
told_other o x q e = let t = (told o x false q).1 e in absurd (cc)

-- the first number from 0 up to n at which the text stands is the number of that text
module _ (ws : List (List ℕ)) (x : List ℕ) (n : ℕ) (count : n ≡ length ws) where
  pub first_of : (r : Option ℕ) →
      MatchOption r ((k : ℕ) → 0 ≤ k → k < n → slice_get ws k ≢ Some x)
      (λ i. (0 ≤ i) × (i < n) × (slice_get ws i ≡ Some x) × ((k : ℕ) → 0 ≤ k → k < i → slice_get ws k ≢ Some x)) →
      MatchOption r ((i : ℕ) → i < length ws → get_or ws i [] ≢ x) (λ i. (i < length ws) × (get_or ws i [] ≡ x))
  first_of None f = λ i h e. f i (omega arith) (omega (arith, count)) (slice_get-get_or ws i [] h ∙ ap (λ z. Some z) e)
  first_of (Some i) f =
      let h : i < length ws = omega (arith, count, f.1) in
      let k = slice_get-get_or ws i [] h in
      let s = f.2 in
      (h, cc)
