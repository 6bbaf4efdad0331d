-- Steps from square to square within the steps to the edge: checked at the 64 squares and 8 distances.
use Rattle.std.proofs.Common.{◌≡◌, ℕ, ◌+◌, ◌-◌, ◌<◌, ◌≤◌, Bool, true, cond, ◌&&◌, eqb, ltb, Some, None, sym, refl, ap, ◌∙◌, arith}
use Rattle.std.proofs.lemmas.Bool.{and_parts, ltb-true, lt-ltb, eqb-true, le-ltb}
use Rattle.std.proofs.lemmas.Bool.Decides.{Decides-below_and}
use Rattle.board.specs.Squares.{reach, away}
use Rattle.board.specs.declared.direction.Direction.{Direction}
use Rattle.board.specs.declared.direction.Direction.TheVariants.{North, NorthEast, East, SouthEast, South, SouthWest, West, NorthWest}
use Rattle.chess_attacks.specs.Lists.{beside, when}
use Rattle.chess_attacks.proofs.Back.{all, at_all}

-- what is left of the way to the edge after k steps, and the square of one more step
abbrev one_on : Direction → ℕ → ℕ → Bool
one_on d s k = cond (ltb (reach d s) k) true (eqb (reach d (away d s k)) (reach d s - k) && cond (ltb k (reach d s)) (eqb (away d (away d s k) 1) (away d s (k + 1))) true)

abbrev right : Direction → Bool
right d = all 64 (λ s. ltb (reach d s) 8 && (eqb (away d s 0) s && all 8 (one_on d s)))

tested : (d : Direction) → right d ≡ true
tested North = refl
tested NorthEast = refl
tested East = refl
tested SouthEast = refl
tested South = refl
tested SouthWest = refl
tested West = refl
tested NorthWest = refl

at_eight : (p : ℕ → Bool) → all 8 p ≡ true → (k : ℕ) → k < 8 → p k ≡ true
at_eight p h = (Decides-below_and p (λ s. p s ≡ true) (λ n. all n p) (λ k. (λ e. e, λ e. e)) refl (λ n. refl) 8).0 h

module _ (d : Direction) (s : ℕ) (in' : s < 64) where
  here : (ltb (reach d s) 8 && (eqb (away d s 0) s && all 8 (one_on d s))) ≡ true
  here = at_all (λ s. ltb (reach d s) 8 && (eqb (away d s 0) s && all 8 (one_on d s))) (tested d) s in'

  pub near : reach d s < 8
  near = ltb-true (reach d s) 8 (and_parts (ltb (reach d s) 8) _ here).0

  more : (eqb (away d s 0) s && all 8 (one_on d s)) ≡ true
  more = (and_parts (ltb (reach d s) 8) (eqb (away d s 0) s && all 8 (one_on d s)) here).1

  pub away-none : away d s 0 ≡ s
  away-none = eqb-true (away d s 0) s (and_parts (eqb (away d s 0) s) (all 8 (one_on d s)) more).0

  at : (k : ℕ) → k < 8 → one_on d s k ≡ true
  at = at_eight (one_on d s) (and_parts (eqb (away d s 0) s) (all 8 (one_on d s)) more).1

  module _ (k : ℕ) where
    abbrev rest : Bool
    rest = cond (ltb k (reach d s)) (eqb (away d (away d s k) 1) (away d s (k + 1))) true

    OnBoard : k ≤ reach d s → (eqb (reach d (away d s k)) (reach d s - k) && rest) ≡ true
    OnBoard h =
        sym (ap (λ x. cond x true (eqb (reach d (away d s k)) (reach d s - k) && rest)) (le-ltb (reach d s) k h))
        ∙ at k (omega (arith, near))

    left : k ≤ reach d s → reach d (away d s k) ≡ reach d s - k
    left h = eqb-true (reach d (away d s k)) (reach d s - k) (and_parts (eqb (reach d (away d s k)) (reach d s - k)) rest (OnBoard h)).0

    -- a step from the square at a distance leads to the square at the next
    pub beside_away : k < reach d s → beside d (away d s k) ≡ Some (away d s (k + 1))
    beside_away h =
        let on : reach d (away d s k) ≡ reach d s - k = left (omega arith) in
        let same : away d (away d s k) 1 ≡ away d s (k + 1)
        = eqb-true (away d (away d s k) 1) (away d s (k + 1))
        (sym (ap (λ x. cond x (eqb (away d (away d s k) 1) (away d s (k + 1))) true) (lt-ltb k (reach d s) h))
        ∙ (and_parts (eqb (reach d (away d s k)) (reach d s - k)) rest (OnBoard (omega arith))).1) in
        ap (λ x. when x (away d (away d s k) 1)) (lt-ltb 0 (reach d (away d s k)) (omega arith)) ∙ ap Some same

    pub beside_edge : reach d s ≡ k → beside d (away d s k) ≡ None
    beside_edge h =
        let on : reach d (away d s k) ≡ reach d s - k = left (omega arith) in
        ap (λ x. when x (away d (away d s k) 1)) (le-ltb 0 (reach d (away d s k)) (omega arith))
