-- A step or a leap can be taken back: checked at the 64 squares.
use Rattle.std.proofs.Common.{◌≡◌, ℕ, zero, suc, ◌<◌, Bool, true, false, ◌&&◌, eqb, ltb, Some, None, Option, sym, refl, ap, ◌∙◌}
use Rattle.std.proofs.lemmas.Bool.{and_parts, ltb-true, eqb-true}
use Rattle.std.proofs.lemmas.Bool.Decides.{Decides-below_and}
use Rattle.board.specs.declared.direction.Direction.{Direction}
use Rattle.board.specs.declared.direction.Direction.TheVariants.{North, NorthEast, East, SouthEast, South, SouthWest, West, NorthWest}
use Rattle.chess_attacks.specs.Men.{given}
use Rattle.board.specs.Squares.{opposite}
use Rattle.chess_attacks.specs.Lists.{beside, leap}

abbrev pub all : ℕ → (ℕ → Bool) → Bool
all zero p = true
all (suc n) p = p n && all n p

-- f goes to a square of the board, and g back
abbrev returns_at : (f g : ℕ → Option ℕ) → ℕ → Bool
returns_at f g s = given (f s) true (λ t. ltb t 64 && given (g t) false (λ u. eqb u s))

pub at_all : (p : ℕ → Bool) → all 64 p ≡ true → (s : ℕ) → s < 64 → p s ≡ true
at_all p h = (Decides-below_and p (λ s. p s ≡ true) (λ n. all n p) (λ k. (λ e. e, λ e. e)) refl (λ n. refl) 64).0 h

took : (o : Option ℕ) (s : ℕ) → given o false (λ u. eqb u s) ≡ true → o ≡ Some s
took None s h = cc
took (Some u) s h = ap Some (eqb-true u s h)

goes_back : (f g : ℕ → Option ℕ) → all 64 (returns_at f g) ≡ true → (s t : ℕ) → s < 64 → f s ≡ Some t → (t < 64) × (g t ≡ Some s)
goes_back f g h s t l e =
    let a : (ltb t 64 && given (g t) false (λ u. eqb u s)) ≡ true =
    sym (ap (λ (o : Option ℕ). given o true (λ t. ltb t 64 && given (g t) false (λ u. eqb u s))) e) ∙ at_all (returns_at f g) h s l in
    let b = and_parts (ltb t 64) (given (g t) false (λ u. eqb u s)) a in
    (ltb-true t 64 b.0, took (g t) s b.1)

pub back : (d : Direction) (s t : ℕ) → s < 64 → beside d s ≡ Some t → (t < 64) × (beside (opposite d) t ≡ Some s)
back North = goes_back (beside North) (beside South) refl
back NorthEast = goes_back (beside NorthEast) (beside SouthWest) refl
back East = goes_back (beside East) (beside West) refl
back SouthEast = goes_back (beside SouthEast) (beside NorthWest) refl
back South = goes_back (beside South) (beside North) refl
back SouthWest = goes_back (beside SouthWest) (beside NorthEast) refl
back West = goes_back (beside West) (beside East) refl
back NorthWest = goes_back (beside NorthWest) (beside SouthEast) refl

-- the eight leaps of a knight
pub data Leap : Direction → Direction → Type 0 where
  nne : Leap North NorthEast
  nnw : Leap North NorthWest
  ene : Leap East NorthEast
  ese : Leap East SouthEast
  sse : Leap South SouthEast
  ssw : Leap South SouthWest
  wsw : Leap West SouthWest
  wnw : Leap West NorthWest

pub turned : {o e : Direction} → Leap o e → Leap (opposite o) (opposite e)
turned nne = ssw
turned nnw = sse
turned ene = wsw
turned ese = wnw
turned sse = nnw
turned ssw = nne
turned wsw = ene
turned wnw = ese

pub leap-back : {o e : Direction} → Leap o e → (s t : ℕ) → s < 64 → leap o e s ≡ Some t → (t < 64) × (leap (opposite o) (opposite e) t ≡ Some s)
leap-back nne = goes_back (leap North NorthEast) (leap South SouthWest) refl
leap-back nnw = goes_back (leap North NorthWest) (leap South SouthEast) refl
leap-back ene = goes_back (leap East NorthEast) (leap West SouthWest) refl
leap-back ese = goes_back (leap East SouthEast) (leap West NorthWest) refl
leap-back sse = goes_back (leap South SouthEast) (leap North NorthWest) refl
leap-back ssw = goes_back (leap South SouthWest) (leap North NorthEast) refl
leap-back wsw = goes_back (leap West SouthWest) (leap East NorthEast) refl
leap-back wnw = goes_back (leap West NorthWest) (leap East SouthEast) refl
