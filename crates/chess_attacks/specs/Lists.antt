-- The squares that a man commands as a list, and attack and check as tests.
use Rattle.std.specs.Prelude.{ℕ, zero, suc, Bool, true, false, cond, ◌&&◌, ◌||◌, List, [], ◌∷◌, ◌++◌, Some, None, Option, nat_lt}
use Rattle.board.specs.Squares.{reach, away}
use Rattle.board.specs.Masks.{member}
use Rattle.board.specs.declared.square.Square.{Square}
use Rattle.board.specs.declared.direction.Direction.{Direction}
use Rattle.board.specs.declared.direction.Direction.TheVariants.{North, NorthEast, East, SouthEast, South, SouthWest, West, NorthWest}
use Rattle.chess_attacks.specs.declared.men.Man.{Man}
use Rattle.chess_attacks.specs.declared.men.Side.{Side}
use Rattle.chess_attacks.specs.Men.{Squares, on, given, other, same_side, is_knight, king_of}
use Rattle.chess_attacks.specs.Ranges.{range_of}

-- the square beside s in a direction, if the board has one
abbrev pub when : Bool → ℕ → Option ℕ
when true s = Some s
when false s = None

abbrev pub beside : Direction → ℕ → Option ℕ
beside d s = when (nat_lt 0 (reach d s)) (away d s 1)

-- the number of a square, if there is one
abbrev pub numbered : Option Square → Option ℕ
numbered None = None
numbered (Some s) = Some s.number

-- the squares from s in a direction, at most n of them, up to and with the first that holds a man
unfoldable pub line : Squares → Direction → ℕ → ℕ → List ℕ
line b d s zero = []
line b d s (suc n) = given (beside d s) [] (λ t. t ∷ given (on b t) (line b d t n) (λ _. []))

-- one square straight on, and one more aslant: a knight's leap
abbrev pub leap : Direction → Direction → ℕ → Option ℕ
leap o e s = given (beside o s) None (beside e)

abbrev pub single : Option ℕ → List ℕ
single None = []
single (Some t) = t ∷ []

abbrev pub eight_ways : {X : Type 0} → (X → X → X) → (Direction → X) → X
eight_ways f g =
    f (g East) (f (g West) (f (g North) (f (g South) (f (g NorthEast) (f (g NorthWest) (f (g SouthEast) (g SouthWest)))))))

-- the ways of a knight's leap
abbrev pub knight_ways : List (Direction × Direction)
knight_ways =
    (North, NorthEast) ∷ (North, NorthWest) ∷ (East, NorthEast) ∷ (East, SouthEast)
    ∷ (South, SouthEast) ∷ (South, SouthWest) ∷ (West, SouthWest) ∷ (West, NorthWest) ∷ []

abbrev pub eight_leaps : {X : Type 0} → (X → X → X) → (Direction → Direction → X) → X
eight_leaps f g =
    f (g North NorthEast) (f (g North NorthWest) (f (g East NorthEast) (f (g East SouthEast)
    (f (g South SouthEast) (f (g South SouthWest) (f (g West SouthWest) (g West NorthWest)))))))

abbrev pub append : List ℕ → List ℕ → List ℕ
append xs ys = xs ++ ys

-- the squares that a man on s commands
unfoldable pub lines : Squares → Man → ℕ → List ℕ
lines b m s = eight_ways append (λ d. line b d s (range_of m d))

unfoldable pub leaps : ℕ → List ℕ
leaps s = eight_leaps append (λ o e. single (leap o e s))

abbrev pub commands : Squares → Man → ℕ → List ℕ
commands b m s = cond (is_knight m.kind) (leaps s) (lines b m s)

-- whether a man of the side stands on f and commands s
abbrev pub attacks : Squares → ℕ → Side → ℕ → Bool
attacks b s by f = given (on b f) false (λ m. same_side m.side by && member s (commands b m f))

-- the squares below n of the side's men that command s
unfoldable pub attackers : Squares → ℕ → Side → ℕ → List ℕ
attackers b s by zero = []
attackers b s by (suc n) = attackers b s by n ++ cond (attacks b s by n) (n ∷ []) []

abbrev pub some : List ℕ → Bool
some [] = false
some (f ∷ fs) = true

unfoldable pub attacked : Squares → ℕ → Side → Bool
attacked b s by = some (attackers b s by 64)

-- some number below n
abbrev pub any : ℕ → (ℕ → Bool) → Bool
any zero p = false
any (suc n) p = p n || any n p

-- whether a king of the side stands on s and is attacked
abbrev pub king_hit : Squares → Side → ℕ → Bool
king_hit b a s = king_of a (on b s) && attacked b s (other a)

unfoldable pub checked : Squares → Side → Bool
checked b a = any 64 (king_hit b a)
