-- The rules of Othello on a board: which squares hold discs of the side to move (own), and which hostile ones (other).
use Rattle.std.specs.Prelude.{ℕ, Bool, true, false, cond, not, ◌&&◌, ◌||◌, List, [], ◌∷◌, ◌++◌}
use Rattle.board.specs.Squares.{ray}
use Rattle.board.specs.declared.direction.Direction.TheVariants.{East, West, North, South, NorthEast, NorthWest, SouthEast, SouthWest}

-- a set of squares
abbrev pub Squares : Type 0
Squares = ℕ → Bool

-- the run of squares at the front of a ray that are in a set, and what follows it
unfoldable pub run : Squares → List ℕ → List ℕ
run p [] = []
run p (q ∷ qs) = cond (p q) (q ∷ run p qs) []

unfoldable pub after : Squares → List ℕ → List ℕ
after p [] = []
after p (q ∷ qs) = cond (p q) (after p qs) (q ∷ qs)

-- whether the first square of a ray is in a set: no square is past the edge
unfoldable pub begins : Squares → List ℕ → Bool
begins p [] = false
begins p (q ∷ qs) = p q

-- what a disc turns on a ray: the run of hostile discs, where an own disc closes it
unfoldable pub turned : Squares → Squares → List ℕ → List ℕ
turned own other l = cond (begins own (after other l)) (run other l) []

-- what a disc placed on s turns in the eight directions
unfoldable pub flipped : Squares → Squares → ℕ → List ℕ
flipped own other s =
    turned own other (ray East s) ++ turned own other (ray West s)
    ++ turned own other (ray North s) ++ turned own other (ray South s)
    ++ turned own other (ray NorthEast s) ++ turned own other (ray NorthWest s)
    ++ turned own other (ray SouthEast s) ++ turned own other (ray SouthWest s)

unfoldable pub any : List ℕ → Bool
any [] = false
any (q ∷ qs) = true

-- a placement is legal on an empty square, where it turns a disc
unfoldable pub legal : Squares → Squares → ℕ → Bool
legal own other s = (not (own s || other s)) && any (flipped own other s)
