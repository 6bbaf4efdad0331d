-- What is seen from a square along the lines and the leaps.
use Rattle.std.specs.Prelude.{ℕ, zero, suc, ◌+◌, Bool, false, ◌&&◌, ◌||◌, Option, nat_lt}
use Rattle.board.specs.declared.direction.Direction.{Direction}
use Rattle.chess_attacks.specs.declared.men.Man.{Man}
use Rattle.chess_attacks.specs.declared.men.Kind.TheVariants.{Knight}
use Rattle.chess_attacks.specs.declared.men.Side.{Side}
use Rattle.chess_attacks.specs.Men.{Squares, on, given, same_side, man_of}
use Rattle.chess_attacks.specs.Ranges.{range_of}
use Rattle.board.specs.Squares.{opposite}
use Rattle.chess_attacks.specs.Lists.{beside, leap, eight_ways, eight_leaps}

-- from s in direction d, k squares on already: whether the first man of the next n is of the side and its range is enough
unfoldable pub struck : Squares → Direction → Side → ℕ → ℕ → ℕ → Bool
struck b d by s k zero = false
struck b d by s k (suc n) =
    given (beside d s) false
    (λ t. given (on b t) (struck b d by t (k + 1) n) (λ m. same_side m.side by && nat_lt k (range_of m (opposite d))))

abbrev pub knight_of : Side → Option Man → Bool
knight_of by = man_of by Knight

-- whether a knight of the side stands a leap away
unfoldable pub leapt : Squares → Side → ℕ → Direction → Direction → Bool
leapt b by s o e = given (leap o e s) false (λ f. knight_of by (on b f))

abbrev pub or : Bool → Bool → Bool
or x y = x || y

abbrev pub line_attack : Squares → ℕ → Side → Bool
line_attack b s by = eight_ways or (λ d. struck b d by s 0 7)

abbrev pub leap_attack : Squares → ℕ → Side → Bool
leap_attack b s by = eight_leaps or (leapt b by s)
