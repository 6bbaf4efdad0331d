-- How far each man commands in each direction on an empty board.
use Rattle.std.specs.Prelude.{ℕ}
use Rattle.board.specs.declared.direction.Direction.{Direction}
use Rattle.board.specs.declared.direction.Direction.TheVariants.{North, NorthEast, East, SouthEast, South, SouthWest, West, NorthWest}
use Rattle.chess_attacks.specs.declared.men.Man.{Man}
use Rattle.chess_attacks.specs.declared.men.Kind.{Kind}
use Rattle.chess_attacks.specs.declared.men.Kind.TheVariants.{King, Queen, Rook, Bishop, Knight, Pawn}
use Rattle.chess_attacks.specs.declared.men.Side.{Side}
use Rattle.chess_attacks.specs.declared.men.Side.TheVariants.{White, Black}

-- x along a row or a file, y along a diagonal
abbrev pub straight : Direction → ℕ → ℕ → ℕ
straight North x y = x
straight East x y = x
straight South x y = x
straight West x y = x
straight NorthEast x y = y
straight SouthEast x y = y
straight SouthWest x y = y
straight NorthWest x y = y

-- the two diagonals ahead of a pawn
abbrev pub ahead : Side → Direction → ℕ
ahead White North = 0
ahead White NorthEast = 1
ahead White East = 0
ahead White SouthEast = 0
ahead White South = 0
ahead White SouthWest = 0
ahead White West = 0
ahead White NorthWest = 1
ahead Black North = 0
ahead Black NorthEast = 0
ahead Black East = 0
ahead Black SouthEast = 1
ahead Black South = 0
ahead Black SouthWest = 1
ahead Black West = 0
ahead Black NorthWest = 0

-- The king commands one square, the queen any number of squares, of which no line has more than 7, the rook along rows and
-- files, the bishop along diagonals, and a pawn one square on each diagonal ahead. The knight leaps.
abbrev pub ranges : Kind → Side → Direction → ℕ
ranges King a d = 1
ranges Queen a d = 7
ranges Rook a d = straight d 7 0
ranges Bishop a d = straight d 0 7
ranges Knight a d = 0
ranges Pawn a d = ahead a d

abbrev pub range_of : Man → Direction → ℕ
range_of m d = ranges m.kind m.side d
