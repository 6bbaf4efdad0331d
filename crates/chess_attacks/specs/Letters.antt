-- The names of the sides and the letters of the men.
use Rattle.std.specs.Prelude.{ℕ, List, codes}
use Rattle.chess_attacks.specs.declared.men.Kind.{Kind}
use Rattle.chess_attacks.specs.declared.men.Kind.TheVariants.{King, Queen, Rook, Bishop, Knight, Pawn}
use Rattle.chess_attacks.specs.declared.men.Side.{Side}
use Rattle.chess_attacks.specs.declared.men.Side.TheVariants.{White, Black}

abbrev pub name : Side → List ℕ
name White = codes "White"
name Black = codes "Black"

-- K Q R B N P
abbrev pub capital : Kind → ℕ
capital King = 75
capital Queen = 81
capital Rook = 82
capital Bishop = 66
capital Knight = 78
capital Pawn = 80

-- k q r b n p
abbrev pub small : Kind → ℕ
small King = 107
small Queen = 113
small Rook = 114
small Bishop = 98
small Knight = 110
small Pawn = 112

abbrev pub letter : Side → Kind → ℕ
letter White k = capital k
letter Black k = small k
