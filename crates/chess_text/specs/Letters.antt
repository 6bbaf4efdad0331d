-- The letters of men, which are those of chess_attacks, and of sides.
use Rattle.std.specs.Prelude.{ℕ, ◌-◌, cond, ◌&&◌, Some, None, Option, ◌==◌, nat_le}
use Rattle.chess_attacks.specs.Letters.{letter}
use Rattle.chess_attacks.specs.declared.men.Man.{Man}
use Rattle.chess_attacks.specs.declared.men.Kind.{Kind}
use Rattle.chess_attacks.specs.declared.men.Kind.TheVariants.{King, Queen, Rook, Bishop, Knight, Pawn}
use Rattle.chess_attacks.specs.declared.men.Side.{Side}
use Rattle.chess_attacks.specs.declared.men.Side.TheVariants.{White, Black}

abbrev pub blank : ℕ
blank = 32

abbrev pub dash : ℕ
dash = 45

abbrev pub slash : ℕ
slash = 47

-- w b
abbrev pub side_letter : Side → ℕ
side_letter White = 119
side_letter Black = 98

abbrev pub man : Side → Kind → Man
man s k = record { side = s; kind = k }

-- which man a byte means
abbrev pub case : ℕ → Side → Kind → Option Man → Option Man
case b s k o = cond (b == letter s k) (Some (man s k)) o

unfoldable pub man_of : ℕ → Option Man
man_of b =
    case b White King (case b White Queen (case b White Rook (case b White Bishop (case b White Knight (case b White Pawn
    (case b Black King (case b Black Queen (case b Black Rook (case b Black Bishop (case b Black Knight (case b Black Pawn None)))))))))))

-- which side a byte means
unfoldable pub side_of : ℕ → Option Side
side_of b = cond (b == 119) (Some White) (cond (b == 98) (Some Black) None)

-- how long a run of empty squares a byte means: 1 to 8
unfoldable pub run_of : ℕ → Option ℕ
run_of b = cond (nat_le 49 b && nat_le b 56) (Some (b - 48)) None

-- which file a byte means: a to h
unfoldable pub file_of : ℕ → Option ℕ
file_of b = cond (nat_le 97 b && nat_le b 104) (Some (b - 97)) None
