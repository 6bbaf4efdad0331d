-- What is a pawn's alone: its way ahead, its first and last rows, what it becomes, and the square that it passes.
use Rattle.std.specs.Prelude.{ℕ, ◌+◌, ◌%◌, Bool, false, cond, not, ◌&&◌, ◌||◌, Some, None, Option, ◌==◌}
use Rattle.std.proofs.Common.{arith}
use Rattle.board.specs.Squares.{file, row}
use Rattle.board.specs.declared.direction.Direction.{Direction}
use Rattle.board.specs.declared.direction.Direction.TheVariants.{North, South}
use Rattle.board.specs.declared.square.Square.{Square}
use Rattle.chess_attacks.specs.declared.men.Man.{Man}
use Rattle.chess_attacks.specs.declared.men.Kind.{Kind}
use Rattle.chess_attacks.specs.declared.men.Kind.TheVariants.{Queen, Rook, Bishop, Knight}
use Rattle.chess_attacks.specs.declared.men.Side.{Side}
use Rattle.chess_attacks.specs.declared.men.Side.TheVariants.{White, Black}
use Rattle.chess_attacks.specs.Men.{is_pawn}
use Rattle.chess_attacks.specs.Lists.{beside}
use Rattle.chess_moves.specs.declared.step.Promotion.{Promotion}
use Rattle.chess_moves.specs.declared.step.Promotion.TheVariants.{Queen as ToQueen, Rook as ToRook, Bishop as ToBishop, Knight as ToKnight}

abbrev pub forward : Side → Direction
forward White = North
forward Black = South

-- the rows, counted from 0, that a side's pawns start on and become other men on
abbrev pub start_row : Side → ℕ
start_row White = 1
start_row Black = 6

abbrev pub last_row : Side → ℕ
last_row White = 7
last_row Black = 0

abbrev pub kind_of : Promotion → Kind
kind_of ToQueen = Queen
kind_of ToRook = Rook
kind_of ToBishop = Bishop
kind_of ToKnight = Knight

-- what the man m is after its move
abbrev pub becoming : Man → Option Promotion → Man
becoming m None = m
becoming m (Some k) = record { side = m.side; kind = kind_of k }

-- whether m is a pawn that becomes another man on t
abbrev pub at_end : Man → ℕ → Bool
at_end m t = is_pawn m.kind && row t == last_row m.side

-- how many squares ahead a pawn on f may step
abbrev pub stride : Side → ℕ → ℕ
stride a f = cond (row f == start_row a) 2 1

-- whether t is the square that a pawn has just passed
abbrev pub is_passing : Option ℕ → ℕ → Bool
is_passing None t = false
is_passing (Some s) t = s == t

-- whether m, from f to t, is a pawn that goes aslant to the square which another has just passed
abbrev pub en_passant : Option ℕ → Man → ℕ → ℕ → Bool
en_passant e m f t = is_pawn m.kind && (not (file f == file t) && is_passing e t)

abbrev pub two_rows : ℕ → ℕ → Bool
two_rows f t = row t == row f + 2 || row f == row t + 2

-- the square of a number below 64
abbrev pub square : ℕ → Square
square n = record { number = n % 64; ok = omega arith }

abbrev pub squared : Option ℕ → Option Square
squared None = None
squared (Some s) = Some (square s)

-- the square that m passes from f to t: a pawn that goes two rows passes the first square ahead
abbrev pub passes : Man → ℕ → ℕ → Option Square
passes m f t = cond (is_pawn m.kind && two_rows f t) (squared (beside (forward m.side) f)) None
