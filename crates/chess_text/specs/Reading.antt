-- A diagram's text, read byte by byte.
use Rattle.std.specs.Prelude.{◌≡◌, ℕ, ◌+◌, ◌-◌, ◌*◌, ◌<◌, ◌≤◌, Bool, true, false, cond, not, ◌&&◌, T, length, replicate, Some, None, Option, ◌==◌, nat_le, nat_lt, slice_set}
use Rattle.std.proofs.Common.{ltb→lt}
use Rattle.form.specs.Forms.{Form, given}
use Rattle.board.specs.Squares.{square_at}
use Rattle.board.specs.declared.square.Square.{Square}
use Rattle.chess_text.specs.Letters.{blank, dash, slash, man_of, side_of, run_of, file_of}
use Rattle.chess_attacks.specs.Men.{Squares as Board}
use Rattle.chess_attacks.specs.declared.men.Side.{Side}
use Rattle.chess_attacks.specs.declared.men.Side.TheVariants.{White}
use Rattle.chess_moves.specs.declared.diagram.Diagram.{Diagram}
use Rattle.chess_text.specs.declared.reader.Reader.{Reader}
use Rattle.chess_text.specs.declared.reader.Awaits.{Awaits}
use Rattle.chess_text.specs.declared.reader.Awaits.TheVariants.{Squares, Mover, GapToRights, Rights, GapToPassing, Passing, PassingRow, Blanks}

-- the square of a number: none from 64 on
abbrev pub square_if : (n : ℕ) (b : Bool) → (T b → n < 64) → Option Square
square_if n true h = Some (record { number = n; ok = h tt })
square_if n false h = None

abbrev pub square : ℕ → Option Square
square n = square_if n (nat_lt n 64) (ltb→lt n 64)

abbrev pub reader : Awaits → Board → Side → Option Square → Reader
reader w b m p = record { awaits = w; board = b; mover = m; passing = p }

-- the square that comes next in a row
abbrev pub here : ℕ → ℕ → ℕ
here row left = row * 8 + (8 - left)

abbrev pub when : Bool → Reader → Option Reader
when true r = Some r
when false r = None

-- a man stands on the next square; a run of empty squares fits into the row, and no number stands before it
abbrev pub square_step : ℕ → ℕ → Bool → Board → Side → Option Square → ℕ → Option Reader
square_step row left digit b m p c =
    given (man_of c)
    (given (run_of c) None (λ n. when (not digit && nat_le n left) (reader (Squares row (left - n) true) b m p)))
    (λ x. Some (reader (Squares row (left - 1) false) (slice_set b (here row left) (Some x)) m p))

-- a row is full: the next one, or the side to move
abbrev pub row_step : ℕ → Board → Side → Option Square → ℕ → Option Reader
row_step row b m p c =
    cond (row == 0) (when (c == blank) (reader Mover b m p))
    (when (c == slash) (reader (Squares (row - 1) 8 false) b m p))

-- where a byte leads
abbrev pub step : Awaits → Board → Side → Option Square → ℕ → Option Reader
step (Squares row left digit) b m p c = cond (left == 0) (row_step row b m p c) (square_step row left digit b m p c)
step Mover b m p c = given (side_of c) None (λ s. Some (reader GapToRights b s p))
step GapToRights b m p c = when (c == blank) (reader Rights b m p)
step Rights b m p c = when (c == dash) (reader GapToPassing b m p)
step GapToPassing b m p c = when (c == blank) (reader Passing b m p)
step Passing b m p c =
    cond (c == dash) (Some (reader Blanks b m None)) (given (file_of c) None (λ f. Some (reader (PassingRow f) b m p)))
step (PassingRow f) b m p c =
    cond (c == 51) (Some (reader Blanks b m (square (square_at f 2)))) (when (c == 54) (reader Blanks b m (square (square_at f 5))))
step Blanks b m p c = when (c == blank) (reader Blanks b m p)

abbrev pub said : Awaits → Board → Side → Option Square → Option Diagram
said (Squares row left digit) b m p = None
said Mover b m p = None
said GapToRights b m p = None
said Rights b m p = None
said GapToPassing b m p = None
said Passing b m p = None
said (PassingRow f) b m p = None
said Blanks b m p = Some (record { board = b; mover = m; passing = p })

unfoldable pub empty : Board
empty = replicate 64 None

abbrev pub form : Form Reader Diagram
form = record {
  first = reader (Squares 7 8 false) empty White None;
  next = λ r c. step r.awaits r.board r.mover r.passing c;
  content = λ r. said r.awaits r.board r.mover r.passing;
}

-- the squares that are to come are on the board
abbrev pub OnBoard : Awaits → Type 0
OnBoard (Squares row left digit) = (row < 8) × (left ≤ 8)
OnBoard Mover = Unit {0}
OnBoard GapToRights = Unit {0}
OnBoard Rights = Unit {0}
OnBoard GapToPassing = Unit {0}
OnBoard Passing = Unit {0}
OnBoard (PassingRow f) = f < 8
OnBoard Blanks = Unit {0}

abbrev pub IsFit : Reader → Type 0
IsFit r = (length r.board ≡ 64) × OnBoard r.awaits
