-- Which text stands for which diagram: the first four fields of its FEN text, and then only blanks.
use Rattle.std.specs.Prelude.{◌≡◌, ℕ, zero, suc, ◌+◌, ◌-◌, ◌*◌, ◌⊎◌, List, [], ◌∷◌, ◌++◌, length, replicate, IfSome, Some, None, Option}
use Rattle.board.specs.Squares.{row, name_of}
use Rattle.board.specs.declared.square.Square.{Square}
use Rattle.chess_attacks.specs.Men.{Squares, on}
use Rattle.chess_attacks.specs.Letters.{letter}
use Rattle.chess_text.specs.Letters.{blank, dash, slash, side_letter}
use Rattle.chess_attacks.specs.declared.men.Man.{Man}
use Rattle.chess_attacks.specs.declared.men.Side.{Side}
use Rattle.chess_moves.specs.declared.diagram.Diagram.{Diagram}

-- the last n squares of a row
unfoldable pub cells : Squares → ℕ → ℕ → List (Option Man)
cells b r zero = []
cells b r (suc n) = on b (8 * r + (7 - n)) ∷ cells b r n

-- the number of a run of empty squares; no run has no number
abbrev pub number : ℕ → List ℕ
number zero = []
number (suc n) = (48 + suc n) ∷ []

-- a row, after a run of n empty squares
unfoldable pub row_text : ℕ → List (Option Man) → List ℕ
row_text n [] = number n
row_text n (None ∷ cs) = row_text (suc n) cs
row_text n (Some m ∷ cs) = number n ++ (letter m.side m.kind ∷ row_text 0 cs)

-- the rows below a row
unfoldable pub below : Squares → ℕ → List ℕ
below b zero = []
below b (suc r) = slash ∷ (row_text 0 (cells b r 8) ++ below b r)

abbrev pub placement : Squares → List ℕ
placement b = row_text 0 (cells b 7 8) ++ below b 7

-- the en passant square
abbrev pub passing_text : Option Square → List ℕ
passing_text None = dash ∷ []
passing_text (Some s) = name_of s.number

-- the side to move, the rights and the en passant square
abbrev pub fields : Side → Option Square → List ℕ
fields m p = blank ∷ side_letter m ∷ blank ∷ dash ∷ blank ∷ passing_text p

abbrev pub written : Diagram → List ℕ
written d = placement d.board ++ fields d.mover d.passing

-- an en passant square is on row 3 or 6
abbrev pub IsPassable : Square → Type 0
IsPassable s = (row s.number ≡ 2) ⊎ (row s.number ≡ 5)

-- a board of 64 squares, and an en passant square as it may be
pub record Sound (d : Diagram) : Type 0 where
  pub squares : length d.board ≡ 64
  pub row : IfSome d.passing IsPassable

-- t stands for d: its text, and then only blanks
pub record Stands (t : List ℕ) (d : Diagram) : Type 0 where
  pub sound : Sound d
  pub blanks : ℕ
  pub text : t ≡ written d ++ replicate blanks blank

-- the texts of the form
abbrev pub Texts : List ℕ → Type 0
Texts t = (d : Diagram) × Stands t d
