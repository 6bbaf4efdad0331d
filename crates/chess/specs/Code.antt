-- A position's code: five words. Words 0 to 3 have sixteen squares each, as digits in base 16, the lowest square in the
-- highest digit; word 4 has the rest.
use Rattle.std.specs.Prelude.{◌≡◌, ℕ, zero, suc, ◌+◌, ◌*◌, List, [], ◌∷◌, length, Some, None, Option}
use Rattle.board.specs.declared.square.Square.{Square}
use Rattle.chess_attacks.specs.Men.{Squares, on}
use Rattle.chess_attacks.specs.declared.men.Man.{Man}
use Rattle.chess_attacks.specs.declared.men.Kind.{Kind}
use Rattle.chess_attacks.specs.declared.men.Kind.TheVariants.{King, Queen, Rook, Bishop, Knight, Pawn}
use Rattle.chess_attacks.specs.declared.men.Side.{Side}
use Rattle.chess_attacks.specs.declared.men.Side.TheVariants.{White, Black}
use Rattle.chess_moves.specs.declared.diagram.Diagram.{Diagram}

abbrev pub kind_number : Kind → ℕ
kind_number King = 1
kind_number Queen = 2
kind_number Rook = 3
kind_number Bishop = 4
kind_number Knight = 5
kind_number Pawn = 6

abbrev pub side_number : Side → ℕ
side_number White = 0
side_number Black = 1

-- what stands on a square as a digit: 0 where it is empty
abbrev pub digit : Option Man → ℕ
digit None = 0
digit (Some m) = kind_number m.kind + 8 * side_number m.side

-- n squares from s on
unfoldable pub word : Squares → ℕ → ℕ → ℕ
word b s zero = 0
word b s (suc n) = word b s n * 16 + digit (on b (s + n))

-- the en passant square: 0 for none
abbrev pub passing_number : Option Square → ℕ
passing_number None = 0
passing_number (Some s) = s.number + 1

-- the attacker in bit 0, the side to move in bit 1, the en passant square in bits 2 to 8, and the plies left from bit 9 on
abbrev pub rest : Side → ℕ → Diagram → ℕ
rest a n d = ((n * 128 + passing_number d.passing) * 2 + side_number d.mover) * 2 + side_number a

-- the code of a diagram with the attacker and the plies left
abbrev pub code : Side → ℕ → Diagram → List ℕ
code a n d = word d.board 0 16 ∷ word d.board 16 16 ∷ word d.board 32 16 ∷ word d.board 48 16 ∷ rest a n d ∷ []

-- equal codes are codes of equal diagrams with the same attacker and plies left
abbrev pub CodesTell : Type 0
CodesTell =
    (a c : Side) (m n : ℕ) (d e : Diagram) → length d.board ≡ 64 → length e.board ≡ 64
    → code a m d ≡ code c n e → (a ≡ c) × (m ≡ n) × (d ≡ e)
