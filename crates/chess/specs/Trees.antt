-- A chess position as a finite tree: of a diagram, the attacker and the plies left.
use Rattle.std.specs.Prelude.{ℕ, zero, suc, Bool, true, false, cond, not, ◌&&◌, List, [], ◌∷◌, ◌++◌, Some, None, Option}
use Rattle.board.specs.Squares.{name_of}
use Rattle.game.specs.Tree.{Tree, node, Moves, none, move}
use Rattle.game.specs.declared.state.State.{State}
use Rattle.game.specs.declared.state.State.TheVariants.{Won, NotWon, Attacker, Defender}
use Rattle.chess_attacks.specs.declared.men.Side.{Side}
use Rattle.chess_attacks.specs.Men.{same_side}
use Rattle.chess_attacks.specs.Lists.{checked}
use Rattle.chess_moves.specs.declared.diagram.Diagram.{Diagram}
use Rattle.chess_moves.specs.declared.step.Move.{Move}
use Rattle.chess_moves.specs.declared.step.Promotion.{Promotion}
use Rattle.chess_moves.specs.declared.step.Promotion.TheVariants.{Queen, Rook, Bishop, Knight}
use Rattle.chess_moves.specs.After.{played}
use Rattle.chess_moves.specs.Moves.{legal_moves}
use Rattle.chess.specs.Code.{code}

-- q r b n, or a blank
abbrev pub letter : Option Promotion → ℕ
letter None = 32
letter (Some Queen) = 113
letter (Some Rook) = 114
letter (Some Bishop) = 98
letter (Some Knight) = 110

-- the text of a move: its squares, and the letter of what a pawn becomes or a blank
abbrev pub text_of : Move → List ℕ
text_of v = name_of v.from.number ++ (name_of v.to.number ++ (letter v.promotion ∷ []))

abbrev pub no_move : List Move → Bool
no_move [] = true
no_move (v ∷ vs) = false

abbrev pub is_in_check : Diagram → Bool
is_in_check d = checked d.board d.mover

-- Ended without a move or a ply; won exactly when the defender is to move, is attacked and has no legal move.
abbrev pub standing : (ours stuck check : Bool) → ℕ → State
standing ours true check n = cond (not ours && check) Won NotWon
standing ours false check zero = NotWon
standing ours false check (suc n) = cond ours Attacker Defender

unfoldable pub state_of : Side → ℕ → Diagram → State
state_of a n d = standing (same_side d.mover a) (no_move (legal_moves d)) (is_in_check d) n

-- the moves that a position has: none where no ply is left
abbrev pub choices : ℕ → Diagram → List Move
choices zero d = []
choices (suc n) d = legal_moves d

abbrev pub branches : (Diagram → Tree) → Diagram → List Move → Moves
branches f d [] = none
branches f d (v ∷ vs) = move (text_of v) (f (played d v)) (branches f d vs)

-- the tree of a diagram with n plies left, which are its rank
unfoldable pub tree : Side → ℕ → Diagram → Tree
tree a zero d = node (state_of a zero d) zero (code a zero d) none
tree a (suc n) d = node (state_of a (suc n) d) (suc n) (code a (suc n) d) (branches (tree a n) d (legal_moves d))
