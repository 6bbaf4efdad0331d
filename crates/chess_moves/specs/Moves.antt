-- The legal moves of a diagram as a list.
use Rattle.std.specs.Prelude.{◌≡◌, ℕ, zero, suc, Bool, true, false, cond, not, ◌&&◌, ◌||◌, ◌≤◌, List, [], ◌∷◌, ◌++◌, length, take, Some, None, Option}
use Rattle.board.specs.Masks.{member}
use Rattle.chess_attacks.specs.declared.men.Man.{Man}
use Rattle.chess_attacks.specs.declared.men.Side.{Side}
use Rattle.chess_attacks.specs.Men.{Squares, on, given, other, same_side, is_pawn, of}
use Rattle.chess_attacks.specs.Lists.{line, commands, checked, numbered}
use Rattle.chess_moves.specs.declared.diagram.Diagram.{Diagram}
use Rattle.chess_moves.specs.declared.list.MoveList.{MoveList}
use Rattle.chess_moves.specs.declared.step.Move.{Move}
use Rattle.chess_moves.specs.declared.step.Promotion.{Promotion}
use Rattle.chess_moves.specs.declared.step.Promotion.TheVariants.{Queen, Rook, Bishop, Knight}
use Rattle.chess_moves.specs.Pawns.{forward, stride, at_end, is_passing, square}
use Rattle.chess_moves.specs.After.{after}

abbrev pub empty : Option Man → Bool
empty None = true
empty (Some m) = false

-- the squares that m commands from f, and those ahead of a pawn
abbrev pub reach_of : Squares → Man → ℕ → ℕ → Bool
reach_of b m f t = member t (commands b m f)

abbrev pub ahead_of : Squares → Man → ℕ → List ℕ
ahead_of b m f = cond (is_pawn m.kind) (line b (forward m.side) f (stride m.side f)) []

abbrev pub steps_of : Squares → Man → ℕ → ℕ → Bool
steps_of b m f t = member t (ahead_of b m f)

-- Whether m, with these squares commanded and ahead, goes to t: a pawn steps to an empty square ahead and takes where it commands,
-- any other man goes where it commands and no man of its side stands.
abbrev pub goes : Squares → Option ℕ → Man → (ℕ → Bool) → (ℕ → Bool) → ℕ → Bool
goes b e m reach ahead t =
    cond (is_pawn m.kind)
    ((ahead t && empty (on b t)) || (reach t && (of (other m.side) (on b t) || is_passing e t)))
    (reach t && not (of m.side (on b t)))

abbrev pub a_move : ℕ → ℕ → Option Promotion → Move
a_move f t k = record { from = square f; to = square t; promotion = k }

-- a move, unless it leaves the king of its side attacked
unfoldable pub one : Squares → Option ℕ → Man → ℕ → ℕ → Option Promotion → List Move
one b e m f t k = cond (checked (after b e m f t k) m.side) [] (a_move f t k ∷ [])

-- the moves of m from f to t: a pawn on the last row becomes a queen, rook, bishop or knight
unfoldable pub tries : Squares → Option ℕ → Man → ℕ → ℕ → List Move
tries b e m f t =
    cond (at_end m t)
    (one b e m f t (Some Queen) ++ (one b e m f t (Some Rook) ++ (one b e m f t (Some Bishop) ++ one b e m f t (Some Knight))))
    (one b e m f t None)

-- the moves of m from f to the squares below t
unfoldable pub moves_to : Squares → Option ℕ → Man → (ℕ → Bool) → (ℕ → Bool) → ℕ → ℕ → List Move
moves_to b e m reach ahead f zero = []
moves_to b e m reach ahead f (suc t) = moves_to b e m reach ahead f t ++ cond (goes b e m reach ahead t) (tries b e m f t) []

-- the moves of the side's man on f, and of its men on the squares below f
abbrev pub moves_of : Squares → Side → Option ℕ → ℕ → List Move
moves_of b a e f = given (on b f) [] (λ m. cond (same_side m.side a) (moves_to b e m (reach_of b m f) (steps_of b m f) f 64) [])

unfoldable pub moves_from : Squares → Side → Option ℕ → ℕ → List Move
moves_from b a e zero = []
moves_from b a e (suc f) = moves_from b a e f ++ moves_of b a e f

abbrev pub legal_moves : Diagram → List Move
legal_moves d = moves_from d.board d.mover (numbered d.passing) 64

-- whether there is a move
abbrev pub any_move : List Move → Bool
any_move [] = false
any_move (v ∷ vs) = true

abbrev pub passing_of : Diagram → Option ℕ
passing_of d = numbered d.passing

-- what a list of moves holds
abbrev pub listed : MoveList → List Move
listed l = take l.count l.moves

-- where n moves fit, r is the list l with the moves vs added as far as there is room
pub record Adds (n : ℕ) (l vs r : List Move) : Type 0 where
  pub list : length l ≤ n → r ≡ take n (l ++ vs)
