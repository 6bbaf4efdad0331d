-- Whether a list of moves that is kept is right, as a test.
use Rattle.std.specs.Prelude.{Bool, true, false, ◌&&◌, List, [], ◌∷◌, Some, None, Option, ◌==◌}
use Rattle.chess_moves.specs.declared.step.Move.{Move}
use Rattle.chess_moves.specs.declared.list.MoveList.{MoveList}
use Rattle.chess_moves.specs.Legal.{turn_number}
use Rattle.chess_moves.specs.Moves.{listed}

abbrev pub same_move : Move → Move → Bool
same_move v w =
    (v.from.number == w.from.number)
    && (v.to.number == w.to.number && turn_number v.promotion == turn_number w.promotion)

abbrev pub same_moves : List Move → List Move → Bool
same_moves [] [] = true
same_moves [] (w ∷ ws) = false
same_moves (v ∷ vs) [] = false
same_moves (v ∷ vs) (w ∷ ws) = same_move v w && same_moves vs ws

-- no list is kept, or these moves
abbrev pub keeps : Option MoveList → List Move → Bool
keeps None vs = true
keeps (Some l) vs = same_moves (listed l) vs
