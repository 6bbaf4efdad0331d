-- What a problem shows, and how one follows another by a move.
use Rattle.std.specs.Prelude.{◌≡◌, ℕ, ◌+◌, ◌<◌, length, Some, slice_index_or}
use Rattle.std.specs.List.{slice_get}
use Rattle.game.specs.Tree.{nowhere, next, words}
use Rattle.chess_attacks.specs.declared.men.Side.{Side}
use Rattle.chess_moves.specs.declared.diagram.Diagram.{Diagram}
use Rattle.chess_moves.specs.declared.step.Move.{Move}
use Rattle.chess_moves.specs.Legal.{Legal}
use Rattle.chess_moves.specs.Leaves.{Leaves}
use Rattle.chess.specs.declared.problem.Problem.{Problem}
use Rattle.chess.specs.declared.level.Level.{Level}
use Rattle.chess.specs.Trees.{text_of}
use Rattle.chess.specs.Positions.{tree_of}

abbrev pub diagram_of : Problem → Diagram
diagram_of p = p.position.diagram

abbrev pub attacker_of : Problem → Side
attacker_of p = p.attacker

abbrev pub plies_of : Problem → ℕ
plies_of p = p.plies

abbrev pub problem_of : Level → Problem
problem_of l = l.problem

-- q comes after p by its move of number i: a legal move with the text of that number leaves the diagram of q, and one ply fewer is left
pub record Follows (p : Problem) (i : ℕ) (q : Problem) : Type 0 where
  pub move : Move
  pub legal : Legal (diagram_of p) move
  pub text : Some (text_of move) ≡ slice_get (words (tree_of p)) i
  pub leaves : Leaves (diagram_of p) move (diagram_of q)
  pub attacker : attacker_of q ≡ attacker_of p
  pub plies : plies_of q + 1 ≡ plies_of p

-- the position that a move of a game leads to comes after the position that it is played in
abbrev pub PlayFollows : Type 0
PlayFollows = (p q : Problem) (i : ℕ) → i < length (next (tree_of p)) → tree_of q ≡ slice_index_or (next (tree_of p)) i nowhere → Follows p i q
