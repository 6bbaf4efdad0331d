-- How one position of an ending follows another by a move.
use Rattle.std.specs.Prelude.{◌≡◌, ℕ, ◌<◌, List, length, Some, slice_index_or}
use Rattle.std.specs.List.{slice_get}
use Rattle.game.specs.Tree.{nowhere, next, words}
use Rattle.othello.specs.Moves.{Move, text_of, Becomes, HasMoves}
use Rattle.othello.specs.Positions.{diagram_of, attacker_of, aim_of, tree_of}
use Rattle.othello.specs.declared.position.Position.{Position}

-- q comes after p by its move of number i: the placement or pass of that number, which has the text of that number, makes of p's diagram
-- that of q, and the attacker and the aim stay
pub record Follows (p : Position) (i : ℕ) (q : Position) : Type 0 where
  pub list : List Move
  pub moves : HasMoves (diagram_of p) list
  pub move : Move
  pub at : Some move ≡ slice_get list i
  pub text : Some (text_of move) ≡ slice_get (words (tree_of p)) i
  pub becomes : Becomes (diagram_of p) move (diagram_of q)
  pub attacker : attacker_of q ≡ attacker_of p
  pub aim : aim_of q ≡ aim_of p

-- the position that a move of a game leads to comes after the position that it is played in
abbrev pub PlayFollows : Type 0
PlayFollows = (p q : Position) (i : ℕ) → i < length (next (tree_of p)) → tree_of q ≡ slice_index_or (next (tree_of p)) i nowhere → Follows p i q
