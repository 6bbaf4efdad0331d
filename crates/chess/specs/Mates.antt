-- When a side mates, in the words of the Laws of Chess.
use Rattle.std.specs.Prelude.{◌≡◌, ℕ, zero, suc, ◌≢◌, ◌⊎◌, Decides}
use Rattle.game.specs.Tree.{minimax}
use Rattle.chess_attacks.specs.declared.men.Side.{Side}
use Rattle.chess_attacks.specs.Commands.{Checked}
use Rattle.chess_moves.specs.declared.diagram.Diagram.{Diagram}
use Rattle.chess_moves.specs.declared.step.Move.{Move}
use Rattle.chess_moves.specs.Legal.{Legal}
use Rattle.chess_moves.specs.Leaves.{Leaves}
use Rattle.chess_rules.specs.Lawful.{Lawful}
use Rattle.chess.specs.Trees.{tree}

-- the side to move has no legal move
abbrev pub IsStuck : Diagram → Type 0
IsStuck d = (v : Move) → Legal d v → ⊥

-- the side to move is not a, is in check and has no legal move
pub record IsMated (a : Side) (d : Diagram) : Type 0 where
  pub theirs : d.mover ≢ a
  pub check : Checked d.board d.mover
  pub stuck : IsStuck d

-- a is to move, and some legal move leaves a diagram where `later` holds; or the other side is to move, it has a legal move, and `later`
-- holds of whatever each of its legal moves leaves
pub data Forces (a : Side) (d : Diagram) (later : Diagram → Type 0) : Type 0 where
  some : d.mover ≡ a → (v : Move) → Legal d v → (e : Diagram) → Leaves d v e → later e → Forces a d later
  every : (d.mover ≢ a) → (v : Move) → Legal d v → ((w : Move) → Legal d w → (e : Diagram) → Leaves d w e → later e) → Forces a d later

-- a mates from the diagram within n plies: it has mated, or it forces a diagram from which it mates within one ply fewer
abbrev pub Mates : Side → ℕ → Diagram → Type 0
Mates a zero d = IsMated a d
Mates a (suc n) d = IsMated a d ⊎ Forces a d (Mates a n)

-- minimax over the tree of a position says exactly whether its attacker mates in the plies left
abbrev pub MinimaxIsMate : Type 0
MinimaxIsMate = (a : Side) (n : ℕ) (d : Diagram) → Lawful d → Decides (minimax (tree a n d)) (Mates a n d)
