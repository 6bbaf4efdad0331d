-- When a side forces its margin, in the words of the rules.
use Rattle.std.specs.Prelude.{◌≡◌, ℕ, ◌≢◌, Decides}
use Rattle.game.specs.Tree.{Tree, minimax}
use Rattle.othello_rules.specs.Legal.{IsOver}
use Rattle.othello_rules.specs.declared.diagram.Diagram.{Diagram}
use Rattle.othello_rules.specs.declared.side.Side.{Side}
use Rattle.othello.specs.Endings.{tree}
use Rattle.othello.specs.Moves.{Move, May, Becomes}
use Rattle.othello.specs.Standing.{Reaches, IsPosition}

-- A side forces the margin
pub data Forces (m : Side) (aim : ℕ) : Diagram → Type 0 where
  -- where the game is over and the margin is reached,
  reached : {d : Diagram} → IsOver d → Reaches m aim d → Forces m aim d
  -- where it is to move and forces the margin after some move,
  some : {d : Diagram} → d.mover ≡ m → (v : Move) → May d v → (e : Diagram) → Becomes d v e → Forces m aim e → Forces m aim d
  -- and where the other side is to move, has a move, and whatever it does, the side forces the margin after it
  every : {d : Diagram} → d.mover ≢ m → (v : Move) → May d v
      → ((w : Move) → May d w → (e : Diagram) → Becomes d w e → Forces m aim e) → Forces m aim d

-- minimax over a position says exactly whether its attacker forces the margin, in the words alone and over the trees of the game
abbrev pub MinimaxIsForcing : Type 0
MinimaxIsForcing =
    (attacker : Side) (aim : ℕ) (d : Diagram)
    → ((t : Tree) → IsPosition attacker aim d t → Decides (minimax t) (Forces attacker aim d))
    × Decides (minimax (tree attacker aim d)) (Forces attacker aim d)
