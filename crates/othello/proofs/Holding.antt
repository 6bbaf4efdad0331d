-- What holds of a position holds of its tree.
use Rattle.std.proofs.Common.{◌≡◌, Decides, subst}
use Rattle.game.specs.Tree.{Tree, minimax}
use Rattle.othello.specs.Forcing.{Forces}
use Rattle.othello.specs.Positions.{tree_of, diagram_of, attacker_of, aim_of}
use Rattle.othello.specs.Standing.{IsPosition}
use Rattle.othello.specs.declared.position.Position.{Position}
use Rattle.othello.proofs.Forced.{minimax_forces}
use Rattle.othello.proofs.Positioned.{positions}

pub position_at : (p : Position) (t : Tree) → tree_of p ≡ t → IsPosition (attacker_of p) (aim_of p) (diagram_of p) t
position_at p t e = subst (IsPosition p.attacker p.aim p.diagram) e (positions p.attacker p.aim p.diagram)

pub forces_at : (p : Position) (t : Tree) → tree_of p ≡ t → Decides (minimax t) (Forces (attacker_of p) (aim_of p) (diagram_of p))
forces_at p t e =
    subst (λ (t : Tree). Decides (minimax t) (Forces p.attacker p.aim p.diagram)) e
    (minimax_forces p.attacker p.aim p.diagram).1
