-- What holds of a problem holds of its tree.
use Rattle.std.proofs.Common.{◌≡◌, length, Decides, ap, ◌∙◌, subst}
use Rattle.game.specs.Tree.{Tree, minimax, next}
use Rattle.chess.specs.declared.problem.Problem.{Problem}
use Rattle.chess.specs.Grown.{keeps_of, count_is, no_choices}
use Rattle.chess.specs.Mates.{Mates}
use Rattle.chess.specs.Positions.{tree_of}
use Rattle.chess.specs.Problems.{diagram_of, attacker_of, plies_of}
use Rattle.chess.specs.Standing.{IsPosition}
use Rattle.chess.proofs.Mating.{minimax_mates}
use Rattle.chess.proofs.Positioned.{positions}

pub position_at : (p : Problem) (t : Tree) → tree_of p ≡ t → IsPosition (attacker_of p) (plies_of p) (diagram_of p) t
position_at p t e = subst (IsPosition p.attacker p.plies p.position.diagram) e (positions p.attacker p.plies p.position.diagram (keeps_of p))

pub mates_at : (p : Problem) (t : Tree) → tree_of p ≡ t → Decides (minimax t) (Mates (attacker_of p) (plies_of p) (diagram_of p))
mates_at p t e =
    subst (λ (t : Tree). Decides (minimax t) (Mates p.attacker p.plies p.position.diagram)) e
    (minimax_mates p.attacker p.plies p.position.diagram (keeps_of p))

-- no move where no ply is left
pub count_zero : (p : Problem) → p.plies ≡ 0 → length (next (tree_of p)) ≡ 0
count_zero p e = count_is p.attacker p.plies p.position.diagram ∙ ap length (no_choices p.plies p.position.diagram e)
