use Rattle.std.proofs.Common.{Bool, not, sym, ap, ◌∙◌}
use Rattle.chess_attacks.specs.Men.{same_side}
use Rattle.chess_moves.specs.Moves.{legal_moves}
use Rattle.chess.specs.Trees.{state_of, standing, is_in_check}
use Rattle.chess.specs.Grown.{stuck_is, state_is}
use Rattle.chess.proofs.problem.Problem.state.Goals as goal

pub returns : goal.returns
unfolding state_of
returns c =
    let p = c.args.self.now in
    c.standing.ensures
    ∙ (ap (λ (x : Bool). standing (same_side p.position.diagram.mover p.attacker) x (is_in_check p.position.diagram) p.plies)
    (ap not c.has_move-able.ensures.exact ∙ stuck_is (legal_moves p.position.diagram))
    ∙ sym (state_is p.attacker p.plies p.position.diagram))
