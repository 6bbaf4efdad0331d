use Rattle.std.proofs.Common.{ℕ, Bool, eqb, sym, ap, ◌∙◌}
use Rattle.chess_attacks.specs.Men.{same_side}
use Rattle.chess_moves.specs.Moves.{listed, legal_moves}
use Rattle.chess.specs.Trees.{state_of, standing, is_in_check, no_move}
use Rattle.chess.specs.Grown.{empty_is, state_is}
use Rattle.chess.proofs.Same.{kept_tells}
use Rattle.chess.proofs.playing.LevelPosition.state.Goals as goal

pub returns-in-Some : goal.returns-in-Some
unfolding state_of
returns-in-Some c =
    let l = c.args.self.now in
    let p = l.problem in
    let vs = kept_tells l.list c.in-Some.list (legal_moves p.position.diagram) l.right c.in-Some.is in
    c.standing.ensures
    ∙ (ap (λ (x : Bool). standing (same_side p.position.diagram.mover p.attacker) x (is_in_check p.position.diagram) p.plies)
    (ap (λ (n : ℕ). eqb n 0) c.len.ensures ∙ (empty_is (listed c.in-Some.list) ∙ ap no_move vs))
    ∙ sym (state_is p.attacker p.plies p.position.diagram))
