use Rattle.std.proofs.Common.{length, sym, ap, ◌∙◌}
use Rattle.chess_moves.specs.Moves.{legal_moves}
use Rattle.chess.specs.Grown.{count_is, choices_left}
use Rattle.chess.proofs.Same.{kept_tells}
use Rattle.chess.proofs.playing.LevelPosition.count.Goals as goal

pub returns-in-Some : goal.returns-in-Some
returns-in-Some c =
    let l = c.args.self.now in
    let p = l.problem in
    c.len.ensures
    ∙ (ap length (kept_tells l.list c.in-Some.list (legal_moves p.position.diagram) l.right c.in-Some.is ∙ sym (choices_left p.plies p.position.diagram c.if-self-eq0.false))
    ∙ sym (count_is p.attacker p.plies p.position.diagram))

pub returns-in-None : goal.returns-in-None
returns-in-None c =
    let p = c.args.self.now.problem in
    c.len-in-None.ensures
    ∙ (ap length (c.moves.ensures.exact ∙ sym (choices_left p.plies p.position.diagram c.if-self-eq0.false))
    ∙ sym (count_is p.attacker p.plies p.position.diagram))
