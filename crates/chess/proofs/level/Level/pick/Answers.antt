use Rattle.chess_moves.specs.Moves.{legal_moves}
use Rattle.chess.specs.Grown.{chosen}
use Rattle.chess.proofs.Same.{kept_tells}
use Rattle.chess.proofs.level.Level.pick.Goals as goal

pub returns-in-Some : goal.returns-in-Some
returns-in-Some c =
    let l = c.args.self.now in
    chosen l.problem _ c.args.i _ c.if-self-eq0.false
    (kept_tells l.list c.in-Some.list (legal_moves l.problem.position.diagram) l.right c.in-Some.is) c.get.ensures
