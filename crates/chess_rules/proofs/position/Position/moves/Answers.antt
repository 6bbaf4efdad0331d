use Rattle.std.proofs.Common.{◌≡◌, sym, subst}
use Rattle.chess_moves.specs.Legal.{Lists}
use Rattle.chess_moves.specs.Moves.{legal_moves, listed}
use Rattle.chess_rules.proofs.Listed.{whole_list}
use Rattle.chess_rules.proofs.position.Position.moves.Goals as goal

pub returns : goal.returns
returns c =
    let e : listed c.moves.result ≡ legal_moves c.args.self.now.diagram
    = whole_list c.args.self.now.diagram c.args.self.now.fair (listed c.moves.result) c.moves.ensures.all in
    record { exact = e; legal = subst (Lists c.args.self.now.diagram) (sym e) c.moves.ensures.legal }
