use Rattle.std.proofs.Common.{rules}
use Rattle.chess_moves.proofs.Whole.{any_means_by}
use Rattle.chess_moves.proofs.generation.has_move.Goals as goal

pub returns-clause-meaning : goal.returns-clause-meaning
returns-clause-meaning c = any_means_by c.args.diagram.now _ (search rules)
