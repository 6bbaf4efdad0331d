use Rattle.chess.proofs.Positioned.{positions}
use Rattle.chess.proofs.laws.trees_are_positions.Goals as goal

pub returns : goal.returns
returns c = positions
