use Rattle.othello.proofs.Positioned.{positions}
use Rattle.othello.proofs.laws.trees_are_positions.Goals as goal

pub returns : goal.returns
returns c = positions
