use Rattle.othello.proofs.Forced.{minimax_forces}
use Rattle.othello.proofs.laws.minimax_is_forcing.Goals as goal

pub returns : goal.returns
returns c = minimax_forces
