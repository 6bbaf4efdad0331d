use Rattle.chess.proofs.Mating.{minimax_mates}
use Rattle.chess.proofs.laws.minimax_is_mate.Goals as goal

pub returns : goal.returns
returns c = minimax_mates
