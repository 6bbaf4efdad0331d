use Rattle.chess_rules.proofs.Keeping.{moves-keep}
use Rattle.chess_rules.proofs.playing.legal_moves_keep.Goals as goal

pub returns : goal.returns
returns c = moves-keep
