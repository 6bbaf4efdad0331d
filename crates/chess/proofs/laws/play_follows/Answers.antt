use Rattle.chess.proofs.Following.{play_follows_lem}
use Rattle.chess.proofs.laws.play_follows.Goals as goal

pub returns : goal.returns
returns c = play_follows_lem
