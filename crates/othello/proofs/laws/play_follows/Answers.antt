use Rattle.othello.proofs.Followed.{play_follows_lem}
use Rattle.othello.proofs.laws.play_follows.Goals as goal

pub returns : goal.returns
returns c = play_follows_lem
