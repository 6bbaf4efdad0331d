use Rattle.chess.proofs.Meaning.{means}
use Rattle.chess.proofs.laws.reading_means.Goals as goal

pub returns : goal.returns
returns c = means
