use Rattle.othello.proofs.Said.{reading_sets}
use Rattle.othello.proofs.laws.reading_sets.Goals as goal

pub returns : goal.returns
returns c = reading_sets
