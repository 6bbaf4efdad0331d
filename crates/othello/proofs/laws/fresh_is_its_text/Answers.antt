use Rattle.othello.proofs.Said.{fresh}
use Rattle.othello.proofs.laws.fresh_is_its_text.Goals as goal

pub returns : goal.returns
returns c = fresh
