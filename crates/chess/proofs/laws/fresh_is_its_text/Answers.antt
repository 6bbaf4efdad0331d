use Rattle.chess.proofs.FreshText.{fresh}
use Rattle.chess.proofs.laws.fresh_is_its_text.Goals as goal

pub returns : goal.returns
returns c = fresh
