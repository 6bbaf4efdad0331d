use Rattle.chess_text.proofs.Grammatical.{same-texts}
use Rattle.chess_text.proofs.grammar_stands.Goals as goal

pub returns : goal.returns
returns c = same-texts
